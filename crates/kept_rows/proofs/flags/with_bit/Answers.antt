use Rattle.std.proofs.Common.{eqb, ap, sym, ◌∙◌, if◌then◌else◌}
use Rattle.std.specs.Int.{bit_at}
use Rattle.kept_rows.proofs.FlagLemmas.{bit_cleared, bit_set}
use Rattle.kept_rows.proofs.flags.with_bit.Goals as goal

pub returns-then-is_set : goal.returns-then-is_set
returns-then-is_set c i below =
    bit_set c.args.word c.args.at i c.requires
    ∙ ap (λ b. if eqb i c.args.at then b else eqb (bit_at c.args.word i) 1) (sym c.if-is_set.true)

pub returns-else-is_set : goal.returns-else-is_set
returns-else-is_set c i below =
    bit_cleared c.args.word c.args.at i c.requires below
    ∙ ap (λ b. if eqb i c.args.at then b else eqb (bit_at c.args.word i) 1) (sym c.if-is_set.false)
