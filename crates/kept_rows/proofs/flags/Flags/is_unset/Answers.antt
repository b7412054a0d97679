use Rattle.std.proofs.Common.{◌/◌, ◌%◌, true, not, eqb, ap, ◌∙◌}
use Rattle.std.specs.Prelude.{slice_get}
use Rattle.std.specs.Int.{bit_at}
use Rattle.std.specs.Option.{option_map_or}
use Rattle.kept_rows.proofs.FlagLemmas.{is_zero}
use Rattle.kept_rows.proofs.flags.Flags.is_unset.Goals as goal

pub returns-in-Some : goal.returns-in-Some
returns-in-Some c =
    is_zero c.in-Some.word.now (c.args.number % 64)
    ∙ ap (λ o. not (option_map_or (λ word. eqb (bit_at word (c.args.number % 64)) 1) o true))
    (c.in-Some.ensures ∙ ap (λ xs. slice_get xs (c.args.number / 64)) c.deref.ensures.value)

pub returns-in-None : goal.returns-in-None
returns-in-None c =
    ap (λ o. not (option_map_or (λ word. eqb (bit_at word (c.args.number % 64)) 1) o true))
    (c.in-None.ensures ∙ ap (λ xs. slice_get xs (c.args.number / 64)) c.deref.ensures.value)
