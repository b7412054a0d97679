use Rattle.std.proofs.Common.{◌∙◌, ℕ, nat_le, sym}
use Rattle.replica.proofs.TickLemmas.{any_pairs}
use Rattle.replica.proofs.rows.has_from.Goals as goal

pub returns : goal.returns
returns c = c.some_ends_from.ensures ∙ sym (any_pairs (λ (s : ℕ × ℕ). nat_le c.args.first s.1) c.args.spans.now)
