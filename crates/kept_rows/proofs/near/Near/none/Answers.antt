use Rattle.std.proofs.Common.{◌≡◌, List, ℕ, true, false, sym, subst}
use Rattle.kept_rows.specs.Near.{is_near_in}
use Rattle.kept_rows.proofs.NearLemmas.{near-none}
use Rattle.kept_rows.proofs.near.Near.none.Goals as goal

pub returns : goal.returns
returns c = λ rows n t e. subst (λ (xs : List ℕ). is_near_in false xs 1 n t ≡ true) (sym c.new.ensures.items) (near-none false 1 n t)
