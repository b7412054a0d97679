-- The objects of the binding of a key.
use Rattle.std.proofs.Common.{◌≡◌, ℕ, ◌<◌, Bool, true, ◌&&◌, nat_lt, List, slice_index, sym, ap, subst}
use Rattle.std.proofs.lemmas.Bool.{lt-ltb}
use Rattle.formula.specs.Variables.{variables_in}
use Rattle.relation.specs.Key.{key_in}
use Rattle.evaluator.specs.Interpreting.{IsInFor}
use Rattle.evaluator.specs.Keys.{binding_of}
use Rattle.evaluator.proofs.BindingLemmas.{binding_inside}

-- the binding of a key has objects of the domains
pub inside_at : (p : ℕ → Bool) → ((v : ℕ) → p v ≡ true → v < 4) → (vars : List ℕ) → vars ≡ variables_in p → (domains : List (List ℕ)) (key : List ℕ) → key_in domains vars key ≡ true →
    IsInFor domains p (slice_index (binding_of vars key))
inside_at p over vars are domains key inside =
    subst (λ (vs : List ℕ). IsInFor domains p (slice_index (binding_of vs key))) (sym are)
    (binding_inside domains p key over (subst (λ (vs : List ℕ). key_in domains vs key ≡ true) are inside))

pub known_one : (var count : ℕ) → var < count → (nat_lt var count && true) ≡ true
known_one var count l = ap (λ (b : Bool). b && true) (lt-ltb var count l)
