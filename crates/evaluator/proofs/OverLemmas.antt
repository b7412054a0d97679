-- Variables that add no choice.
use Rattle.std.proofs.Common.{◌≡◌, ℕ, ◌||◌, not, Bool, true, false, nat_le, List, [], refl, subst, if◌then◌else◌}
use Rattle.std.proofs.lemmas.Bool.{and_from, or_right}
use Rattle.std.specs.Str.{bytes_eq}
use Rattle.relation.specs.Key.{has_id}
use Rattle.evaluator.specs.inner.ByBinding.{adds_no_choice, asks_no_more}

-- no variable of a key's own adds one
adds_of_own : (size : ℕ → ℕ) (vars : List ℕ) (v : ℕ) → adds_no_choice size vars vars v ≡ true
adds_of_own size vars v = either (has_id vars v) (nat_le (size v) 1)
  where
    either : (here few : Bool) → (if here then here else (not here || few)) ≡ true
    either true few = refl
    either false few = refl

-- what has these very variables is asked no more often
pub asks_for_own : (size : ℕ → ℕ) (own vars : List ℕ) → own ≡ vars → asks_no_more size vars own ≡ true
asks_for_own size own vars same =
    subst (λ (vs : List ℕ). asks_no_more size vs own ≡ true) same
    (or_right (bytes_eq own []) _
    (and_from _ _ (adds_of_own size own 0) (and_from _ _ (adds_of_own size own 1) (and_from _ _ (adds_of_own size own 2) (adds_of_own size own 3)))))
