-- A small formula with numbers for its atoms and bounds, measured by hand.
use Rattle.std.specs.Prelude.{◌≡◌, ℕ, true, false, ◌==◌, [], ◌∷◌}
use Rattle.fixed_point.specs.declared.variants.BoundForm.TheVariants as bounds
use Rattle.fixed_point.specs.declared.variants.UntilForm.TheVariants as untils
use Rattle.formula_shape.specs.Shape.{Shape}
use Rattle.formula_shape.specs.Sizes.{nodes, depth, nesting, has_not, has_part, largest_size, gathered}

-- [7] (NEXTTIME 1 AND [8] EVENTUALLY_WITHIN 5 2) UNTIL 3
abbrev pub small : Shape ℕ ℕ
small =
    Shape.Until untils.Plain 0
    (Shape.Assign 7
    (Shape.And (Shape.Next (Shape.Atom 1)) (Shape.Assign 8 (Shape.Bounded bounds.Within 5 (Shape.Atom 2)))))
    (Shape.Atom 3)

pub record IsMeasured : Type 0 where
  pub nodes_are : nodes small ≡ 9
  pub depth_is : depth small ≡ 6
  pub nesting_is : nesting small ≡ 2
  pub truth_is_a_node : nodes {A = ℕ} {B = ℕ} (Shape.Truth true) ≡ 1
  pub each_side_counts : nesting (Shape.Or small (Shape.Assign 9 small)) ≡ 3
  pub without_not : has_not small ≡ false
  pub with_not : has_not (Shape.Always (Shape.Or small (Shape.Not small))) ≡ true

pub record ArePartsGathered : Type 0 where
  pub parts : gathered (λ a. a ∷ []) (λ b. b ∷ []) small ≡ 7 ∷ 1 ∷ 8 ∷ 2 ∷ 3 ∷ []
  pub in_an_atom : has_part (λ a. a == 2) (λ _. false) small ≡ true
  pub in_an_assignment : has_part (λ _. false) (λ b. b == 8) small ≡ true
  pub in_none : has_part (λ a. a == 8) (λ b. b == 2) small ≡ false
  pub largest_atom : largest_size (λ a. a) (λ _. 0) small ≡ 3
  pub largest_of_all : largest_size (λ a. a) (λ b. b) small ≡ 8
