-- A walk from the start.
use Rattle.std.proofs.Common.{◌≡◌, ℕ, Bool, List, [], map, ap, ◌∙◌, subst}
use Rattle.relation.specs.declared.operation.Operation.{Operation}
use Rattle.relation.specs.declared.part.Part.{Part}
use Rattle.relation.specs.Frames.{IsIn}
use Rattle.relation.specs.Operations.{combined_between}
use Rattle.relation.specs.Part.{part_has}
use Rattle.relation.specs.Rows.{Table, has_at, table, table_has}
use Rattle.relation.specs.Walk.{HasWalked}
use Rattle.relation.proofs.WalkLemmas.{combined_same}

module _ {S : Type 0} (member : S → ℕ → Bool) (op : Operation) (vars : List ℕ) (p q : Part S) (self other made : Table S) (key : List ℕ)
    (empty : made ≡ table vars self.domains self.lo self.hi []) (no_key : key ≡ []) where
  module _ (new : Table S) (walked : HasWalked member op key vars p q made new) where
    from_start : HasWalked member op [] vars p q (table vars self.domains self.lo self.hi []) new
    from_start = subst (λ (z : Table S). HasWalked member op [] vars p q z new) empty (subst (λ (k : List ℕ). HasWalked member op k vars p q made new) no_key walked)

    pub walked_has : ((b : ℕ → ℕ) (t : ℕ) → part_has member p b t ≡ table_has member self b t) → ((b : ℕ → ℕ) (t : ℕ) → part_has member q b t ≡ table_has member other b t) →
        (b : ℕ → ℕ) → IsIn self.domains b → (t : ℕ) → table_has member new b t ≡ combined_between op self.lo self.hi (table_has member self b) (table_has member other b) t
    walked_has left right b is_in t =
        ap (λ (vs : List ℕ). has_at member new.rows (map b vs) t) from_start.head.vars
        ∙ from_start.here b is_in t
        ∙ combined_same op self.lo self.hi (table_has member self b) (part_has member p b) (table_has member other b) (part_has member q b) (left b) (right b) t
