-- Fewer objects are read no more often.
use Rattle.std.proofs.Common.{ℕ, ◌+◌, ◌*◌, ◌≤◌, Bool, true, false, List, [], ◌∷◌, length, if◌then◌else◌, arith}
use Rattle.std.specs.Prelude.{◌==◌, sum_by}
use Rattle.std.specs.List.{list_any}
use Rattle.std.proofs.lemmas.List.Sums.{sum_by-le-sum_by}
use Rattle.std.proofs.lemmas.Nat.{mul-le}
use Rattle.tick_set.specs.Ticks.{between}
use Rattle.formula_shape.specs.Shape as shapes
use Rattle.formula.specs.Tree.{ResolvedQuery, ResolvedTree}
use Rattle.meaning.specs.Reads.{atom_variables, choices, looks, made_single, query_reads, reads, term_variables}
use Rattle.exact.proofs.Naturals.{at_most_itself, sum_within}

abbrev IsWithin : (ℕ → ℕ) → (ℕ → ℕ) → Type 0
IsWithin fewer more = (v : ℕ) → fewer v ≤ more v

choices_within : (fewer more : ℕ → ℕ) → IsWithin fewer more → (vs : List ℕ) → choices fewer vs ≤ choices more vs
choices_within fewer more within [] = omega arith
choices_within fewer more within (v ∷ vs) =
    mul-le (fewer v) (choices fewer vs) (more v) (choices more vs) (within v) (choices_within fewer more within vs)

looks_within : (fewer more : ℕ → ℕ) → IsWithin fewer more → (vs : List ℕ) → looks fewer vs ≤ looks more vs
looks_within fewer more within vs =
    mul-le (choices fewer vs) (length vs) (choices more vs) (length vs) (choices_within fewer more within vs) (at_most_itself (length vs))

chosen_within : (b : Bool) (m n : ℕ) → m ≤ n → (if b then 1 else m) ≤ (if b then 1 else n)
chosen_within true m n within = omega arith
chosen_within false m n within = within

single_within : (fewer more : ℕ → ℕ) → IsWithin fewer more → (vs : List ℕ) → IsWithin (made_single fewer vs) (made_single more vs)
single_within fewer more within vs v = chosen_within (list_any (λ u. u == v) vs) (fewer v) (more v) (within v)

reads_within : (fewer more : ℕ → ℕ) → IsWithin fewer more → (ticks : ℕ) (f : ResolvedTree) → reads fewer ticks f ≤ reads more ticks f
reads_within fewer more within ticks (shapes.Truth b) = omega arith
reads_within fewer more within ticks (shapes.Atom a) = looks_within fewer more within (atom_variables a)
reads_within fewer more within ticks (shapes.Not f) = reads_within fewer more within ticks f
reads_within fewer more within ticks (shapes.And f g) =
    sum_within (reads fewer ticks f) (reads fewer ticks g) (reads more ticks f) (reads more ticks g)
    (reads_within fewer more within ticks f) (reads_within fewer more within ticks g)
reads_within fewer more within ticks (shapes.Or f g) =
    sum_within (reads fewer ticks f) (reads fewer ticks g) (reads more ticks f) (reads more ticks g)
    (reads_within fewer more within ticks f) (reads_within fewer more within ticks g)
reads_within fewer more within ticks (shapes.Next f) = reads_within fewer more within ticks f
reads_within fewer more within ticks (shapes.Eventually f) = reads_within fewer more within ticks f
reads_within fewer more within ticks (shapes.Always f) = reads_within fewer more within ticks f
reads_within fewer more within ticks (shapes.Bounded form c f) = reads_within fewer more within ticks f
reads_within fewer more within ticks (shapes.Until form c f g) =
    sum_within (reads fewer ticks f) (reads fewer ticks g) (reads more ticks f) (reads more ticks g)
    (reads_within fewer more within ticks f) (reads_within fewer more within ticks g)
reads_within fewer more within ticks (shapes.Assign (d, q) f) =
    let vs = term_variables q in
    let part = reads_within (made_single fewer vs) (made_single more vs) (single_within fewer more within vs) ticks f in
    mul-le (choices fewer vs) (length vs + ticks * reads (made_single fewer vs) ticks f)
    (choices more vs) (length vs + ticks * reads (made_single more vs) ticks f)
    (choices_within fewer more within vs)
    (sum_within (length vs) (ticks * reads (made_single fewer vs) ticks f) (length vs) (ticks * reads (made_single more vs) ticks f)
    (at_most_itself (length vs))
    (mul-le ticks (reads (made_single fewer vs) ticks f) ticks (reads (made_single more vs) ticks f) (at_most_itself ticks) part))

pub query_reads_within : (fewer more : ℕ → ℕ) → IsWithin fewer more → (ticks : ℕ) (q : ResolvedQuery) →
    query_reads fewer ticks q ≤ query_reads more ticks q
query_reads_within fewer more within ticks q =
    sum_within (reads fewer ticks q.formula) (sum_by fewer (between 0 (length q.classes)))
    (reads more ticks q.formula) (sum_by more (between 0 (length q.classes)))
    (reads_within fewer more within ticks q.formula)
    (sum_by-le-sum_by fewer more (between 0 (length q.classes)) within)
