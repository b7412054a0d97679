-- For this crate and for the crates above: a value lies in the box of its slice, so who has a value between two bounds is a candidate.
use Rattle.std.proofs.Common.{◌≡◌, ℕ, zero, suc, ◌+◌, ◌*◌, ◌-◌, ◌/◌, ◌<◌, ◌≤◌, max, ℤ, ◌≤ℤ◌, ◌<ℤ◌, pos, Bool, true, false, ◌&&◌, Option, None, Some, List, [], ◌∷◌, refl, sym, ap, ◌∙◌, inl, inr, ◌⊎◌, subst, arith}
use Rattle.std.specs.Prelude.{All}
use Rattle.std.specs.Int.{int_max, int_min}
use Rattle.std.specs.Prelude.{option_map}
use Rattle.std.specs.List.{cons_option, filter_map, fold, range_with_len}
use Rattle.std.specs.Option.{option_map_or}
use Rattle.std.proofs.lemmas.Int.{ints, fold-int_min_bounds, fold-int_max_bounds}
use Rattle.std.proofs.lemmas.Bool.{cases_eq, false≢true, false_from_ne_true}
use Rattle.std.proofs.lemmas.Bool.Decides.{nat_tests}
use Rattle.std.proofs.lemmas.List.Elements.{All-cons, All-head, All-tail}
use Rattle.tick_set.specs.Ticks.{between}
use Rattle.tick_set.proofs.Between.{any_between_at}
use Rattle.plane.specs.Recorded.{Recorded}
use Rattle.plane.specs.Boxes.{Box, Grid, box_in, box_of, is_candidate, lies_on, number_at, slice_first, slice_last, slice_meets, strips_between, strips_in, strips_of}
use Rattle.plane.specs.Rows.{is_between, is_in_range, IsCovered}
use Rattle.plane.specs.declared.limits.TheConstants.{SLICES}
use Rattle.plane.proofs.StripLemmas.{meeting}

-- a box has a value
pub record HasValue (found : Option Box) (z : ℤ) : Type 0 where
  pub box : Box
  pub is : found ≡ Some box
  pub least : box.least ≤ℤ z
  pub greatest : z ≤ℤ box.greatest

-- a number is one of these
abbrev IsOneOf : List ℤ → ℤ → Type 0
IsOneOf [] z = ⊥
IsOneOf (y ∷ ys) z = (y ≡ z) ⊎ IsOneOf ys z

at_one : (P : ℤ → Type 0) (zs : List ℤ) (z : ℤ) → All P zs → IsOneOf zs z → P z
at_one P [] z all one = absurd one
at_one P (y ∷ ys) z all (inl same) = subst P same (All-head P y ys all)
at_one P (y ∷ ys) z all (inr one) = at_one P ys z (All-tail P y ys all) one

box_has : (zs : List ℤ) (z : ℤ) → IsOneOf zs z → HasValue (box_of zs) z
box_has [] z one = absurd one
box_has (y ∷ ys) z one =
    let low = fold-int_min_bounds y ys (fold int_min y ys) refl in
    let high = fold-int_max_bounds y ys (fold int_max y ys) refl in
    let P : ℤ → Type 0 = λ x. fold int_min y ys ≤ℤ x in
    let Q : ℤ → Type 0 = λ x. x ≤ℤ fold int_max y ys in
    record {
      box = record { least = fold int_min y ys; greatest = fold int_max y ys };
      is = refl;
      least = at_one P (y ∷ ys) z (All-cons P y ys low.0 low.1) one;
      greatest = at_one Q (y ∷ ys) z (All-cons Q y ys high.0 high.1) one;
    }

-- ---- the values at ticks

behind : (first : Option ℤ) (zs : List ℤ) (z : ℤ) → IsOneOf zs z → IsOneOf (cons_option first zs) z
behind None zs z one = one
behind (Some y) zs z one = inr one

ahead : (first : Option ℤ) (zs : List ℤ) (z : ℤ) → first ≡ Some z → IsOneOf (cons_option first zs) z
ahead None zs z is = absurd (grind arith)
ahead (Some y) zs z is = let same : y ≡ z = grind arith in inl same

valued : (f : ℕ → Option ℤ) (n a t : ℕ) (z : ℤ) → a ≤ t → t < a + n → f t ≡ Some z → IsOneOf (filter_map f (range_with_len a n)) z
valued f zero a t z from below is = absurd (omega arith)
valued f (suc n) a t z from below is =
    elim (cases_eq a t) [
      | inl same ↦ ahead (f a) (filter_map f (range_with_len (a + 1) n)) z (ap f same ∙ is)
      | inr apart ↦ behind (f a) (filter_map f (range_with_len (a + 1) n)) z (valued f n (a + 1) t z (omega (arith, apart)) (omega arith) is)
    ]

valued_between : (f : ℕ → Option ℤ) (a b t : ℕ) (z : ℤ) → a ≤ t → t < b → f t ≡ Some z → HasValue (box_of (filter_map f (between a b))) z
unfolding between
valued_between f a b t z from below is = box_has (filter_map f (range_with_len a (b - a))) z (valued f (b - a) a t z from (omega arith) is)

-- the box of a slice has the value at each of its ticks from which on the last state is in force
pub value_in_box : (r : Recorded) (g : Grid) (id s t : ℕ) (z : ℤ) → slice_first g s ≤ t → t ≤ slice_last g s → r.begun id ≤ t →
    number_at r.history g.attribute id t ≡ Some z → HasValue (box_in r g id s) z
value_in_box r g id s t z from to begun is =
    valued_between (number_at r.history g.attribute id) (max (slice_first g s) (r.begun id)) (slice_last g s + 1) t z (omega arith) (omega arith) is

-- ---- candidates

lies : (g : Grid) (lo hi z : ℤ) (found : Option Box) → pos 0 <ℤ g.width → is_between lo hi z ≡ true → HasValue found z →
    lies_on (strips_between g.width lo hi) (option_map (strips_of g.width) found) ≡ true
lies g lo hi z found wide between has =
    let at = meeting g.width lo hi z has.box wide (grind (arith, ints, nat_tests)) (grind (arith, ints, nat_tests)) has.least has.greatest in
    ap (λ b. lies_on (strips_between g.width lo hi) (option_map (strips_of g.width) b)) has.is ∙ at

-- whether there is a number that passes a test
pub record Passes (p : ℤ → Bool) (found : Option ℤ) : Type 0 where
  pub number : ℤ
  pub is : found ≡ Some number
  pub passes : p number ≡ true

passing : (p : ℤ → Bool) (found : Option ℤ) → option_map_or p found false ≡ true → Passes p found
passing p None h = absurd (false≢true h)
passing p (Some z) h = record { number = z; is = refl; passes = h }

slice_of : (f t : ℕ) → f ≤ t → (f + 1000 * ((t - f) / 1000) ≤ t) × (t ≤ f + 1000 * ((t - f) / 1000) + 1000 - 1)
slice_of f t h = (omega arith, omega arith)

candidate_if : (r : Recorded) (g : Grid) (lo hi : ℤ) (from e : ℕ) → IsCovered r g from e → (id t : ℕ) → r.begun id ≤ from → from ≤ t → t ≤ e →
    is_in_range r.history g.attribute lo hi id t ≡ true → is_candidate r g lo hi from e id ≡ true
candidate_if r g lo hi from e covered id t begun after before is =
    let found = passing (is_between lo hi) (number_at r.history g.attribute id t) is in
    let s : ℕ = (t - g.from) / 1000 in
    let first = covered.first in
    let last = covered.last in
    let bounds = slice_of g.from t (omega arith) in
    let has = value_in_box r g id s t found.number bounds.0 bounds.1 (omega arith) found.is in
    let there = lies g lo hi found.number (box_in r g id s) covered.width found.passes has in
    let meets : slice_meets g from e s ≡ true = grind (arith, nat_tests, bounds.0, bounds.1) in
    any_between_at (λ k. slice_meets g from e k && lies_on (strips_between g.width lo hi) (strips_in r g id k)) 0 SLICES s (omega arith) (omega (arith, bounds.0))
    (ap (λ b. b && lies_on (strips_between g.width lo hi) (strips_in r g id s)) meets ∙ there)

pub not_in_range : (r : Recorded) (g : Grid) (lo hi : ℤ) (from e : ℕ) → IsCovered r g from e → (id : ℕ) → r.begun id ≤ from →
    is_candidate r g lo hi from e id ≡ false → (t : ℕ) → from ≤ t → t ≤ e → is_in_range r.history g.attribute lo hi id t ≡ false
not_in_range r g lo hi from e covered id begun none t after before =
    false_from_ne_true (is_in_range r.history g.attribute lo hi id t) (λ is. false≢true (sym none ∙ candidate_if r g lo hi from e covered id t begun after before is))
