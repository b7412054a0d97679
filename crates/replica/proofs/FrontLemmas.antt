-- Runs that a change leaves as they are, and those behind them.
use Rattle.std.proofs.Common.{◌≡◌, ◌∙◌, ℕ, zero, suc, ◌+◌, ◌<◌, ◌≤◌, Bool, true, false, leb, ◌||◌, List, [], ◌∷◌, ◌++◌, length, take, get_or, refl, ap, sym, subst, inl, inr, arith}
use Rattle.std.specs.List.Sorted.{IsNonDecreasingBy}
use Rattle.std.proofs.lemmas.Bool.Decides.{nat_tests}
use Rattle.std.proofs.lemmas.Bool.{false≢true, or_cases, or_left, or_right}
use Rattle.tick_set.specs.declared.operation.SetOperation.{SetOperation}
use Rattle.tick_set.specs.declared.operation.SetOperation.TheVariants.{Union, Meet, Without}
use Rattle.tick_set.specs.declared.spans.Span.{Span}
use Rattle.tick_set.specs.Runs.{IsNormal, IsNormalFrom, pairs, spans_have}
use Rattle.tick_set.specs.SetOperation.{kept}
use Rattle.tick_set.specs.Ticks.{within}
use Rattle.tick_set.proofs.Between.{within_from, within_parts}
use Rattle.tick_set.proofs.RunLemmas.{IsNormalFrom-weaker, spans_have-append}
use Rattle.replica.specs.Ticks.{StayBefore, combined}
use Rattle.replica.proofs.TickLemmas.{combined_is}
use Rattle.interval_set.proofs.SpanLemmas.{ticks_from}

-- ---- Where the front ends

hi_at_least : (spans : List Span) (from j : ℕ) (d : Span) → IsNormalFrom from spans → j < length spans → from ≤ (get_or spans j d).hi
hi_at_least [] from j d h l = absurd (omega arith)
hi_at_least (s ∷ rest) from zero d h l = let order : s.lo ≤ s.hi = s.ordered in omega (arith, h.0)
hi_at_least (s ∷ rest) from (suc j) d h l = let order : s.lo ≤ s.hi = s.ordered in omega (arith, h.0, hi_at_least rest (s.hi + 2) j d h.1 (omega arith))

hi_rises : (spans : List Span) (from i j : ℕ) (d : Span) → IsNormalFrom from spans → i ≤ j → j < length spans → (get_or spans i d).hi ≤ (get_or spans j d).hi
hi_rises [] from i j d h l k = absurd (omega arith)
hi_rises (s ∷ rest) from zero zero d h l k = omega arith
hi_rises (s ∷ rest) from zero (suc j) d h l k = omega (arith, hi_at_least rest (s.hi + 2) j d h.1 (omega arith))
hi_rises (s ∷ rest) from (suc i) zero d h l k = absurd (omega arith)
hi_rises (s ∷ rest) from (suc i) (suc j) d h l k = hi_rises rest (s.hi + 2) i j d h.1 (omega arith) (omega arith)

pub ends_rise : (spans : List Span) → IsNormal spans → IsNonDecreasingBy (λ s. s.hi + 2) spans
ends_rise spans h i j d l k = omega (arith, hi_rises spans 0 i j d h l k)

pub ended : (spans : List Span) (n lo t : ℕ) → n ≤ length spans → ((k : ℕ) (d : Span) → k < n → leb ((get_or spans k d).hi + 2) lo ≡ true)
    → spans_have (take n spans) t ≡ true → t + 2 ≤ lo
ended [] zero lo t l h e = absurd (false≢true e)
ended [] (suc n) lo t l h e = absurd (omega arith)
ended (s ∷ rest) zero lo t l h e = absurd (false≢true e)
ended (s ∷ rest) (suc n) lo t l h e = elim (or_cases (within s.lo s.hi t) (spans_have (take n rest) t) e) [
  | inl here ↦ grind (arith, nat_tests, h 0 s (omega arith), within_parts s.lo s.hi t here)
  | inr later ↦ ended rest n lo t (omega arith) (λ k d m. h (suc k) d (omega arith)) later
]

-- ---- A front and what stands behind it

pub normal_front : (xs ys : List Span) (from : ℕ) → IsNormalFrom from (xs ++ ys) → IsNormalFrom from xs
normal_front [] ys from h = tt
normal_front (x ∷ xs) ys from h = (h.0, normal_front xs ys (x.hi + 2) h.1)

pub normal_tail : (xs ys : List Span) (from : ℕ) → IsNormalFrom from (xs ++ ys) → IsNormal ys
normal_tail [] ys from h = IsNormalFrom-weaker from 0 ys (omega arith) h
normal_tail (x ∷ xs) ys from h = normal_tail xs ys (x.hi + 2) h.1

before_tail : (xs ys : List Span) (from t u : ℕ) → IsNormalFrom from (xs ++ ys) → spans_have xs t ≡ true → spans_have ys u ≡ true → t + 2 ≤ u
before_tail [] ys from t u h e f = absurd (false≢true e)
before_tail (x ∷ xs) ys from t u h e f = elim (or_cases (within x.lo x.hi t) (spans_have xs t) e) [
  | inl here ↦
      let there : spans_have (xs ++ ys) u ≡ true = spans_have-append xs ys u ∙ or_right (spans_have xs u) (spans_have ys u) f in
      omega (arith, within_parts x.lo x.hi t here, ticks_from (xs ++ ys) (x.hi + 2) u h.1 there)
  | inr later ↦ before_tail xs ys (x.hi + 2) t u h.1 later f
]

has_end : (x : Span) (xs : List Span) → spans_have (x ∷ xs) x.hi ≡ true
has_end x xs = let order : x.lo ≤ x.hi = x.ordered in or_left (within x.lo x.hi x.hi) (spans_have xs x.hi) (within_from x.lo x.hi x.hi order (omega arith))

has_begin : (x : Span) (xs : List Span) → spans_have (x ∷ xs) x.lo ≡ true
has_begin x xs = let order : x.lo ≤ x.hi = x.ordered in or_left (within x.lo x.hi x.lo) (spans_have xs x.lo) (within_from x.lo x.hi x.lo (omega arith) order)

join_normal : (xs ys : List Span) (from : ℕ) → IsNormalFrom from xs → IsNormal ys
    → ((t u : ℕ) → spans_have xs t ≡ true → spans_have ys u ≡ true → t + 2 ≤ u) → ((u : ℕ) → spans_have ys u ≡ true → from ≤ u) → IsNormalFrom from (xs ++ ys)
join_normal [] [] from h n apart least = tt
join_normal [] (y ∷ ys) from h n apart least = (least y.lo (has_begin y ys), n.1)
join_normal (x ∷ xs) ys from h n apart least =
    (h.0, join_normal xs ys (x.hi + 2) h.1 n (λ t u e f. apart t u (or_right (within x.lo x.hi t) (spans_have xs t) e) f) (λ u f. apart x.hi u (has_end x xs) f))

kept_one : (operation : SetOperation) (x y : Bool) → kept operation x y ≡ true → (x || y) ≡ true
kept_one Union true y h = refl
kept_one Union false true h = refl
kept_one Union false false h = absurd (false≢true h)
kept_one Meet true y h = refl
kept_one Meet false y h = absurd (false≢true h)
kept_one Without true y h = refl
kept_one Without false y h = absurd (false≢true h)

module _ (operation : SetOperation) (front tail told made : List Span) (old : IsNormal (front ++ tail)) (normal : IsNormal made)
    (ticks : (t : ℕ) → spans_have made t ≡ kept operation (spans_have tail t) (spans_have told t)) (stay : StayBefore operation front told) where
  pub front_normal : IsNormal (front ++ made)
  front_normal = join_normal front made 0 (normal_front front tail 0 old) normal
      (λ t u e f. elim (or_cases (spans_have tail u) (spans_have told u) (kept_one operation (spans_have tail u) (spans_have told u) (sym (ticks u) ∙ f))) [
        | inl here ↦ before_tail front tail 0 t u old e here
        | inr there ↦ (stay t e).1 u there
      ])
      (λ u f. omega arith)

  kept_at : (t : ℕ) (b c : Bool) → spans_have front t ≡ b → spans_have told t ≡ c → (b || kept operation (spans_have tail t) c) ≡ kept operation (b || spans_have tail t) c
  kept_at t true true e f = absurd (omega (arith, (stay t e).1 t f))
  kept_at t true false e f = sym ((stay t e).0)
  kept_at t false c e f = refl

  pub front_ticks : (t : ℕ) → spans_have (front ++ made) t ≡ kept operation (spans_have (front ++ tail) t) (spans_have told t)
  front_ticks t = spans_have-append front made t ∙ ap (λ b. spans_have front t || b) (ticks t)
      ∙ kept_at t (spans_have front t) (spans_have told t) refl refl ∙ ap (λ b. kept operation b (spans_have told t)) (sym (spans_have-append front tail t))

  pub front_combined : pairs (front ++ made) ≡ combined operation (pairs (front ++ tail)) (pairs told)
  front_combined = combined_is operation (front ++ tail) told (front ++ made) front_normal front_ticks

pub stay_before : (operation : SetOperation) (front told : List Span) (lo : ℕ) → kept operation true false ≡ true → ((t : ℕ) → spans_have front t ≡ true → t + 2 ≤ lo)
    → IsNormalFrom lo told → StayBefore operation front told
stay_before operation front told lo keeps before from t e = (keeps, λ u f. omega (arith, before t e, ticks_from told lo u from f))

pub from_first : (told rest : List Span) (s : Span) → told ≡ s ∷ rest → IsNormal told → IsNormalFrom s.lo told
from_first told rest s is h = subst (λ spans. IsNormal spans → IsNormalFrom s.lo spans) (sym is) (λ n. (omega arith, n.1)) h
