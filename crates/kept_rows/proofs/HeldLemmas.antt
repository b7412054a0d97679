-- Ascending numbers, and numbers with one more variable in front.
use Rattle.std.proofs.Common.{◌≡◌, ℕ, ◌+◌, ◌*◌, ◌/◌, ◌%◌, ◌<◌, ◌≤◌, Bool, true, false, ◌&&◌, ◌||◌, eqb, ltb, List, [], ◌∷◌, ◌++◌, map, refl, ap, sym, ◌∙◌, inl, inr, arith, if◌then◌else◌}
use Rattle.std.proofs.lemmas.Bool.{cases_eq, cases_lt, cases_order, eq-eqb, ne_eqb, lt-ltb, le-ltb}
use Rattle.std.proofs.lemmas.List.Folds.{list_any-append}
use Rattle.std.proofs.lemmas.Nat.{mul-le, row_fits, same_from_place, div-add-mod', mod_below}
use Rattle.tick_set.specs.TickList.{has}
use Rattle.kept_rows.specs.declared.binding.Variable.{Variable}
use Rattle.kept_rows.specs.Numbers.{size_of, counts, holds_written}
use Rattle.kept_rows.specs.Rising.{AscendsWithin}
use Rattle.kept_rows.proofs.RisingLemmas.{rising-wider, rising-append, rising-shift}
use Rattle.exact.proofs.Truths.{and_over_or, false_is_and}

-- ---- places and numbers of the later variables
pub place-fits : (p count capacity w : ℕ) → p < count → count ≤ capacity → capacity * w ≤ 1000000 → p * w + w ≤ 1000000
place-fits p count capacity w h k l =
    let here : p < capacity = omega (arith, h, k) in
    let s : p * w + w ≤ capacity * w = row_fits p w capacity w here (omega arith) in
    omega (arith, s, l)

same-place : (q x p d w : ℕ) → x < w → d < w → eqb (q * w + x) (p * w + d) ≡ (eqb p q && eqb x d)
same-place q x p d w h k =
    elim (cases_eq (q * w + x) (p * w + d)) [
      | inl e ↦
          let s = same_from_place q x p d w h k e in
          eq-eqb (q * w + x) (p * w + d) e ∙ sym (ap (λ b. b && eqb x d) (eq-eqb p q (sym s.0)) ∙ eq-eqb x d s.1)
      | inr other ↦
          ne_eqb (q * w + x) (p * w + d) other
          ∙ elim (cases_eq p q) [
            | inl e ↦
                elim (cases_eq x d) [
                  | inl f ↦ absurd (other (ap (λ k. k * w + x) (sym e) ∙ ap (λ k. p * w + k) f))
                  | inr apart ↦ sym (ap (λ b. eqb p q && b) (ne_eqb x d apart) ∙ and-none (eqb p q))
                ]
            | inr apart ↦ sym (ap (λ b. b && eqb x d) (ne_eqb p q apart))
          ]
    ]
  where
    and-none : (b : Bool) → (b && false) ≡ false
    and-none true = refl
    and-none false = refl

pub has-shift : (q w p d from : ℕ) (xs : List ℕ) → AscendsWithin from w xs → d < w →
    has (map (λ e. q * w + e) xs) (p * w + d) ≡ (eqb p q && has xs d)
has-shift q w p d from [] r h = false_is_and (eqb p q)
has-shift q w p d from (x ∷ xs) r h =
    ap (λ b. b || has (map (λ e. q * w + e) xs) (p * w + d)) (same-place q x p d w r.1 h)
    ∙ ap (λ b. (eqb p q && eqb x d) || b) (has-shift q w p d (x + 1) xs r.2 h)
    ∙ and_over_or (eqb p q) (eqb x d) (has xs d)

pub has-append : (xs ys : List ℕ) (c : ℕ) → has (xs ++ ys) c ≡ (has xs c || has ys c)
has-append xs ys c = list_any-append (λ u. eqb u c) xs ys

-- ---- one place more
step-test : (p place : ℕ) (x y : Bool) → (p ≡ place → y ≡ x) → ((ltb p place && x) || (eqb p place && y)) ≡ (ltb p (place + 1) && x)
step-test p place x y same =
    elim (cases_order p place) [
      | inl e ↦
          ap (λ b. (b && x) || (eqb p place && y)) (le-ltb p place (omega (arith, e)))
          ∙ ap (λ b. b && y) (eq-eqb p place e) ∙ same e
          ∙ sym (ap (λ b. b && x) (lt-ltb p (place + 1) (omega (arith, e))))
      | inr s ↦
          elim s [
            | inl l ↦
                ap (λ b. (b && x) || (eqb p place && y)) (lt-ltb p place l)
                ∙ ap (λ b. x || (b && y)) (ne_eqb p place (λ e. omega (arith, e, l))) ∙ or-none x
                ∙ sym (ap (λ b. b && x) (lt-ltb p (place + 1) (omega (arith, l))))
            | inr l ↦
                ap (λ b. (b && x) || (eqb p place && y)) (le-ltb p place (omega (arith, l)))
                ∙ ap (λ b. b && y) (ne_eqb p place (λ e. omega (arith, e, l)))
                ∙ sym (ap (λ b. b && x) (le-ltb p (place + 1) (omega (arith, l))))
          ]
    ]
  where
    or-none : (b : Bool) → (b || false) ≡ b
    or-none true = refl
    or-none false = refl

has-if : (b : Bool) (xs ys : List ℕ) (d : ℕ) → has (if b then xs else ys) d ≡ (if b then has xs d else has ys d)
has-if true xs ys d = refl
has-if false xs ys d = refl

pub rising-if : (b : Bool) (f t : ℕ) (xs ys : List ℕ) → AscendsWithin f t xs → AscendsWithin f t ys → AscendsWithin f t (if b then xs else ys)
rising-if true f t xs ys r s = r
rising-if false f t xs ys r s = s

pub has-more : (made : List ℕ) (w place own : ℕ) (all held : List ℕ) → AscendsWithin 0 w all → AscendsWithin 0 w held →
    ((p d : ℕ) → d < w → has made (p * w + d) ≡ (ltb p place && (if eqb p own then has all d else has held d))) →
    (p d : ℕ) → d < w → has (made ++ map (λ e. place * w + e) (if eqb place own then all else held)) (p * w + d)
    ≡ (ltb p (place + 1) && (if eqb p own then has all d else has held d))
has-more made w place own all held r s before p d l =
    has-append made (map (λ e. place * w + e) (if eqb place own then all else held)) (p * w + d)
    ∙ ap (λ b. b || has (map (λ e. place * w + e) (if eqb place own then all else held)) (p * w + d)) (before p d l)
    ∙ ap (λ b. (ltb p place && (if eqb p own then has all d else has held d)) || b)
    (has-shift place w p d 0 (if eqb place own then all else held) (rising-if (eqb place own) 0 w all held r s) l)
    ∙ step-test p place (if eqb p own then has all d else has held d) (has (if eqb place own then all else held) d)
    (λ e. has-if (eqb place own) all held d ∙ ap (λ k. if eqb k own then has all d else has held d) (sym e))

-- ---- the numbers of one variable more, at each number
-- where a binding holds the object
and-all : (b : Bool) → b ≡ (b && true)
and-all true = refl
and-all false = refl

held-test : (p count own : ℕ) (k h x y : Bool) → (p ≡ own → p < count → x ≡ k) → y ≡ (k && h) →
    (ltb p count && (if eqb p own then x else y)) ≡ ((ltb p count && k) && (eqb p own || h))
held-test p count own k h x y here rest =
    elim (cases_lt p count) [
      | inr past ↦ rw (le-ltb p count past) refl
      | inl below ↦
          elim (cases_eq p own) [
            | inl e ↦ rw (lt-ltb p count below, eq-eqb p own e) (here e below ∙ and-all k)
            | inr apart ↦ rw (lt-ltb p count below, ne_eqb p own apart) rest
          ]
    ]

-- the number of a place and a number of the later variables is any number
pub at-parts : (xs : List ℕ) (w c : ℕ) → has xs c ≡ has xs (c / w * w + c % w)
at-parts xs w c = ap (has xs) (sym (div-add-mod' c w))

pub held-at : (xs all held : List ℕ) (w count own c : ℕ) (k h : Bool) → 0 < w →
    ((p d : ℕ) → d < w → has xs (p * w + d) ≡ (ltb p count && (if eqb p own then has all d else has held d))) →
    (own < count → has all (c % w) ≡ k) → has held (c % w) ≡ (k && h) →
    has xs c ≡ ((ltb (c / w) count && k) && (eqb (c / w) own || h))
held-at xs all held w count own c k h some spread of-all of-held =
    at-parts xs w c ∙ spread (c / w) (c % w) (mod_below c w some)
    ∙ held-test (c / w) count own k h (has all (c % w)) (has held (c % w)) (λ e below. of-all (omega (arith, e, below))) of-held

pub all-at : (xs all : List ℕ) (w count c : ℕ) (k : Bool) → 0 < w →
    ((p d : ℕ) → d < w → has xs (p * w + d) ≡ (ltb p count && has all d)) → has all (c % w) ≡ k →
    has xs c ≡ (ltb (c / w) count && k)
all-at xs all w count c k some spread of-all =
    at-parts xs w c ∙ spread (c / w) (c % w) (mod_below c w some) ∙ ap (λ b. ltb (c / w) count && b) of-all

pub held-of : (vs : List Variable) (v : Variable) (ws : List Variable) (xs all held all' held' : List ℕ) (w n : ℕ) →
    vs ≡ v ∷ ws → w ≡ size_of ws → 0 < w → all' ≡ all → held' ≡ held →
    ((p d : ℕ) → d < w → has xs (p * w + d) ≡ (ltb p v.count && (if eqb p v.own then has all' d else has held' d))) →
    (v.own < v.count → (c : ℕ) → has all c ≡ counts ws c) → ((c : ℕ) → has held c ≡ (counts ws c && holds_written ws c)) →
    has xs n ≡ (counts vs n && holds_written vs n)
held-of vs v ws xs all held all' held' w n evs ew some ea eh spread of-all of-held =
    held-at xs all' held' w v.count v.own n (counts ws (n % w)) (holds_written ws (n % w)) some spread
    (λ b. ap (λ l. has l (n % w)) ea ∙ of-all b (n % w)) (ap (λ l. has l (n % w)) eh ∙ of-held (n % w))
    ∙ ap (λ k. (ltb (n / k) v.count && counts ws (n % k)) && (eqb (n / k) v.own || holds_written ws (n % k))) ew
    ∙ ap (λ l. counts l n && holds_written l n) (sym evs)

-- ---- places in front, one after another
pub more-place : (n w : ℕ) → n * w + w ≡ (n + 1) * w
more-place n w = omega arith

pub rising-more : (made digits : List ℕ) (w place : ℕ) → AscendsWithin 0 (place * w) made → AscendsWithin 0 w digits →
    AscendsWithin 0 ((place + 1) * w) (made ++ map (λ d. place * w + d) digits)
rising-more made digits w place r s =
    let more : place * w + w ≡ (place + 1) * w = more-place place w in
    rising-append 0 (place * w) ((place + 1) * w) made (map (λ d. place * w + d) digits) (omega arith) (omega (arith, more)) r
    (rising-shift (place * w) 0 w (place * w) ((place + 1) * w) digits (omega arith) (omega (arith, more)) s)

pub rising-own : (digits : List ℕ) (w own count capacity : ℕ) → own < count → count ≤ capacity → AscendsWithin 0 w digits →
    AscendsWithin 0 (capacity * w) (map (λ d. own * w + d) digits)
rising-own digits w own count capacity h k r =
    let s : own * w + w ≤ capacity * w = row_fits own w capacity w (omega (arith, h, k)) (omega arith) in
    rising-shift (own * w) 0 w 0 (capacity * w) digits (omega arith) s r

pub rising-all : (made : List ℕ) (w place capacity : ℕ) → place ≤ capacity → AscendsWithin 0 (place * w) made → AscendsWithin 0 (capacity * w) made
rising-all made w place capacity h r = rising-wider 0 0 (place * w) (capacity * w) made (omega arith) (mul-le place w capacity w h (omega arith)) r

pub own-test : (p own count : ℕ) (x : Bool) → own < count → (eqb p own && x) ≡ (ltb p count && (if eqb p own then x else false))
own-test p own count x h =
    elim (cases_eq p own) [
      | inl e ↦ rw (eq-eqb p own e, lt-ltb p count (omega (arith, e, h))) refl
      | inr apart ↦ rw (ne_eqb p own apart) (false_is_and (ltb p count))
    ]
