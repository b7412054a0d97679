-- The laws of numbers and of rows.
use Rattle.std.proofs.Common.{◌≡◌, ℕ, ◌+◌, ◌*◌, ◌/◌, ◌%◌, ◌<◌, ◌≤◌, Bool, true, false, not, ◌&&◌, ◌||◌, eqb, ltb, cond, List, [], ◌∷◌, refl, ap, sym, ◌∙◌, inl, inr, arith, if◌then◌else◌}
use Rattle.std.specs.Ordering.{nat_cmp, ordering_then}
use Rattle.std.specs.Cmp.Lexicographic.{slice_cmp}
use Rattle.std.specs.declared.cmp.Ordering.TheVariants.{Less, Equal, Greater}
use Rattle.std.proofs.lemmas.Bool.{and_parts, both_ways, cases_Bool, cases_order, eq-eqb, eqb-true, false_from_ne_true, le-ltb, lt-ltb, ltb-true, ne_eqb}
use Rattle.std.proofs.lemmas.Nat.{div-add-mod', mod_below, row_fits}
use Rattle.kept_rows.specs.declared.binding.Variable.{Variable}
use Rattle.kept_rows.specs.Exact.{AreFullRows, HaveOneMore}
use Rattle.kept_rows.specs.Numbers.{counts, holds_written, places_of, size_of}
use Rattle.kept_rows.proofs.NumberLemmas.{number-below, size-some}
use Rattle.exact.proofs.Truths.{and_false, and_true}

-- ---- order
cmp-less : (x y : ℕ) → x < y → nat_cmp x y ≡ Less
cmp-less x y h = ap (λ b. cond b Less (cond (eqb x y) Equal Greater)) (lt-ltb x y h)

cmp-equal : (x y : ℕ) → x ≡ y → nat_cmp x y ≡ Equal
cmp-equal x y e =
    ap (λ b. cond b Less (cond (eqb x y) Equal Greater)) (le-ltb x y (omega (arith, e)))
    ∙ ap (λ b. cond b Equal Greater) (eq-eqb x y e)

cmp-greater : (x y : ℕ) → y < x → nat_cmp x y ≡ Greater
cmp-greater x y h =
    ap (λ b. cond b Less (cond (eqb x y) Equal Greater)) (le-ltb x y (omega (arith, h)))
    ∙ ap (λ b. cond b Equal Greater) (ne_eqb x y (λ e. omega (arith, e, h)))

-- numbers of one place are ordered as what is left of them
cmp-rest : (n m a b q : ℕ) → q + a ≡ n → q + b ≡ m → nat_cmp a b ≡ nat_cmp n m
cmp-rest n m a b q e f =
    elim (cases_order a b) [
      | inl s ↦ cmp-equal a b s ∙ sym (cmp-equal n m (omega (arith, e, f, s)))
      | inr s ↦
          elim s [
            | inl l ↦ cmp-less a b l ∙ sym (cmp-less n m (omega (arith, e, f, l)))
            | inr l ↦ cmp-greater a b l ∙ sym (cmp-greater n m (omega (arith, e, f, l)))
          ]
    ]

-- a smaller place makes a smaller number
place-less : (n m s : ℕ) → 0 < s → n / s < m / s → n < m
place-less n m s some h =
    let step : n / s * s + s ≤ m / s * s = row_fits (n / s) s (m / s) s h (omega arith) in
    let r : n % s < s = mod_below n s some in
    omega (arith, step, r, div-add-mod' n s, div-add-mod' m s)

pub order : (vs : List Variable) (n m : ℕ) → n < size_of vs → m < size_of vs → slice_cmp nat_cmp (places_of vs n) (places_of vs m) ≡ nat_cmp n m
order [] n m h k = sym (cmp-equal n m (omega (arith, h, k)))
order (v ∷ vs) n m h k =
    let s : ℕ = size_of vs in
    let some : 1 ≤ size_of vs = size-some vs in
    ap (ordering_then (nat_cmp (n / size_of vs) (m / size_of vs))) (order vs (n % size_of vs) (m % size_of vs) (mod_below n (size_of vs) some) (mod_below m (size_of vs) some))
    ∙ elim (cases_order (n / size_of vs) (m / size_of vs)) [
      | inl e ↦
          ap (λ o. ordering_then o (nat_cmp (n % size_of vs) (m % size_of vs))) (cmp-equal (n / size_of vs) (m / size_of vs) e)
          ∙ cmp-rest n m (n % size_of vs) (m % size_of vs) (n / size_of vs * size_of vs) (div-add-mod' n (size_of vs))
          (ap (λ q. q * size_of vs + m % size_of vs) e ∙ div-add-mod' m (size_of vs))
      | inr t ↦
          elim t [
            | inl l ↦
                ap (λ o. ordering_then o (nat_cmp (n % size_of vs) (m % size_of vs))) (cmp-less (n / size_of vs) (m / size_of vs) l)
                ∙ sym (cmp-less n m (place-less n m (size_of vs) some l))
            | inr l ↦
                ap (λ o. ordering_then o (nat_cmp (n % size_of vs) (m % size_of vs))) (cmp-greater (n / size_of vs) (m / size_of vs) l)
                ∙ sym (cmp-greater n m (place-less m n (size_of vs) some l))
          ]
    ]

-- ---- bindings
pub below_size : (vs : List Variable) (n : ℕ) → counts vs n ≡ true → n < size_of vs
below_size [] n e = let z : n ≡ 0 = eqb-true n 0 e in omega (arith, z)
below_size (v ∷ vs) n e =
    let parts = and_parts (ltb (n / size_of vs) v.count) (counts vs (n % size_of vs)) e in
    let place : n / size_of vs < v.count = ltb-true (n / size_of vs) v.count parts.0 in
    let below : n / size_of vs * size_of vs + n % size_of vs < v.capacity * size_of vs =
    number-below (n / size_of vs) (n % size_of vs) (size_of vs) v.capacity (omega (arith, place, v.room)) (mod_below n (size_of vs) (size-some vs)) in
    omega (arith, below, div-add-mod' n (size_of vs))

-- ---- an insert
same-size : (vs ws : List Variable) → HaveOneMore vs ws → size_of ws ≡ size_of vs
same-size [] [] h = refl
same-size [] (w ∷ ws) h = absurd h
same-size (v ∷ vs) [] h = absurd h
same-size (v ∷ vs) (w ∷ ws) h = ap (λ k. k * size_of ws) h.0 ∙ ap (λ k. v.capacity * k) (same-size vs ws h.2)

pub same_places : (vs ws : List Variable) (n : ℕ) → HaveOneMore vs ws → places_of ws n ≡ places_of vs n
same_places [] [] n h = refl
same_places [] (w ∷ ws) n h = absurd h
same_places (v ∷ vs) [] n h = absurd h
same_places (v ∷ vs) (w ∷ ws) n h =
    ap (λ k. n / k ∷ places_of ws (n % k)) (same-size vs ws h.2)
    ∙ ap (λ ps. n / size_of vs ∷ ps) (same_places vs ws (n % size_of vs) h.2)

four-tests : (a b c d : Bool) → ((a && not b) && (c && not d)) ≡ ((a && c) && not (b || d))
four-tests false b c d = refl
four-tests true false c d = refl
four-tests true true true d = refl
four-tests true true false d = refl

pub one_more : (vs ws : List Variable) (n : ℕ) → HaveOneMore vs ws → counts vs n ≡ (counts ws n && not (holds_written ws n))
one_more [] [] n h = and-all (eqb n 0)
  where
    and-all : (b : Bool) → b ≡ (b && true)
    and-all true = refl
    and-all false = refl
one_more [] (w ∷ ws) n h = absurd h
one_more (v ∷ vs) [] n h = absurd h
one_more (v ∷ vs) (w ∷ ws) n h =
    ap (λ b. b && counts vs (n % size_of vs)) (h.1 (n / size_of vs))
    ∙ ap (λ b. (ltb (n / size_of vs) w.count && not (eqb (n / size_of vs) w.own)) && b) (one_more vs ws (n % size_of vs) h.2)
    ∙ four-tests (ltb (n / size_of vs) w.count) (eqb (n / size_of vs) w.own) (counts ws (n % size_of vs)) (holds_written ws (n % size_of vs))
    ∙ ap (λ k. (ltb (n / k) w.count && counts ws (n % k)) && not (eqb (n / k) w.own || holds_written ws (n % k))) (sym (same-size vs ws h.2))

-- ---- a refresh
pub stays_exact : (rows rows' : ℕ → ℕ → Bool) (counts counts' holds_written : ℕ → Bool) (full full' : ℕ → ℕ → Bool) →
    AreFullRows rows counts full →
    ((c : ℕ) → counts c ≡ true → counts' c ≡ true) →
    ((c : ℕ) → holds_written c ≡ false → counts' c ≡ counts c) →
    ((c t : ℕ) → holds_written c ≡ false → full' c t ≡ full c t) →
    ((c t : ℕ) → rows' c t ≡ (if counts' c && holds_written c then full' c t else rows c t)) →
    AreFullRows rows' counts' full'
stays_exact rows rows' counts counts' holds_written full full' before grown others local anew c t =
    anew c t
    ∙ elim (cases_Bool (holds_written c)) [
      | inr none ↦
          ap (λ b. if counts' c && b then full' c t else rows c t) none
          ∙ ap (λ b. if b then full' c t else rows c t) (and_false (counts' c))
          ∙ before c t ∙ ap (λ b. b && full c t) (sym (others c none)) ∙ ap (λ b. counts' c && b) (sym (local c t none))
      | inl here ↦
          ap (λ b. if counts' c && b then full' c t else rows c t) here
          ∙ ap (λ b. if b then full' c t else rows c t) (and_true (counts' c))
          ∙ elim (cases_Bool (counts' c)) [
            | inl there ↦ ap (λ b. if b then full' c t else rows c t) there ∙ sym (ap (λ b. b && full' c t) there)
            | inr gone ↦
                let was : counts c ≡ false = false_from_ne_true (counts c) (λ e. both_ways (counts' c) gone (grown c e)) in
                ap (λ b. if b then full' c t else rows c t) gone ∙ before c t ∙ ap (λ b. b && full c t) was ∙ sym (ap (λ b. b && full' c t) gone)
          ]
    ]
