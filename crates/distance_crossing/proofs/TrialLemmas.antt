-- Bisections for the numbers that pass a test, where these are consecutive.
use Rattle.std.proofs.Common.{◌≡◌, ℕ, ◌+◌, ◌-◌, ◌*◌, ◌<◌, ◌≤◌, Bool, true, false, ◌&&◌, [], ◌∷◌, ⊎_elim, unsigned_abs, ℤ, pos, negsuc, ◌*ℤ◌, ◌≤ℤ◌, ◌<ℤ◌, IsTrue, nat_le, int_le, refl, subst, sym, ◌∙◌, arith}
use Rattle.std.proofs.lemmas.Bool.{cases_lt}
use Rattle.std.proofs.lemmas.Bool.Decides.{nat_tests}
use Rattle.std.proofs.lemmas.Int.{ints}
use Rattle.std.proofs.lemmas.Nat.{mul-le}
use Rattle.fixed_point.specs.declared.number.Point.{Point}
use Rattle.geometry.specs.Circle.{squared_width}
use Rattle.geometry.specs.Plane.{squared_distance}
use Rattle.linear_crossing.specs.Moving.{position_after, distance_after}
use Rattle.linear_crossing.specs.declared.quad.Line.{Line}
use Rattle.tick_set.specs.Runs.{IsRuns}
use Rattle.tick_set.specs.Ticks.{within}
use Rattle.tick_set.specs.declared.spans.Span.{Span}
use Rattle.distance_crossing.specs.Trials.{fit_at, over_at, under_at, IsClose}
use Rattle.distance_crossing.specs.declared.trial.Trial.{Trial}
use Rattle.distance_crossing.proofs.LeastCircles.{three_fit-least}
use Rattle.distance_crossing.proofs.CircleTicks.{fit_between, none_before, none_after}

not_true : (x : Bool) → (x ≡ true → ⊥) → x ≡ false
not_true true h = absurd (h refl)
not_true false h = refl

true_false : (x : Bool) → x ≡ true → x ≡ false → ⊥
true_false x f h = absurd (cc)

-- ---- one of the numbers of first to last that pass: each that does is one of low to until, without until
pub record IsBounded (test : ℕ → Bool) (first last low until : ℕ) : Type 0 where
  pub from : first ≤ low
  pub bound : until ≤ last + 1
  pub around : (t : ℕ) → first ≤ t → t ≤ last → test t ≡ true → (low ≤ t) × (t < until)

pub bounded_start : (test : ℕ → Bool) (first last : ℕ) → IsBounded test first last first (last + 1)
bounded_start test first last = record { from = omega arith; bound = omega arith; around = λ t l m h. (l, omega arith) }

pub bounded_before : (test : ℕ → Bool) (first last low until middle : ℕ) → IsBounded test first last low until → low ≤ middle → middle < until
    → ((t : ℕ) → middle ≤ t → t ≤ last → test t ≡ false) → IsBounded test first last low middle
bounded_before test first last low until middle h l m none = record {
  from = h.from;
  bound = omega (arith, h.bound);
  around = λ t a b p. ⊎_elim (λ (k : t < middle). let at = h.around t a b p in (omega arith, k)) (λ (k : middle ≤ t). absurd (true_false (test t) p (none t k b))) (cases_lt t middle);
}

pub bounded_after : (test : ℕ → Bool) (first last low until middle : ℕ) → IsBounded test first last low until → low ≤ middle → middle < until
    → ((t : ℕ) → t ≤ middle → test t ≡ false) → IsBounded test first last (middle + 1) until
bounded_after test first last low until middle h l m none = record {
  from = omega (arith, h.from);
  bound = h.bound;
  around = λ t a b p. ⊎_elim (λ (k : middle < t). let at = h.around t a b p in (omega arith, omega arith)) (λ (k : t ≤ middle). absurd (true_false (test t) p (none t k))) (cases_lt middle t);
}

pub bounded_none : (test : ℕ → Bool) (first last low until : ℕ) → IsBounded test first last low until → until ≤ low → (t : ℕ) → first ≤ t → t ≤ last → test t ≡ false
bounded_none test first last low until h l t a b = not_true (test t) (λ p. let at = h.around t a b p in omega arith)

-- ---- the first of them, where found passes: none below low passes, and high does
abbrev pub IsGapless : (ℕ → Bool) → Type 0
IsGapless test = (i j k : ℕ) → i ≤ j → j ≤ k → test i ≡ true → test k ≡ true → test j ≡ true

pub record IsFirst (test : ℕ → Bool) (first found low high : ℕ) : Type 0 where
  pub from : first ≤ low
  pub ordered : low ≤ high
  pub bound : high ≤ found
  pub passes : test high ≡ true
  pub none : (t : ℕ) → first ≤ t → t < low → test t ≡ false

pub first_start : (test : ℕ → Bool) (first found : ℕ) → first ≤ found → test found ≡ true → IsFirst test first found first found
first_start test first found l h = record { from = omega arith; ordered = l; bound = omega arith; passes = h; none = λ t a b. absurd (omega arith) }

pub first_here : (test : ℕ → Bool) (first found low high middle : ℕ) → IsFirst test first found low high → low ≤ middle → middle ≤ high → test middle ≡ true → IsFirst test first found low middle
first_here test first found low high middle h l m p = record { from = h.from; ordered = l; bound = omega (arith, h.bound); passes = p; none = h.none }

pub first_later : (test : ℕ → Bool) (first found low high middle : ℕ) → IsGapless test → IsFirst test first found low high → low ≤ middle → middle < high → test middle ≡ false
    → IsFirst test first found (middle + 1) high
first_later test first found low high middle gapless h l m p = record {
  from = omega (arith, h.from);
  ordered = omega arith;
  bound = h.bound;
  passes = h.passes;
  none = λ t a b. not_true (test t) (λ q. true_false (test middle) (gapless t middle high (omega arith) (omega arith) q h.passes) p);
}

pub first_found : (test : ℕ → Bool) (first found low high : ℕ) → IsGapless test → IsFirst test first found low high → high ≤ low → test found ≡ true
    → (t : ℕ) → first ≤ t → t ≤ found → test t ≡ nat_le high t
first_found test first found low high gapless h l p t a b =
    ⊎_elim
    (λ (k : t < high). let no = h.none t a (omega arith) in grind (arith, nat_tests, no))
    (λ (k : high ≤ t). let yes = gapless high t found k b h.passes p in grind (arith, nat_tests, yes))
    (cases_lt t high)

-- ---- the last of them: none above high passes, and low does
pub record IsLast (test : ℕ → Bool) (found last low high : ℕ) : Type 0 where
  pub from : found ≤ low
  pub ordered : low ≤ high
  pub bound : high ≤ last
  pub passes : test low ≡ true
  pub none : (t : ℕ) → high < t → t ≤ last → test t ≡ false

pub last_start : (test : ℕ → Bool) (found last : ℕ) → found ≤ last → test found ≡ true → IsLast test found last found last
last_start test found last l h = record { from = omega arith; ordered = l; bound = omega arith; passes = h; none = λ t a b. absurd (omega arith) }

pub last_here : (test : ℕ → Bool) (found last low high middle : ℕ) → IsLast test found last low high → low ≤ middle → middle ≤ high → test middle ≡ true → IsLast test found last middle high
last_here test found last low high middle h l m p = record { from = omega (arith, h.from); ordered = m; bound = h.bound; passes = p; none = h.none }

pub last_sooner : (test : ℕ → Bool) (found last low high middle : ℕ) → IsGapless test → IsLast test found last low high → low < middle → middle ≤ high → test middle ≡ false
    → IsLast test found last low (middle - 1)
last_sooner test found last low high middle gapless h l m p = record {
  from = h.from;
  ordered = omega arith;
  bound = omega (arith, h.bound);
  passes = h.passes;
  none = λ t a b. not_true (test t) (λ q. true_false (test middle) (gapless low middle t (omega arith) (omega arith) h.passes q) p);
}

pub last_found : (test : ℕ → Bool) (found last low high : ℕ) → IsGapless test → IsLast test found last low high → high ≤ low → test found ≡ true
    → (t : ℕ) → found ≤ t → t ≤ last → test t ≡ nat_le t low
last_found test found last low high gapless h l p t a b =
    ⊎_elim
    (λ (k : low < t). let no = h.none t (omega arith) b in grind (arith, nat_tests, no))
    (λ (k : t ≤ low). let yes = gapless found t low a k p h.passes in grind (arith, nat_tests, yes))
    (cases_lt low t)

-- ---- both ends, as one span of ticks
pub fitting_runs : (test : ℕ → Bool) (from : ℕ) (span s : Span) (found first last : ℕ) → from ≤ span.lo → s.lo ≡ from + first → s.hi ≡ from + last
    → span.lo - from ≤ first → first ≤ found → found ≤ last → last ≤ span.hi - from
    → ((t : ℕ) → span.lo - from ≤ t → t ≤ found → test t ≡ nat_le first t) → ((t : ℕ) → found ≤ t → t ≤ span.hi - from → test t ≡ nat_le t last)
    → IsRuns (λ t. within span.lo span.hi t && test (t - from)) (s ∷ [])
fitting_runs test from span s found first last begin lo hi low left right high before after = record {
  normal = (omega arith, tt);
  ticks = λ t.
      let order : span.lo ≤ span.hi = span.ordered in
      ⊎_elim
      (λ (a : t < span.lo). grind (arith, nat_tests))
      (λ (a : span.lo ≤ t). ⊎_elim
      (λ (b : span.hi < t). grind (arith, nat_tests))
      (λ (b : t ≤ span.hi). ⊎_elim
      (λ (k : t - from < found). let at = before (t - from) (omega arith) (omega arith) in grind (arith, nat_tests, at))
      (λ (k : found ≤ t - from). let at = after (t - from) k (omega arith) in grind (arith, nat_tests, at))
      (cases_lt (t - from) found))
      (cases_lt span.hi t))
      (cases_lt t span.lo);
}

-- ---- a trial: the least circle by its fraction, over / under
pub close_by_number : (m : Trial) (from lo hi : ℕ) → from ≤ lo → lo ≤ hi → ((t : ℕ) → within lo hi t ≡ true → IsClose m (t - from))
    → (k : ℕ) → lo - from ≤ k → k ≤ hi - from → IsClose m k
close_by_number m from lo hi l order close k a b =
    let P : ℕ → Type 0 = λ i. IsClose m i in
    let is : from + k - from ≡ k = omega arith in
    let inside : within lo hi (from + k) ≡ true = grind (arith, nat_tests) in
    subst P is (close (from + k) inside)

pub not_at_most : (a b : ℕ) (v : Bool) → v ≡ false → (a ≤ b → IsTrue v) → b < a
not_at_most a b v e f = ⊎_elim (λ (l : b < a). l) (λ (l : a ≤ b). absurd (true_false v (f l) e)) (cases_lt b a)

pub not_below : (a b : ℕ) (v : Bool) → v ≡ false → (a < b → IsTrue v) → b ≤ a
not_below a b v e f = ⊎_elim (λ (l : a < b). absurd (true_false v (f l) e)) (λ (l : b ≤ a). l) (cases_lt a b)

pub gapless_trial : (m : Trial) → IsGapless (fit_at m)
gapless_trial m i j k = fit_between m.p m.q m.s m.r i j k

width_fits : (over under width : ℕ) (o u w : ℤ) → pos over ≡ o → pos under ≡ u → pos width ≡ w → over ≤ width * under → int_le o (w *ℤ u) ≡ true
width_fits over under width o u w e f g h =
    let P : ℤ → Type 0 = λ k. int_le k (w *ℤ u) ≡ true in let Q : ℤ → Type 0 = λ k. int_le (pos over) (w *ℤ k) ≡ true in let R : ℤ → Type 0 = λ k. int_le (pos over) (k *ℤ pos under) ≡ true in
    let low : int_le (pos over) (pos width *ℤ pos under) ≡ true = grind (arith, ints) in
    subst P e (subst Q f (subst R g low))

width_exceeded : (over under width : ℕ) (o u w : ℤ) → pos over ≡ o → pos under ≡ u → pos width ≡ w → width * under < over → int_le o (w *ℤ u) ≡ false
width_exceeded over under width o u w e f g h =
    let P : ℤ → Type 0 = λ k. int_le k (w *ℤ u) ≡ false in let Q : ℤ → Type 0 = λ k. int_le (pos over) (w *ℤ k) ≡ false in let R : ℤ → Type 0 = λ k. int_le (pos over) (k *ℤ pos under) ≡ false in
    let high : int_le (pos over) (pos width *ℤ pos under) ≡ false = grind (arith, ints) in
    subst P e (subst Q f (subst R g high))

module _ (m : Trial) (k over under width : ℕ) (is_over : pos over ≡ over_at m k) (is_under : pos under ≡ under_at m k) (is_width : pos width ≡ squared_width m.r) where
  pub trial_fits : over ≤ width * under → fit_at m k ≡ true
  trial_fits h = three_fit-least m.r (position_after m.p k) (position_after m.q k) (position_after m.s k) ∙ width_fits over under width _ _ _ is_over is_under is_width h

  pub trial_exceeds : width * under < over → fit_at m k ≡ false
  trial_exceeds h = three_fit-least m.r (position_after m.p k) (position_after m.q k) (position_after m.s k) ∙ width_exceeded over under width _ _ _ is_over is_under is_width h

  module _ (over' under' : ℕ) (next_over : pos over' ≡ over_at m (k + 1)) (next_under : pos under' ≡ under_at m (k + 1)) where
    pub trial_falls : width * under < over → over' * under < over * under' → (t : ℕ) → t ≤ k → fit_at m t ≡ false
    trial_falls h g t l = none_before m.p m.q m.s m.r k t (trial_exceeds h) (falls _ _ _ _ is_over is_under next_over next_under) l
      where
        falls : (o u o' u' : ℤ) → pos over ≡ o → pos under ≡ u → pos over' ≡ o' → pos under' ≡ u' → (o' *ℤ u) <ℤ (o *ℤ u')
        falls o u o' u' a b c d =
            let P : ℤ → ℤ → Type 0 = λ i j. (i *ℤ pos under) <ℤ (pos over *ℤ j) in
            let low : (pos over' *ℤ pos under) <ℤ (pos over *ℤ pos under') = omega (arith, ints) in
            let Q : ℤ → ℤ → Type 0 = λ i j. (o' *ℤ i) <ℤ (j *ℤ u') in
            subst (λ i. Q i o) b (subst (Q (pos under)) a (subst (λ i. P i u') c (subst (P (pos over')) d low)))

    pub trial_rises : width * under < over → over * under' ≤ over' * under → (t : ℕ) → k ≤ t → fit_at m t ≡ false
    trial_rises h g t l = none_after m.p m.q m.s m.r k t (trial_exceeds h) (rises _ _ _ _ is_over is_under next_over next_under) l
      where
        rises : (o u o' u' : ℤ) → pos over ≡ o → pos under ≡ u → pos over' ≡ o' → pos under' ≡ u' → (o *ℤ u') ≤ℤ (o' *ℤ u)
        rises o u o' u' a b c d =
            let P : ℤ → ℤ → Type 0 = λ i j. (pos over *ℤ j) ≤ℤ (i *ℤ pos under) in
            let low : (pos over *ℤ pos under') ≤ℤ (pos over' *ℤ pos under) = omega (arith, ints) in
            let Q : ℤ → ℤ → Type 0 = λ i j. (j *ℤ u') ≤ℤ (o' *ℤ i) in
            subst (λ i. Q i o) b (subst (Q (pos under)) a (subst (λ i. P i u') c (subst (P (pos over')) d low)))

pub last_alone : (m : Trial) (k last : ℕ) → fit_at m k ≡ false → last ≤ k → (t : ℕ) → k ≤ t → t ≤ last → fit_at m t ≡ false
last_alone m k last h l t a b = let P : ℕ → Type 0 = λ i. fit_at m i ≡ false in let is : k ≡ t = omega arith in subst P is h

pub whole_width : (r w : ℤ) (n : ℕ) → w ≡ squared_width r → pos 0 ≤ℤ w → n ≡ unsigned_abs w → pos n ≡ squared_width r
whole_width r w n e h f = let is : pos n ≡ w = omega (arith, ints) in is ∙ e

pub fits_by-exact : (m : Trial) (k over under width : ℕ) → pos over ≡ over_at m k → pos under ≡ under_at m k → pos width ≡ squared_width m.r → (v : Bool) → (IsTrue v → over ≤ width * under) → (over ≤ width * under → IsTrue v) → v ≡ fit_at m k
fits_by-exact m k over under width e f g true h i = sym (trial_fits m k over under width e f g (h refl))
fits_by-exact m k over under width e f g false h i =
    ⊎_elim
    (λ (l : width * under < over). sym (trial_exceeds m k over under width e f g l))
    (λ (l : over ≤ width * under). absurd (true_false false (i l) refl))
    (cases_lt (width * under) over)

-- the sizes of the sides
width_most : (r : ℤ) → pos 0 ≤ℤ r → r ≤ℤ pos 1000000 → squared_width r ≤ℤ pos 4000000000000
width_most (pos n) p q = let most = mul-le n n 1000000 1000000 (omega (arith, ints)) (omega (arith, ints)) in omega (arith, ints)
width_most (negsuc n) p q = absurd (omega (arith, ints))

pub side_most : (r : ℤ) (l l' : Line) (t : ℕ) (a b : Point) → a ≡ position_after l t → b ≡ position_after l' t → pos 0 ≤ℤ r → r ≤ℤ pos 1000000 → distance_after l l' t ≤ℤ squared_width r
    → squared_distance a b ≤ℤ pos 4000000000000
side_most r l l' t a b e f p q h =
    let P : ℤ → Type 0 = λ d. d ≤ℤ pos 4000000000000 in
    subst P (λ i. squared_distance (sym e i) (sym f i)) (at_most_both (distance_after l l' t) (squared_width r) (pos 4000000000000) h (width_most r p q))
  where
    at_most_both : (x y z : ℤ) → x ≤ℤ y → y ≤ℤ z → x ≤ℤ z
    at_most_both x y z h g = omega (arith, ints)
