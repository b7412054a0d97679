-- Motions of which each two are near each other, and motions that fit a circle.
use Rattle.std.proofs.Common.{◌≡◌, ℕ, ◌+◌, ◌-◌, ◌<◌, ◌≤◌, Bool, true, false, ◌&&◌, List, [], ◌∷◌, length, All, Option, None, option_to_list, get_or, ℤ, ◌≤ℤ◌, int_le, refl, ap, subst, sym, ◌∙◌, arith}
use Rattle.std.proofs.lemmas.Bool.{and_parts}
use Rattle.std.proofs.lemmas.Bool.Decides.{nat_tests}
use Rattle.std.proofs.lemmas.List.Elements.{All-head, All-tail}
use Rattle.geometry.specs.Circle.{fits, squared_width, three_fit}
use Rattle.linear_crossing.specs.Moving.{IsInReach, position_after, distance_after}
use Rattle.linear_crossing.specs.declared.quad.Line.{Line}
use Rattle.tick_set.specs.Ticks.{within}
use Rattle.tick_set.specs.Runs.{spans_have, IsRuns}
use Rattle.tick_set.specs.declared.spans.Span.{Span}
use Rattle.tick_set.specs.declared.spans.Window.{Window}
use Rattle.distance_crossing.specs.Close.{ArePositionsClose}
use Rattle.distance_crossing.specs.NearTicks.{all_near, are_near, pairs_near, positions_after, are_together}
use Rattle.distance_crossing.proofs.LeastCircles.{swapped}
use Rattle.distance_crossing.proofs.RunLists.{runs_by}
use Rattle.distance_crossing.proofs.Triangles.{three_pairs}
use Rattle.exact.proofs.Truths.{and_true, or_false}
use Rattle.exact.proofs.Integers.{at_most_from_int_test}

-- ---- one more of the motions
pub rest_in_reach : (rest later : List Line) (l : Line) → rest ≡ l ∷ later → All IsInReach rest → All IsInReach later
rest_in_reach rest later l e h = let P : List Line → Type 0 = λ lines. All IsInReach lines in All-tail IsInReach l later (subst P e h)

pub first_in_reach : (rest later : List Line) (l : Line) → rest ≡ l ∷ later → All IsInReach rest → IsInReach l
first_in_reach rest later l e h = let P : List Line → Type 0 = λ lines. All IsInReach lines in All-head IsInReach l later (subst P e h)

pub next_line : (rest later : List Line) (l : Line) → rest ≡ l ∷ later → length rest ≡ length later + 1
next_line rest later l e = let P : List Line → Type 0 = λ lines. length lines ≡ length later + 1 in subst P (sym e) (omega arith)

met_more : (met so_far one here this later all : Bool) → met ≡ (so_far && one) → one ≡ (here && this) → (so_far && (this && later)) ≡ (here && all)
    → (met && later) ≡ (here && all)
met_more met so_far one here this later all e f h = grind (arith, e, f, h)

none_one : (so_far one here this later all : Bool) → one ≡ false → one ≡ (here && this) → (so_far && (this && later)) ≡ (here && all) → (here && all) ≡ false
none_one so_far one here this later all e f h = grind (arith, e, f, h)

none_met : (so_far one here this later all : Bool) → false ≡ (so_far && one) → one ≡ (here && this) → (so_far && (this && later)) ≡ (here && all) → (here && all) ≡ false
none_met so_far one here this later all e f h = grind (arith, e, f, h)

pub span_has : (m : ℕ → Bool) (s : Span) → IsRuns m (s ∷ []) → (t : ℕ) → within s.lo s.hi t ≡ m t
span_has m s h t = sym (or_false (within s.lo s.hi t)) ∙ h.ticks t

pub none_is : (m : ℕ → Bool) (o : Option Span) → o ≡ None → IsRuns m [] → IsRuns m (option_to_list o)
none_is m o e h = let P : Option Span → Type 0 = λ x. IsRuns m (option_to_list x) in subst P (sym e) h

pub window_span : (w : Window) (s : Span) (f : ℕ → Bool) → s.lo ≡ w.lo → s.hi ≡ w.hi → (t : ℕ) → (within s.lo s.hi t && f t) ≡ (within w.lo w.hi t && f t)
window_span w s f a b t i = within (a i) (b i) t && f t

-- The ticks of the span at which what is left of the tests holds are those of the window at which all hold: `this` is the next test, and `later` are the others.
module _ (w : Window) (span : Span) (this later all : ℕ → Bool)
    (before : (t : ℕ) → (within span.lo span.hi t && (this t && later t)) ≡ (within w.lo w.hi t && all t)) where
  pub none_here : IsRuns (λ t. within w.lo w.hi t && this t) [] → IsRuns (λ t. within w.lo w.hi t && all t) []
  none_here h = record {
    normal = tt;
    ticks = λ t. sym (none_one (within span.lo span.hi t) false (within w.lo w.hi t) (this t) (later t) (all t) refl (h.ticks t) (before t));
  }

  module _ (near : Span) (one : IsRuns (λ t. within w.lo w.hi t && this t) (near ∷ [])) where
    pub none_common : ((t : ℕ) → spans_have [] t ≡ (within span.lo span.hi t && within near.lo near.hi t)) → IsRuns (λ t. within w.lo w.hi t && all t) []
    none_common both = record {
      normal = tt;
      ticks = λ t. sym (none_met (within span.lo span.hi t) (within near.lo near.hi t) (within w.lo w.hi t) (this t) (later t) (all t) (both t) (span_has _ near one t) (before t));
    }

    pub common : (met : Span) → ((t : ℕ) → spans_have (met ∷ []) t ≡ (within span.lo span.hi t && within near.lo near.hi t))
        → (t : ℕ) → (within met.lo met.hi t && later t) ≡ (within w.lo w.hi t && all t)
    common met both t =
        met_more (within met.lo met.hi t) (within span.lo span.hi t) (within near.lo near.hi t) (within w.lo w.hi t) (this t) (later t) (all t)
        (sym (or_false (within met.lo met.hi t)) ∙ both t) (span_has _ near one t) (before t)

pub all_common : (w : Window) (span : Span) (rest all : ℕ → Bool) → ((t : ℕ) → rest t ≡ true) → ((t : ℕ) → (within span.lo span.hi t && rest t) ≡ (within w.lo w.hi t && all t))
    → IsRuns (λ t. within w.lo w.hi t && all t) (span ∷ [])
all_common w span rest all e before = record {
  normal = (omega arith, tt);
  ticks = λ t. or_false (within span.lo span.hi t) ∙ sym (and_true (within span.lo span.hi t)) ∙ ap (λ b. within span.lo span.hi t && b) (sym (e t)) ∙ before t;
}

-- one more of the motions is near the first one
module _ (r : ℤ) (w : Window) (span : Span) (p q : Line) (rest later others : List Line) (e : rest ≡ q ∷ later)
    (before : (t : ℕ) → (within span.lo span.hi t && all_near r p rest (t - w.lo)) ≡ (within w.lo w.hi t && all_near r p others (t - w.lo))) where
  abbrev is_this_near : ℕ → Bool
  is_this_near t = int_le (distance_after p q (t - w.lo)) (squared_width r)

  abbrev are_later_near : ℕ → Bool
  are_later_near t = all_near r p later (t - w.lo)

  abbrev are_others_near : ℕ → Bool
  are_others_near t = all_near r p others (t - w.lo)

  near_before : (t : ℕ) → (within span.lo span.hi t && (is_this_near t && are_later_near t)) ≡ (within w.lo w.hi t && are_others_near t)
  near_before t =
      let P : List Line → Type 0 = λ lines. (within span.lo span.hi t && all_near r p lines (t - w.lo)) ≡ (within w.lo w.hi t && are_others_near t) in
      subst P e (before t)

  pub all_near_none : IsRuns (are_near r p q w) [] → IsRuns (λ t. within w.lo w.hi t && all_near r p others (t - w.lo)) []
  all_near_none h = none_here w span is_this_near are_later_near are_others_near near_before h

  module _ (near : Span) (one : IsRuns (are_near r p q w) (near ∷ [])) where
    pub all_near_apart : IsRuns (λ t. within span.lo span.hi t && within near.lo near.hi t) [] → IsRuns (λ t. within w.lo w.hi t && all_near r p others (t - w.lo)) []
    all_near_apart both = none_common w span is_this_near are_later_near are_others_near near_before near one both.ticks

    pub all_near_more : (met : Span) → IsRuns (λ t. within span.lo span.hi t && within near.lo near.hi t) (met ∷ [])
        → (t : ℕ) → (within met.lo met.hi t && all_near r p later (t - w.lo)) ≡ (within w.lo w.hi t && all_near r p others (t - w.lo))
    all_near_more met both = common w span is_this_near are_later_near are_others_near near_before near one met both.ticks

pub none_left : (r : ℤ) (p : Line) (rest : List Line) (k : ℕ) → length rest ≡ 0 → all_near r p rest k ≡ true
none_left r p [] k e = refl
none_left r p (q ∷ rest) k e = absurd (omega arith)

-- one more of the motions is near all that follow it
module _ (r : ℤ) (w : Window) (span : Span) (p : Line) (rest later lines : List Line) (e : rest ≡ p ∷ later)
    (before : (t : ℕ) → (within span.lo span.hi t && pairs_near r rest (t - w.lo)) ≡ (within w.lo w.hi t && pairs_near r lines (t - w.lo))) where
  abbrev is_first_near : ℕ → Bool
  is_first_near t = all_near r p later (t - w.lo)

  abbrev are_later_pairs_near : ℕ → Bool
  are_later_pairs_near t = pairs_near r later (t - w.lo)

  abbrev are_pairs_near : ℕ → Bool
  are_pairs_near t = pairs_near r lines (t - w.lo)

  pairs_before : (t : ℕ) → (within span.lo span.hi t && (is_first_near t && are_later_pairs_near t)) ≡ (within w.lo w.hi t && are_pairs_near t)
  pairs_before t =
      let P : List Line → Type 0 = λ z. (within span.lo span.hi t && pairs_near r z (t - w.lo)) ≡ (within w.lo w.hi t && are_pairs_near t) in
      subst P e (before t)

  pub pairs_near_none : IsRuns (λ t. within w.lo w.hi t && all_near r p later (t - w.lo)) [] → IsRuns (λ t. within w.lo w.hi t && pairs_near r lines (t - w.lo)) []
  pairs_near_none h = none_here w span is_first_near are_later_pairs_near are_pairs_near pairs_before h

  module _ (near : Span) (one : IsRuns (λ t. within w.lo w.hi t && all_near r p later (t - w.lo)) (near ∷ [])) where
    pub pairs_near_apart : IsRuns (λ t. within span.lo span.hi t && within near.lo near.hi t) [] → IsRuns (λ t. within w.lo w.hi t && pairs_near r lines (t - w.lo)) []
    pairs_near_apart both = none_common w span is_first_near are_later_pairs_near are_pairs_near pairs_before near one both.ticks

    pub pairs_near_more : (met : Span) → IsRuns (λ t. within span.lo span.hi t && within near.lo near.hi t) (met ∷ [])
        → (t : ℕ) → (within met.lo met.hi t && pairs_near r later (t - w.lo)) ≡ (within w.lo w.hi t && pairs_near r lines (t - w.lo))
    pairs_near_more met both = common w span is_first_near are_later_pairs_near are_pairs_near pairs_before near one met both.ticks

pub no_pairs_left : (r : ℤ) (rest : List Line) (k : ℕ) → length rest ≡ 0 → pairs_near r rest k ≡ true
no_pairs_left r [] k e = refl
no_pairs_left r (q ∷ rest) k e = absurd (omega arith)

-- ---- how many pairs there are
abbrev pub pair_count : List Line → ℕ
pair_count [] = 0
pair_count (_ ∷ later) = length later + pair_count later

pub pair_count-most : (lines : List Line) → length lines ≤ 4 → pair_count lines ≤ 6
pair_count-most [] h = omega arith
pair_count-most (p ∷ []) h = omega arith
pair_count-most (p ∷ q ∷ []) h = omega arith
pair_count-most (p ∷ q ∷ s ∷ []) h = omega arith
pair_count-most (p ∷ q ∷ s ∷ u ∷ []) h = omega arith
pair_count-most (p ∷ q ∷ s ∷ u ∷ v ∷ rest) h = absurd (omega arith)

pub next_pairs : (rest later : List Line) (p : Line) → rest ≡ p ∷ later → pair_count rest ≡ length later + pair_count later
next_pairs rest later p e = ap pair_count e

-- ---- what fits is near in pairs
-- fewer than two always fit
pub alone_fit : (r : ℤ) (lines : List Line) (k : ℕ) → length lines < 2 → true ≡ fits r (positions_after lines k)
alone_fit r [] k l = refl
alone_fit r (p ∷ []) k l = refl
alone_fit r (p ∷ q ∷ rest) k l = absurd (omega arith)

-- of up to two motions, that is all
few_pairs : (r : ℤ) (lines : List Line) (k : ℕ) → length lines ≤ 2 → fits r (positions_after lines k) ≡ pairs_near r lines k
few_pairs r [] k l = refl
few_pairs r (p ∷ []) k l = refl
few_pairs r (p ∷ q ∷ []) k l = grind arith
few_pairs r (p ∷ q ∷ s ∷ rest) k l = absurd (omega arith)

pairs_of_three : (pq ps qs : Bool) → pq ≡ true → qs ≡ true → ps ≡ true → ((pq && (ps && true)) && ((qs && true) && (true && true))) ≡ true
pairs_of_three pq ps qs a b c = grind (arith, a, b, c)

pairs_of_four : (pq ps pu qs qu su : Bool) → pq ≡ true → ps ≡ true → pu ≡ true → qs ≡ true → qu ≡ true → su ≡ true
    → ((pq && (ps && (pu && true))) && ((qs && (qu && true)) && ((su && true) && (true && true)))) ≡ true
pairs_of_four pq ps pu qs qu su a b c d e f = grind (arith, a, b, c, d, e, f)

fit_pairs : (r : ℤ) (lines : List Line) (k : ℕ) → length lines ≤ 4 → fits r (positions_after lines k) ≡ true → pairs_near r lines k ≡ true
fit_pairs r [] k l h = refl
fit_pairs r (p ∷ []) k l h = refl
fit_pairs r (p ∷ q ∷ []) k l h = sym (few_pairs r (p ∷ q ∷ []) k (omega arith)) ∙ h
fit_pairs r (p ∷ q ∷ s ∷ []) k l h =
    let all = three_pairs r (position_after p k) (position_after q k) (position_after s k) h in
    pairs_of_three _ _ _ all.0 all.1 all.2
fit_pairs r (p ∷ q ∷ s ∷ u ∷ []) k l h =
    let at = λ (line : Line). position_after line k in
    let three = and_parts _ _ h in
    let two = and_parts _ _ three.0 in
    let one = and_parts _ _ two.0 in
    let pqs = three_pairs r (at p) (at q) (at s) one.0 in
    let pqu = three_pairs r (at p) (at q) (at u) one.1 in
    let psu = three_pairs r (at p) (at s) (at u) two.1 in
    pairs_of_four _ _ _ _ _ _ pqs.0 pqs.2 pqu.2 pqs.1 pqu.1 psu.1
fit_pairs r (p ∷ q ∷ s ∷ u ∷ v ∷ rest) k l h = absurd (omega arith)

-- ---- three of the motions that are near in pairs
close_by : (r : ℤ) (p q s : Line) (k : ℕ) → int_le (distance_after p q k) (squared_width r) ≡ true → int_le (distance_after q s k) (squared_width r) ≡ true
    → int_le (distance_after p s k) (squared_width r) ≡ true → ArePositionsClose r p q s k
close_by r p q s k a b c =
    let P : ℤ → Type 0 = λ z. z ≤ℤ squared_width r in
    record {
      first = at_most_from_int_test (distance_after p q k) (squared_width r) a;
      second = at_most_from_int_test (distance_after q s k) (squared_width r) b;
      third = subst P (swapped (position_after p k) (position_after s k)) (at_most_from_int_test (distance_after p s k) (squared_width r) c);
    }

pub close_three : (r : ℤ) (p q s : Line) (k : ℕ) → pairs_near r (p ∷ q ∷ s ∷ []) k ≡ true → ArePositionsClose r p q s k
close_three r p q s k h =
    let outer = and_parts _ _ h in
    let ps = and_parts _ _ (and_parts _ _ outer.0).1 in
    let qs = and_parts _ _ (and_parts _ _ outer.1).0 in
    close_by r p q s k (and_parts _ _ outer.0).0 qs.0 ps.0

-- each three of four
pub record AreAllClose (r : ℤ) (p q s u : Line) (k : ℕ) : Type 0 where
  pub pqs : ArePositionsClose r p q s k
  pub pqu : ArePositionsClose r p q u k
  pub psu : ArePositionsClose r p s u k
  pub qsu : ArePositionsClose r q s u k

pub close_four : (r : ℤ) (p q s u : Line) (k : ℕ) → pairs_near r (p ∷ q ∷ s ∷ u ∷ []) k ≡ true → AreAllClose r p q s u k
close_four r p q s u k h =
    let outer = and_parts _ _ h in
    let pq = and_parts _ _ outer.0 in
    let ps = and_parts _ _ pq.1 in
    let pu = and_parts _ _ ps.1 in
    let inner = and_parts _ _ outer.1 in
    let qs = and_parts _ _ inner.0 in
    let qu = and_parts _ _ qs.1 in
    let su = and_parts _ _ (and_parts _ _ inner.1).0 in
    record {
      pqs = close_by r p q s k pq.0 qs.0 ps.0;
      pqu = close_by r p q u k pq.0 qu.0 pu.0;
      psu = close_by r p s u k ps.0 su.0 pu.0;
      qsu = close_by r q s u k qs.0 su.0 qu.0;
    }

-- ---- one test after the other, each on the ticks that passed the ones before
pub next_runs : (m f : ℕ → Bool) (s : Span) (xs : List Span) → IsRuns m (s ∷ []) → IsRuns (λ t. within s.lo s.hi t && f t) xs → IsRuns (λ t. m t && f t) xs
next_runs m f s xs h g = record { normal = g.normal; ticks = λ t. g.ticks t ∙ ap (λ b. b && f t) (span_has m s h t) }

pub none_runs : (m f : ℕ → Bool) → IsRuns m [] → IsRuns (λ t. m t && f t) []
none_runs m f h = record { normal = tt; ticks = λ t. ap (λ b. b && f t) (h.ticks t) }

pub begins : (w : Window) (f : ℕ → Bool) (s : Span) → IsRuns (λ t. within w.lo w.hi t && f t) (s ∷ []) → w.lo ≤ s.lo
begins w f s h = let order : s.lo ≤ s.hi = s.ordered in let at = span_has (λ t. within w.lo w.hi t && f t) s h s.lo in grind (arith, nat_tests, at)

pub begins_later : (f : ℕ → Bool) (s a : Span) → IsRuns (λ t. within s.lo s.hi t && f t) (a ∷ []) → s.lo ≤ a.lo
begins_later f s a h = let order : a.lo ≤ a.hi = a.ordered in let at = span_has (λ t. within s.lo s.hi t && f t) a h a.lo in grind (arith, nat_tests, at)

pub passed : (m f : ℕ → Bool) (s : Span) → IsRuns (λ t. m t && f t) (s ∷ []) → (t : ℕ) → within s.lo s.hi t ≡ true → (m t ≡ true) × (f t ≡ true)
passed m f s h t e = and_parts (m t) (f t) (sym (span_has (λ t. m t && f t) s h t) ∙ e)

pub inside : (f : ℕ → Bool) (s a : Span) → IsRuns (λ t. within s.lo s.hi t && f t) (a ∷ []) → (t : ℕ) → within a.lo a.hi t ≡ true → within s.lo s.hi t ≡ true
inside f s a h t e = (passed (λ k. within s.lo s.hi k) f a h t e).0

-- ---- three and four motions, by their places
pub list_of_three : (lines : List Line) (p q s : Line) → 3 ≤ length lines → length lines < 4 → p ≡ get_or lines 0 p → q ≡ get_or lines 1 q → s ≡ get_or lines 2 s
    → lines ≡ p ∷ q ∷ s ∷ []
list_of_three [] p q s l m e f g = absurd (omega arith)
list_of_three (a ∷ []) p q s l m e f g = absurd (omega arith)
list_of_three (a ∷ b ∷ []) p q s l m e f g = absurd (omega arith)
list_of_three (a ∷ b ∷ c ∷ []) p q s l m e f g = λ i. sym e i ∷ sym f i ∷ sym g i ∷ []
list_of_three (a ∷ b ∷ c ∷ d ∷ rest) p q s l m e f g = absurd (omega arith)

pub list_of_four : (lines : List Line) (p q s u : Line) → 4 ≤ length lines → length lines < 5 → p ≡ get_or lines 0 p → q ≡ get_or lines 1 q → s ≡ get_or lines 2 s → u ≡ get_or lines 3 u
    → lines ≡ p ∷ q ∷ s ∷ u ∷ []
list_of_four [] p q s u l m e f g h = absurd (omega arith)
list_of_four (a ∷ []) p q s u l m e f g h = absurd (omega arith)
list_of_four (a ∷ b ∷ []) p q s u l m e f g h = absurd (omega arith)
list_of_four (a ∷ b ∷ c ∷ []) p q s u l m e f g h = absurd (omega arith)
list_of_four (a ∷ b ∷ c ∷ d ∷ []) p q s u l m e f g h = λ i. sym e i ∷ sym f i ∷ sym g i ∷ sym h i ∷ []
list_of_four (a ∷ b ∷ c ∷ d ∷ x ∷ rest) p q s u l m e f g h = absurd (omega arith)

module _ (r : ℤ) (lines : List Line) (w : Window) (near : Span) (h : IsRuns (λ t. within w.lo w.hi t && pairs_near r lines (t - w.lo)) (near ∷ [])) where
  near_at : (t : ℕ) → within near.lo near.hi t ≡ true → pairs_near r lines (t - w.lo) ≡ true
  near_at t e = (passed (λ k. within w.lo w.hi k) (λ k. pairs_near r lines (k - w.lo)) near h t e).1

  pub close_of_three : (p q s : Line) → lines ≡ p ∷ q ∷ s ∷ [] → (t : ℕ) → within near.lo near.hi t ≡ true → ArePositionsClose r p q s (t - w.lo)
  close_of_three p q s is t e = let P : List Line → Type 0 = λ z. pairs_near r z (t - w.lo) ≡ true in close_three r p q s (t - w.lo) (subst P is (near_at t e))

  pub close_of_four : (p q s u : Line) → lines ≡ p ∷ q ∷ s ∷ u ∷ [] → (t : ℕ) → within near.lo near.hi t ≡ true → AreAllClose r p q s u (t - w.lo)
  close_of_four p q s u is t e = let P : List Line → Type 0 = λ z. pairs_near r z (t - w.lo) ≡ true in close_four r p q s u (t - w.lo) (subst P is (near_at t e))

-- ---- the ticks at which the positions fit
unless_near : (here near fit : Bool) → (fit ≡ true → near ≡ true) → ((here && near) && fit) ≡ (here && fit)
unless_near true true fit h = refl
unless_near false true fit h = refl
unless_near true false true h = h refl
unless_near false false true h = refl
unless_near true false false h = refl
unless_near false false false h = refl

four_tests : (here a b c d : Bool) → ((((here && a) && b) && c) && d) ≡ (here && (((a && b) && c) && d))
four_tests true a b c d = refl
four_tests false a b c d = refl

module _ (r : ℤ) (lines : List Line) (w : Window) (count : length lines ≤ 4) where
  abbrev pub is_candidate : ℕ → Bool
  is_candidate t = within w.lo w.hi t && pairs_near r lines (t - w.lo)

  together_in : (t : ℕ) → (is_candidate t && fits r (positions_after lines (t - w.lo))) ≡ are_together r lines w t
  together_in t = unless_near (within w.lo w.hi t) (pairs_near r lines (t - w.lo)) (fits r (positions_after lines (t - w.lo))) (fit_pairs r lines (t - w.lo) count)

  pub none_together : IsRuns is_candidate [] → IsRuns (are_together r lines w) []
  none_together h = runs_by _ _ _ (none_runs is_candidate (λ t. fits r (positions_after lines (t - w.lo))) h) together_in

  pub few_together : (xs : List Span) → length lines ≤ 2 → IsRuns is_candidate xs → IsRuns (are_together r lines w) xs
  few_together xs l h = runs_by _ _ _ h (λ t. ap (λ v. within w.lo w.hi t && v) (sym (few_pairs r lines (t - w.lo) l)))

  pub three_together : (p q s : Line) (xs : List Span) → lines ≡ p ∷ q ∷ s ∷ [] → IsRuns (λ t. is_candidate t && three_fit r (position_after p (t - w.lo)) (position_after q (t - w.lo)) (position_after s (t - w.lo))) xs
      → IsRuns (are_together r lines w) xs
  three_together p q s xs e h =
      runs_by _ _ _ h (λ t. (λ i. is_candidate t && fits r (positions_after (sym e i) (t - w.lo))) ∙ together_in t)

  pub four_together : (p q s u : Line) (xs : List Span) → lines ≡ p ∷ q ∷ s ∷ u ∷ []
      → IsRuns (λ t. (((is_candidate t && three_fit r (position_after p (t - w.lo)) (position_after q (t - w.lo)) (position_after s (t - w.lo)))
      && three_fit r (position_after p (t - w.lo)) (position_after q (t - w.lo)) (position_after u (t - w.lo)))
      && three_fit r (position_after p (t - w.lo)) (position_after s (t - w.lo)) (position_after u (t - w.lo)))
      && three_fit r (position_after q (t - w.lo)) (position_after s (t - w.lo)) (position_after u (t - w.lo))) xs
      → IsRuns (are_together r lines w) xs
  four_together p q s u xs e h =
      runs_by _ _ _ h (λ t. four_tests (is_candidate t) _ _ _ _ ∙ (λ i. is_candidate t && fits r (positions_after (sym e i) (t - w.lo))) ∙ together_in t)
