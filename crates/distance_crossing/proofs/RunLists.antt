-- For this crate and for the crates above: runs of two sets one after the other, and runs of sets with the same
-- ticks.
use Rattle.std.proofs.Common.{◌≡◌, ℕ, ◌+◌, ◌≤◌, Bool, true, not, ◌&&◌, ◌||◌, List, [], ◌∷◌, ◌++◌, Option, Some, None, is_some, option_to_list, IfSome, MatchOption, nat_le, nat_lt, inl, inr, ap, subst, sym, ◌∙◌, arith}
use Rattle.std.proofs.lemmas.Bool.{or_cases, false≢true}
use Rattle.std.proofs.lemmas.Bool.Decides.{nat_tests}
use Rattle.tick_set.specs.declared.spans.Span.{Span}
use Rattle.tick_set.specs.Ticks.{within}
use Rattle.tick_set.specs.Runs.{spans_have, IsNormal, IsNormalFrom, IsRuns}
use Rattle.tick_set.proofs.RunLemmas.{spans_have-append}
use Rattle.linear_crossing.specs.Zones.{IsPairOf}
use Rattle.distance_crossing.specs.declared.comparison.Triple.{Triple}
use Rattle.distance_crossing.specs.Triples.{IsTripleOf}

pub runs_by : (p q : ℕ → Bool) (xs : List Span) → IsRuns p xs → ((t : ℕ) → p t ≡ q t) → IsRuns q xs
runs_by p q xs h e = record { normal = h.normal; ticks = λ t. h.ticks t ∙ e t }

pub triple_by : (p q : ℕ → Bool) (x : Triple) → IsTripleOf p x → ((t : ℕ) → p t ≡ q t) → IsTripleOf q x
triple_by p q x h e = record { runs = runs_by p q _ h.runs e; packed = h.packed }

first_is_had : (s : Span) (rest : List Span) → spans_have (s ∷ rest) s.lo ≡ true
first_is_had s rest = let order : s.lo ≤ s.hi = s.ordered in grind (arith, nat_tests)

last_is_had : (s : Span) (rest : List Span) → spans_have (s ∷ rest) s.hi ≡ true
last_is_had s rest = let order : s.lo ≤ s.hi = s.ordered in grind (arith, nat_tests)

later_is_had : (s : Span) (rest : List Span) (t : ℕ) → spans_have rest t ≡ true → spans_have (s ∷ rest) t ≡ true
later_is_had s rest t e = grind (arith, e)

normal_append : (xs ys : List Span) (from : ℕ) → IsNormalFrom from xs → IsNormal ys → ((u : ℕ) → spans_have ys u ≡ true → from ≤ u)
    → ((t u : ℕ) → spans_have xs t ≡ true → spans_have ys u ≡ true → t + 2 ≤ u) → IsNormalFrom from (xs ++ ys)
normal_append [] [] from h n low apart = tt
normal_append [] (y ∷ ys) from h n low apart = (low y.lo (first_is_had y ys), n.1)
normal_append (x ∷ xs) ys from h n low apart =
    (h.0, normal_append xs ys (x.hi + 2) h.1 n (λ u e. apart x.hi u (last_is_had x xs) e) (λ t u d e. apart t u (later_is_had x xs t d) e))

-- two sets with a tick between them that is in neither
pub runs_append : (p q : ℕ → Bool) (xs ys : List Span) → IsRuns p xs → IsRuns q ys → ((t u : ℕ) → p t ≡ true → q u ≡ true → t + 2 ≤ u)
    → IsRuns (λ t. p t || q t) (xs ++ ys)
runs_append p q xs ys g h apart = record {
  normal = normal_append xs ys 0 g.normal h.normal (λ u e. omega arith) (λ t u d e. apart t u (sym (g.ticks t) ∙ d) (sym (h.ticks u) ∙ e));
  ticks = λ t. grind (arith, spans_have-append xs ys t, g.ticks t, h.ticks t);
}

-- ---- what a run leaves of the ticks from `from` up to the first tick past it
abbrev pub leaves : ℕ → ℕ → Option Span → ℕ → Bool
leaves from next run t = nat_le from t && nat_lt t next && not (spans_have (option_to_list run) t)

abbrev pub IsNext : ℕ → ℕ → Option Span → Type 0
IsNext from next run = MatchOption run (next ≡ from) (λ s. next ≡ s.hi + 1)

abbrev pub IsAhead : ℕ → Option Span → Type 0
IsAhead from run = IfSome run (λ s. from ≤ s.lo)

abbrev pub Has : List Span → ℕ → Type 0
Has spans t = spans_have spans t ≡ true

next_from : (from next : ℕ) (run : Option Span) → IsAhead from run → IsNext from next run → from ≤ next
next_from from next None a n = omega arith
next_from from next (Some s) a n = let order : s.lo ≤ s.hi = s.ordered in omega arith

left_before : (from next t : ℕ) (run : Option Span) → IsNext from next run → leaves from next run t ≡ true → t + 2 ≤ next
left_before from next t None n h = absurd (false≢true (grind (arith, nat_tests)))
left_before from next t (Some s) n h = let order : s.lo ≤ s.hi = s.ordered in grind (arith, nat_tests)

pub ahead_inside : (lo hi : ℕ) (run : Option Span) → ((t : ℕ) → Has (option_to_list run) t → within lo hi t ≡ true) → IsAhead lo run
ahead_inside lo hi None h = tt
ahead_inside lo hi (Some s) h = let inside : within lo hi s.lo ≡ true = h s.lo (first_is_had s []) in grind (arith, nat_tests)

pub ahead_first : (lo hi : ℕ) (a b : Option Span) → ((t : ℕ) → Has (option_to_list a ++ option_to_list b) t → within lo hi t ≡ true) → IsAhead lo a
ahead_first lo hi None b h = tt
ahead_first lo hi (Some s) b h = let inside : within lo hi s.lo ≡ true = h s.lo (first_is_had s (option_to_list b)) in grind (arith, nat_tests)

pub ahead_second : (lo hi next : ℕ) (a b : Option Span) → IsNormal (option_to_list a ++ option_to_list b)
    → ((t : ℕ) → Has (option_to_list a ++ option_to_list b) t → within lo hi t ≡ true) → IsNext lo next a → IsAhead next b
ahead_second lo hi next a None n h e = tt
ahead_second lo hi next None (Some s) n h e = let inside : within lo hi s.lo ≡ true = h s.lo (first_is_had s []) in grind (arith, nat_tests)
ahead_second lo hi next (Some x) (Some s) n h e = omega (arith, n.1)

pub inside_one : (outer run : Option Span) (whole : Span) → outer ≡ Some whole
    → ((t : ℕ) → Has (option_to_list run) t → Has (option_to_list outer) t) → (t : ℕ) → Has (option_to_list run) t → within whole.lo whole.hi t ≡ true
inside_one outer run whole e h t k =
    let P : Option Span → Type 0 = λ o. Has (option_to_list o) t in
    let had : Has (whole ∷ []) t = subst P e (h t k) in
    grind (arith, had)

-- the ticks of a stretch that are not in a run inside it
without_ticks : (lo hi next t : ℕ) (run : Option Span) → ((u : ℕ) → Has (option_to_list run) u → within lo hi u ≡ true) → IsNext lo next run
    → (leaves lo next run t || (nat_le next t && nat_lt t (hi + 1))) ≡ (within lo hi t && not (spans_have (option_to_list run) t))
without_ticks lo hi next t None h e = grind (arith, nat_tests)
without_ticks lo hi next t (Some s) h e =
    let order : s.lo ≤ s.hi = s.ordered in
    let first : within lo hi s.lo ≡ true = h s.lo (first_is_had s []) in
    let last : within lo hi s.hi ≡ true = h s.hi (last_is_had s []) in
    grind (arith, nat_tests)

pub without_run : (lo hi next : ℕ) (run first second : Option Span) → ((u : ℕ) → Has (option_to_list run) u → within lo hi u ≡ true) → IsNext lo next run
    → IsRuns (leaves lo next run) (option_to_list first) → IsRuns (λ t. nat_le next t && nat_lt t (hi + 1)) (option_to_list second)
    → IsRuns (λ t. within lo hi t && not (spans_have (option_to_list run) t)) (option_to_list first ++ option_to_list second)
without_run lo hi next run first second h e g k =
    runs_by _ _ _ (runs_append _ _ _ _ g k (λ t u c d. let before = left_before lo next t run e c in grind (arith, nat_tests)))
    (λ t. without_ticks lo hi next t run h e)

-- the same as a pair, where the first stretch is not empty
pub without_pair : (outer run first second : Option Span) (whole : Span) (next : ℕ) → outer ≡ Some whole
    → ((t : ℕ) → Has (option_to_list run) t → Has (option_to_list outer) t) → IsNext whole.lo next run → is_some first ≡ true
    → IsRuns (leaves whole.lo next run) (option_to_list first) → IsRuns (λ t. nat_le next t && nat_lt t (whole.hi + 1)) (option_to_list second)
    → IsPairOf (λ t. spans_have (option_to_list outer) t && not (spans_have (option_to_list run) t)) (record { first = first; second = second })
without_pair outer run first second whole next o h e some g k =
    let had : (t : ℕ) → spans_have (option_to_list outer) t ≡ within whole.lo whole.hi t = λ t. grind (arith, o) in
    record {
      runs = runs_by _ _ _ (without_run whole.lo whole.hi next run first second (inside_one outer run whole o h) e g k)
          (λ t. ap (λ v. v && not (spans_have (option_to_list run) t)) (sym (had t)));
      in_order = λ n. absurd (cc);
    }

-- the ticks of a stretch that are in neither of two runs inside it
outside_ticks : (lo hi m n t : ℕ) (a b : Option Span) → IsNormal (option_to_list a ++ option_to_list b)
    → ((u : ℕ) → Has (option_to_list a ++ option_to_list b) u → within lo hi u ≡ true) → IsNext lo m a → IsNext m n b
    → (leaves lo m a t || leaves m n b t || (nat_le n t && nat_lt t (hi + 1))) ≡ (within lo hi t && not (spans_have (option_to_list a ++ option_to_list b) t))
outside_ticks lo hi m n t None None normal h e f = grind (arith, nat_tests)
outside_ticks lo hi m n t None (Some y) normal h e f =
    let order : y.lo ≤ y.hi = y.ordered in
    let first : within lo hi y.lo ≡ true = h y.lo (first_is_had y []) in
    let last : within lo hi y.hi ≡ true = h y.hi (last_is_had y []) in
    grind (arith, nat_tests)
outside_ticks lo hi m n t (Some x) None normal h e f =
    let order : x.lo ≤ x.hi = x.ordered in
    let first : within lo hi x.lo ≡ true = h x.lo (first_is_had x []) in
    let last : within lo hi x.hi ≡ true = h x.hi (last_is_had x []) in
    grind (arith, nat_tests)
outside_ticks lo hi m n t (Some x) (Some y) normal h e f =
    let order_x : x.lo ≤ x.hi = x.ordered in
    let order_y : y.lo ≤ y.hi = y.ordered in
    let apart : x.hi + 2 ≤ y.lo = normal.1.0 in
    let first : within lo hi x.lo ≡ true = h x.lo (first_is_had x (y ∷ [])) in
    let last : within lo hi y.hi ≡ true = h y.hi (later_is_had x (y ∷ []) y.hi (last_is_had y [])) in
    grind (arith, nat_tests)

apart_from : (t u n : ℕ) (x y z : Bool) → (x || y) ≡ true → (x ≡ true → t + 2 ≤ n) → (y ≡ true → t + 2 ≤ n) → (nat_le n u && z) ≡ true → t + 2 ≤ u
apart_from t u n x y z c g h d =
    let from : n ≤ u = grind (arith, nat_tests) in
    elim (or_cases x y c) [ inl e ↦ omega (arith, g e) | inr e ↦ omega (arith, h e) ]

pub outside_runs : (lo hi m n : ℕ) (a b first second third : Option Span) → IsNormal (option_to_list a ++ option_to_list b)
    → ((u : ℕ) → Has (option_to_list a ++ option_to_list b) u → within lo hi u ≡ true) → IsNext lo m a → IsNext m n b
    → IsRuns (leaves lo m a) (option_to_list first) → IsRuns (leaves m n b) (option_to_list second)
    → IsRuns (λ t. nat_le n t && nat_lt t (hi + 1)) (option_to_list third)
    → IsRuns (λ t. within lo hi t && not (spans_have (option_to_list a ++ option_to_list b) t)) (option_to_list first ++ option_to_list second ++ option_to_list third)
outside_runs lo hi m n a b first second third normal h e f g k l =
    let later : m ≤ n = next_from m n b (ahead_second lo hi m a b normal h e) f in
    let ends : (t : ℕ) → leaves lo m a t ≡ true → t + 2 ≤ m = λ t c. left_before lo m t a e c in
    let ends_second : (t : ℕ) → leaves m n b t ≡ true → t + 2 ≤ n = λ t c. left_before m n t b f c in
    let two = runs_append (leaves lo m a) (leaves m n b) _ _ g k (λ t u c d. grind (arith, nat_tests, ends t c)) in
    runs_by _ _ _
    (runs_append (λ t. leaves lo m a t || leaves m n b t) _ _ _ two l
    (λ t u c d. apart_from t u n (leaves lo m a t) (leaves m n b t) (nat_lt u (hi + 1)) c (λ z. omega (arith, ends t z)) (ends_second t) d))
    (λ t. outside_ticks lo hi m n t a b normal h e f)
