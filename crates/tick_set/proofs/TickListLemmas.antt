-- Lists of ticks that ascend.
use Rattle.std.proofs.Common.{sym, ◌≡◌, ℕ, ◌+◌, ◌<◌, ◌≤◌, Bool, true, false, refl, ◌&&◌, ◌||◌, eqb, leb, ltb, if◌then◌else◌, length, List, [], ◌∷◌, ◌++◌, ap, ◌∙◌, inl, inr, zero, suc, get_or, Result, Ok, Err, is_ok, IsTrue, ◌↔◌, arith}
use Rattle.std.proofs.lemmas.Bool.{false≢true, cases_Bool, or_left, or_right, or_cases, or_from, eqb-true, ne_eqb, cases_eq, cases_lt, cases_order}
use Rattle.std.proofs.lemmas.Bool.Decides.{nat_tests}
use Rattle.std.proofs.lemmas.Grind.{common_steps}
use Rattle.std.proofs.lemmas.List.Folds.{list_any-append}
use Rattle.std.proofs.lemmas.List.Sorted.{searched}
use Rattle.std.specs.List.Sorted.{IsBinarySearchResult}
use Rattle.std.specs.Ordering.{nat_cmp}
use Rattle.std.specs.Cmp.Lexicographic.{pointwise, bytes_decides}
use Rattle.tick_set.proofs.Between.{within_parts, within_from}
use Rattle.tick_set.proofs.RunLemmas.{IsNormalFrom-push, IsNormalFrom-weaker, spans_have-append, spans_have-below}
use Rattle.tick_set.specs.declared.operation.SetOperation.{SetOperation}
use Rattle.tick_set.specs.declared.operation.SetOperation.TheVariants.{Union, Meet, Without}
use Rattle.tick_set.specs.declared.spans.Span.{Span}
use Rattle.tick_set.specs.TickList.{has, IsAscending, IsAscendingFrom}
use Rattle.tick_set.specs.SetOperation.{kept}
use Rattle.tick_set.specs.Runs.{spans_have, IsNormal, IsNormalFrom}
use Rattle.tick_set.specs.Ticks.{within}

pub IsAscendingFrom-push : (ticks : List ℕ) (from t : ℕ) → IsAscendingFrom from ticks → ((u : ℕ) → has ticks u ≡ true → u < t) → from ≤ t → t ≤ 1000000000 → IsAscendingFrom from (ticks ++ t ∷ [])
IsAscendingFrom-push [] from t h above at_least in_range = (at_least, in_range, tt)
IsAscendingFrom-push (x ∷ ticks) from t h above at_least in_range =
    let here : x < t = above x (grind (arith, nat_tests)) in
    (h.0, h.1, IsAscendingFrom-push ticks (x + 1) t h.2 (λ u e. above u (or_right (eqb x u) (has ticks u) e)) (omega arith) in_range)

pub has-push : (ticks : List ℕ) (t u : ℕ) → has (ticks ++ t ∷ []) u ≡ (has ticks u || eqb t u)
has-push ticks t u = grind (arith, common_steps, list_any-append (λ x. eqb x u) ticks (t ∷ []))

-- no tick of the list is below its start
pub has_below : (ticks : List ℕ) (from u : ℕ) → IsAscendingFrom from ticks → u < from → has ticks u ≡ false
has_below [] from u h below = refl
has_below (x ∷ ticks) from u h below = grind (arith, nat_tests, h.0, has_below ticks (x + 1) u h.2)

pub has_in_range : (ticks : List ℕ) (from u : ℕ) → IsAscendingFrom from ticks → has ticks u ≡ true → u ≤ 1000000000
has_in_range [] from u h e = absurd (false≢true e)
has_in_range (x ∷ ticks) from u h e = grind (arith, nat_tests, h.1, has_in_range ticks (x + 1) u h.2)

-- where the list begins with t, the ticks after it are those above t
pub has_behind : (ticks later : List ℕ) (t u : ℕ) → ticks ≡ t ∷ later → IsAscendingFrom t ticks → has later u ≡ (ltb t u && has ticks u)
has_behind ticks later t u e h = rw e (grind (arith, nat_tests, has_below later (t + 1) u (rw e at h).2))

-- where it begins with another tick, t is not there
pub has_not_taken : (ticks later : List ℕ) (t x : ℕ) → ticks ≡ x ∷ later → (x ≡ t → ⊥) → IsAscendingFrom t ticks → (false ≡ has ticks t) × ((u : ℕ) → has ticks u ≡ (ltb t u && has ticks u))
has_not_taken ticks later t x e ne h =
    let h' = rw e at h in
    let begins : IsAscendingFrom (t + 1) (x ∷ later) = (omega (arith, h'.0), h'.1, h'.2) in
    rw e (sym (has_below (x ∷ later) (t + 1) t begins (omega arith)), λ u. grind (arith, nat_tests, has_below (x ∷ later) (t + 1) u begins))

-- what is settled of the run from first on, with the ticks `later` after first: it reaches hi, and rest is left
pub record RunSoFar (first : ℕ) (later : List ℕ) (hi : ℕ) (rest : List ℕ) : Type 0 where
  pub ordered : first ≤ hi
  pub in_range : hi ≤ 1000000000
  pub ascending : IsAscendingFrom (hi + 1) rest
  pub ticks : (u : ℕ) → (eqb first u || has later u) ≡ (within first hi u || has rest u)
  pub len : length rest ≤ length later

-- the ticks of two lists that are settled are in made, and the rest of both is left
pub record MergedSoFar (operation : SetOperation) (first second made front behind : List ℕ) : Type 0 where
  pub ascending : IsAscending front × IsAscending behind
  pub apart : (u v : ℕ) → has made u ≡ true → (has front v || has behind v) ≡ true → u < v
  pub ticks : (u : ℕ) → kept operation (has first u) (has second u) ≡ (has made u || kept operation (has front u) (has behind u))

-- the ticks of a list that are settled are added to old in made, if they are inside, and the rest is left
pub record PartSoFar (inside : ℕ → Bool) (old ticks made rest : List ℕ) : Type 0 where
  pub ascending : IsAscending rest
  pub apart : (u v : ℕ) → has made u ≡ true → has rest v ≡ true → inside v ≡ true → u < v
  pub all : (u : ℕ) → (has old u || (inside u && has ticks u)) ≡ (has made u || (inside u && has rest u))

-- the ticks of a list that are settled are in spans, and the rest is left
pub record RunsSoFar (ticks : List ℕ) (spans : List Span) (rest : List ℕ) : Type 0 where
  pub ascending : IsAscending rest
  pub normal : IsNormal spans
  pub apart : (u v : ℕ) → spans_have spans u ≡ true → has rest v ≡ true → u + 2 ≤ v
  pub all : (u : ℕ) → has ticks u ≡ (spans_have spans u || has rest u)

IsAscendingFrom-weaker : (from low : ℕ) (ticks : List ℕ) → low ≤ from → IsAscendingFrom from ticks → IsAscendingFrom low ticks
IsAscendingFrom-weaker from low [] l h = tt
IsAscendingFrom-weaker from low (x ∷ ticks) l h = (omega (arith, h.0), h.1, h.2)

-- later has the ticks of the list above t
pub record IsAfter (t : ℕ) (ticks later : List ℕ) : Type 0 where
  pub begins : IsAscendingFrom t ticks
  pub ascending : IsAscendingFrom (t + 1) later
  pub others : (u : ℕ) → has later u ≡ (ltb t u && has ticks u)

kept_none : (operation : SetOperation) → kept operation false false ≡ false
kept_none Union = refl
kept_none Meet = refl
kept_none Without = refl

gone : (t : ℕ) (ticks later : List ℕ) → IsAfter t ticks later → has later t ≡ false
gone t ticks later h = grind (arith, nat_tests, h.others t)

kept_elsewhere : (t : ℕ) (ticks later : List ℕ) → IsAfter t ticks later → (u : ℕ) → (u ≡ t → ⊥) → has later u ≡ has ticks u
kept_elsewhere t ticks later h u ne = grind (arith, nat_tests, h.others u, has_below ticks t u h.begins)

module _ (operation : SetOperation) (first second made front behind : List ℕ) (t : ℕ) (later_first later_second : List ℕ)
    (so_far : MergedSoFar operation first second made front behind) (in_first : IsAfter t front later_first) (in_second : IsAfter t behind later_second) where
  ascending_later : IsAscending later_first × IsAscending later_second
  ascending_later = (IsAscendingFrom-weaker (t + 1) 0 later_first (omega arith) in_first.ascending, IsAscendingFrom-weaker (t + 1) 0 later_second (omega arith) in_second.ascending)

  pub merged_drops : kept operation (has front t) (has behind t) ≡ false → MergedSoFar operation first second made later_first later_second
  merged_drops e = record {
    ascending = ascending_later;
    apart = λ u v h k. so_far.apart u v h (grind (arith, in_first.others v, in_second.others v));
    ticks = λ u. so_far.ticks u ∙ ap (λ x. has made u || x) (elim (cases_eq u t) [
      | inl here ↦ rw here (grind (arith, kept_none operation, gone t front later_first in_first, gone t behind later_second in_second))
      | inr other ↦ rw (kept_elsewhere t front later_first in_first u other, kept_elsewhere t behind later_second in_second u other)
    ]);
  }

  pub merged_keeps : (made' : List ℕ) → ((u : ℕ) → has made' u ≡ (has made u || eqb t u)) → kept operation (has front t) (has behind t) ≡ true → MergedSoFar operation first second made' later_first later_second
  merged_keeps made' m e = record {
    ascending = ascending_later;
    apart = λ u v h k. grind (arith, nat_tests, so_far.apart u v, in_first.others v, in_second.others v, m u);
    ticks = λ u. so_far.ticks u ∙ elim (cases_eq u t) [
      | inl here ↦ rw here (grind (arith, nat_tests, m t))
      | inr other ↦ rw (kept_elsewhere t front later_first in_first u other, kept_elsewhere t behind later_second in_second u other) (grind (arith, nat_tests, m u))
    ];
  }

-- a list that begins with t
pub is_after_first : (ticks later : List ℕ) (t : ℕ) → ticks ≡ t ∷ later → IsAscending ticks → IsAfter t ticks later
is_after_first ticks later t e h =
    let h' = rw e at h in
    let begins : IsAscendingFrom t (t ∷ later) = (omega arith, h'.1, h'.2) in
    record { begins = rw e begins; ascending = h'.2; others = λ u. has_behind ticks later t u e (rw e begins) }

module _ (inside : ℕ → Bool) (old ticks made rest later : List ℕ) (t : ℕ) (so_far : PartSoFar inside old ticks made rest) (first : rest ≡ t ∷ later) where
  after : IsAfter t rest later
  after = is_after_first rest later t first so_far.ascending

  pub part_drops : inside t ≡ false → PartSoFar inside old ticks made later
  part_drops e = record {
    ascending = IsAscendingFrom-weaker (t + 1) 0 later (omega arith) after.ascending;
    apart = λ u v h k i. so_far.apart u v h (grind (arith, after.others v)) i;
    all = λ u. so_far.all u ∙ elim (cases_eq u t) [
      | inl here ↦ rw here (grind (arith, e))
      | inr other ↦ rw (kept_elsewhere t rest later after u other)
    ];
  }

  pub part_keeps : (made' : List ℕ) → ((u : ℕ) → has made' u ≡ (has made u || eqb t u)) → inside t ≡ true → PartSoFar inside old ticks made' later
  part_keeps made' m e = record {
    ascending = IsAscendingFrom-weaker (t + 1) 0 later (omega arith) after.ascending;
    apart = λ u v h k i. grind (arith, nat_tests, so_far.apart u v, after.others v, m u);
    all = λ u. so_far.all u ∙ elim (cases_eq u t) [
      | inl here ↦ rw (here, first) (grind (arith, nat_tests, m t, e))
      | inr other ↦ rw (kept_elsewhere t rest later after u other) (grind (arith, nat_tests, m u))
    ];
  }

-- whether u is from one tick up to another, without that
abbrev pub in_part : ℕ → ℕ → ℕ → Bool
in_part from until u = leb from u && ltb u until

pub part_none : (from until : ℕ) (old ticks : List ℕ) → IsAscending ticks → ((u : ℕ) → has old u ≡ true → u < from) → PartSoFar (in_part from until) old ticks old ticks
part_none from until old ticks h before = record {
  ascending = h;
  apart = λ u v e k i. grind (arith, nat_tests, before u e);
  all = λ u. refl;
}

-- the ticks of a list before a tick, and those of another from it on
pub spliced : (first second front made : List ℕ) (at : ℕ) → IsAscending second
    → ((u : ℕ) → has front u ≡ (has [] u || (in_part 0 at u && has first u))) → ((u : ℕ) → has made u ≡ (has front u || (in_part at 1000000001 u && has second u)))
    → (t : ℕ) → has made t ≡ if ltb t at then has first t else has second t
spliced first second front made at h f g t =
    elim (cases_lt t at) [
      | inl before ↦ grind (arith, nat_tests, f t, g t)
      | inr from ↦ elim (cases_Bool (has second t)) [
        | inl e ↦ let bound = has_in_range second 0 t h e in grind (arith, nat_tests, f t, g t)
        | inr e ↦ grind (arith, nat_tests, f t, g t)
      ]
    ]

-- what two lists share is in what is left of them
pub record SharedSoFar (first second rest_first rest_second : List ℕ) : Type 0 where
  pub first_ascends : IsAscending rest_first
  pub second_ascends : IsAscending rest_second
  pub shared : (v : ℕ) → (has first v && has second v) ≡ (has rest_first v && has rest_second v)

-- a tick that comes before the first of another list isn't there
before_first : (t u v : ℕ) (later : List ℕ) → IsAscending (u ∷ later) → t < u → (has (t ∷ []) v && has (u ∷ later) v) ≡ false
before_first t u v later h l = grind (arith, nat_tests, has_below (u ∷ later) u v (omega arith, h.1, h.2))

module _ (first second rest_first rest_second : List ℕ) (t u : ℕ) (later_first later_second : List ℕ) (so_far : SharedSoFar first second rest_first rest_second)
    (begins_first : rest_first ≡ t ∷ later_first) (begins_second : rest_second ≡ u ∷ later_second) where
  pub shared_now : t ≡ u → (v : ℕ) × ((has first v && has second v) ≡ true)
  shared_now e = (t, so_far.shared t ∙ rw (begins_first, begins_second) (grind (arith, nat_tests)))

  pub shared_past_first : t < u → SharedSoFar first second later_first rest_second
  shared_past_first l =
      let here = rw begins_first at so_far.first_ascends in
      let there = rw begins_second at so_far.second_ascends in
      record {
        first_ascends = IsAscendingFrom-weaker (t + 1) 0 later_first (omega arith) here.2;
        second_ascends = so_far.second_ascends;
        shared = λ v. so_far.shared v ∙ rw (begins_first, begins_second) (grind (arith, before_first t u v later_second there l));
      }

  pub shared_past_second : u < t → SharedSoFar first second rest_first later_second
  shared_past_second l =
      let here = rw begins_first at so_far.first_ascends in
      let there = rw begins_second at so_far.second_ascends in
      record {
        first_ascends = so_far.first_ascends;
        second_ascends = IsAscendingFrom-weaker (u + 1) 0 later_second (omega arith) there.2;
        shared = λ v. so_far.shared v ∙ rw (begins_first, begins_second) (grind (arith, before_first u t v later_first here l));
      }

module _ (ticks : List ℕ) (spans : List Span) (rest : List ℕ) (s : Span) (after : List ℕ) (so_far : RunsSoFar ticks spans rest)
    (begins : IsAscendingFrom (s.hi + 2) after) (members : (u : ℕ) → has rest u ≡ (within s.lo s.hi u || has after u)) where
  first_in_rest : has rest s.lo ≡ true
  first_in_rest = let order : s.lo ≤ s.hi = s.ordered in grind (arith, members s.lo, within_from s.lo s.hi s.lo)

  apart_run : (u v : ℕ) → within s.lo s.hi u ≡ true → has after v ≡ true → u + 2 ≤ v
  apart_run u v h k =
      elim (cases_lt v (s.hi + 2)) [
        | inl below ↦ absurd (false≢true (sym (has_below after (s.hi + 2) v begins below) ∙ k))
        | inr at_least ↦ omega (arith, within_parts s.lo s.hi u h)
      ]

  apart_more : (u v : ℕ) → spans_have (spans ++ s ∷ []) u ≡ true → has after v ≡ true → u + 2 ≤ v
  apart_more u v h k =
      elim (or_cases (spans_have spans u) (within s.lo s.hi u) (grind (arith, h, spans_have-append spans (s ∷ []) u))) [
        | inl before ↦ so_far.apart u v before (grind (arith, members v))
        | inr here ↦ apart_run u v here k
      ]

  -- one run more
  run_added : RunsSoFar ticks (spans ++ s ∷ []) after
  run_added = record {
    ascending = IsAscendingFrom-weaker (s.hi + 2) 0 after (omega arith) begins;
    normal = IsNormalFrom-push spans 0 s so_far.normal (λ t h. so_far.apart t s.lo h first_in_rest) (omega arith);
    apart = apart_more;
    all = λ u. grind (arith, so_far.all u, members u, spans_have-append spans (s ∷ []) u);
  }

pub runs_more : (ticks : List ℕ) (spans : List Span) (rest later : List ℕ) (first : ℕ) (s : Span) (after : List ℕ) → RunsSoFar ticks spans rest → rest ≡ first ∷ later → s.lo ≡ first → IsAscendingFrom (s.hi + 2) after → ((u : ℕ) → (eqb first u || has later u) ≡ (within first s.hi u || has after u)) → RunsSoFar ticks (spans ++ s ∷ []) after
runs_more ticks spans rest later first s after so_far e lo begins members = run_added ticks spans rest s after so_far begins (λ u. rw (e, lo) (members u))

-- an index and the ticks
ascending_at_least : (ticks : List ℕ) (from j : ℕ) → IsAscendingFrom from ticks → j < length ticks → from ≤ get_or ticks j 0
ascending_at_least [] from j h l = absurd (omega arith)
ascending_at_least (x ∷ ticks) from zero h l = h.0
ascending_at_least (x ∷ ticks) from (suc j) h l = omega (arith, h.0, ascending_at_least ticks (x + 1) j h.2 (omega arith))

pub ascending_at : (ticks : List ℕ) (from i j : ℕ) → IsAscendingFrom from ticks → i ≤ j → j < length ticks → get_or ticks i 0 ≤ get_or ticks j 0
ascending_at [] from i j h l k = absurd (omega arith)
ascending_at (x ∷ ticks) from zero zero h l k = omega arith
ascending_at (x ∷ ticks) from zero (suc j) h l k = omega (arith, ascending_at_least ticks (x + 1) j h.2 (omega arith))
ascending_at (x ∷ ticks) from (suc i) zero h l k = absurd (omega arith)
ascending_at (x ∷ ticks) from (suc i) (suc j) h l k = ascending_at ticks (x + 1) i j h.2 (omega arith) (omega arith)

has_at : (ticks : List ℕ) (k t : ℕ) → k < length ticks → get_or ticks k 0 ≡ t → has ticks t ≡ true
has_at [] k t l e = absurd (omega arith)
has_at (x ∷ ticks) zero t l e = grind (arith, nat_tests)
has_at (x ∷ ticks) (suc k) t l e = or_right (eqb x t) (has ticks t) (has_at ticks k t (omega arith) e)

has_absent : (ticks : List ℕ) (t : ℕ) → ((k : ℕ) → k < length ticks → get_or ticks k 0 ≡ t → ⊥) → has ticks t ≡ false
has_absent [] t h = refl
has_absent (x ∷ ticks) t h = or_from (eqb x t) (has ticks t) (ne_eqb x t (h 0 (omega arith))) (has_absent ticks t (λ k l. h (suc k) (omega arith)))

-- a binary search finds the ticks
pub search_is_has : (ticks : List ℕ) (t : ℕ) (r : Result ℕ ℕ) → IsAscending ticks → IsBinarySearchResult (λ y. nat_cmp y t) ticks r → is_ok r ≡ has ticks t
search_is_has ticks t (Ok i) h e =
    let found = searched ticks t (Ok i) e (λ i j l k. ascending_at ticks 0 i j h l k) in
    sym (has_at ticks i t found.0 found.1)
search_is_has ticks t (Err i) h e =
    let gap = searched ticks t (Err i) e (λ i j l k. ascending_at ticks 0 i j h l k) in
    sym (has_absent ticks t (λ k l s. grind (arith, gap.1 k, gap.2 k)))

none_iff : (ticks : List ℕ) → IsTrue (eqb (length ticks) 0) ↔ ((t : ℕ) → has ticks t ≡ false)
none_iff [] = (λ _ t. refl, λ _. refl)
none_iff (x ∷ ticks) = (λ h. absurd (omega (arith, eqb-true _ _ h)), λ h. absurd (false≢true (grind (arith, nat_tests, h x))))

pub none_iff_len : (ticks : List ℕ) (len : ℕ) → len ≡ length ticks → IsTrue (eqb len 0) ↔ ((t : ℕ) → has ticks t ≡ false)
none_iff_len ticks len e = rw e (none_iff ticks)

same_first : (x y : ℕ) (xs ys : List ℕ) → IsAscendingFrom (x + 1) xs → IsAscendingFrom (y + 1) ys → ((t : ℕ) → has (x ∷ xs) t ≡ has (y ∷ ys) t) → x ≡ y
same_first x y xs ys h k e =
    elim (cases_order x y) [
      | inl same ↦ same
      | inr (inl less) ↦ absurd (false≢true (grind (arith, nat_tests, e x, has_below ys (y + 1) x k)))
      | inr (inr more) ↦ absurd (false≢true (grind (arith, nat_tests, e y, has_below xs (x + 1) y h)))
    ]

-- ascending lists with the same ticks are one list
pub ascending_same : (xs ys : List ℕ) (from low : ℕ) → IsAscendingFrom from xs → IsAscendingFrom low ys → ((t : ℕ) → has xs t ≡ has ys t) → xs ≡ ys
ascending_same [] [] from low h k e = refl
ascending_same [] (y ∷ ys) from low h k e = absurd (false≢true (grind (arith, nat_tests, e y)))
ascending_same (x ∷ xs) [] from low h k e = absurd (false≢true (grind (arith, nat_tests, e x)))
ascending_same (x ∷ xs) (y ∷ ys) from low h k e =
    let same : x ≡ y = same_first x y xs ys h.2 k.2 e in
    let rest : (t : ℕ) → has xs t ≡ has ys t = λ t. grind (arith, nat_tests, e t, has_below xs (x + 1) t h.2, has_below ys (y + 1) t k.2) in
    rw (same, ascending_same xs ys (x + 1) (y + 1) h.2 k.2 rest)

-- what `==` on two ascending lists says of their ticks
pub equal_iff : (xs ys : List ℕ) → IsAscending xs → IsAscending ys → IsTrue (pointwise eqb xs ys) ↔ ((t : ℕ) → has xs t ≡ has ys t)
equal_iff xs ys h k =
    let decides = bytes_decides xs ys in
    (λ e t. ap (λ ticks. has ticks t) (decides.0 e), λ e. decides.1 (ascending_same xs ys 0 0 h k e))

-- the ticks of the runs before `rest` are there
pub record FilledSoFar (runs : List Span) (made : List ℕ) (rest : List Span) : Type 0 where
  pub normal : IsNormal rest
  pub before : (t u : ℕ) → has made t ≡ true → spans_have rest u ≡ true → t < u
  pub ticks : (t : ℕ) → (has made t || spans_have rest t) ≡ spans_have runs t

pub filled_none : (runs : List Span) → IsNormal runs → FilledSoFar runs [] runs
filled_none runs h = record { normal = h; before = λ t u e k. absurd (false≢true e); ticks = λ t. refl }

module _ (runs : List Span) (made : List ℕ) (rest : List Span) (s : Span) (later : List Span) (so_far : FilledSoFar runs made rest) (begins : rest ≡ s ∷ later) where
  pub run_above : (t : ℕ) → has made t ≡ true → t < s.lo
  run_above t e =
      let order : s.lo ≤ s.hi = s.ordered in
      so_far.before t s.lo e (rw begins (or_left (within s.lo s.hi s.lo) (spans_have later s.lo) (within_from s.lo s.hi s.lo (omega arith) order)))

  later_normal : IsNormalFrom (s.hi + 2) later
  later_normal = (rw begins at so_far.normal).1

  pub filled_more : (made' : List ℕ) → ((t : ℕ) → has made' t ≡ (has made t || within s.lo s.hi t)) → FilledSoFar runs made' later
  filled_more made' more = record {
    normal = IsNormalFrom-weaker (s.hi + 2) 0 later (omega arith) later_normal;
    before = λ t u e k.
        elim (or_cases (has made t) (within s.lo s.hi t) (sym (more t) ∙ e)) [
          | inl old ↦ so_far.before t u old (rw begins (or_right (within s.lo s.hi u) (spans_have later u) k))
          | inr here ↦ elim (cases_lt u (s.hi + 2)) [
            | inl low ↦ absurd (false≢true (sym (spans_have-below later (s.hi + 2) u later_normal low) ∙ k))
            | inr high ↦ omega (arith, (within_parts s.lo s.hi t here).1, high)
          ]
        ];
    ticks = λ t.
        let all : (has made t || (within s.lo s.hi t || spans_have later t)) ≡ spans_have runs t = rw begins at (so_far.ticks t) in
        grind (arith, more t, all);
  }
