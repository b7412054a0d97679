-- Runs of equal value that grow at their end.
use Rattle.std.proofs.Common.{◌≡◌, ℕ, zero, suc, ◌+◌, ◌-◌, ◌<◌, ◌≤◌, true, false, Option, None, Some, is_some, List, [], ◌∷◌, ◌++◌, length, set, get_or, refl, sym, ap, subst, ◌∙◌, inl, inr, arith, length-append}
use Rattle.std.specs.Prelude.{All, ◌==◌, slice_get}
use Rattle.std.specs.Option.{IfSome}
use Rattle.std.proofs.lemmas.Bool.{false≢true, cases_lt, and_parts, or_left, or_right, or_cases}
use Rattle.std.proofs.lemmas.Bool.Decides.{nat_tests}
use Rattle.std.proofs.lemmas.Int.{ints}
use Rattle.std.proofs.lemmas.List.{get_or_append_left, get_or_push}
use Rattle.std.proofs.lemmas.List.Elements.{All-push, All-weaker}
use Rattle.std.proofs.lemmas.List.Folds.{list_any-append}
use Rattle.std.proofs.lemmas.Option.{slice_get-get_or}
use Rattle.std.proofs.Math.Seq.{set-append_seam}
use Rattle.exact.proofs.Lists.{bytes_eq_true}
use Rattle.tick_set.specs.Ticks.{within}
use Rattle.formula.specs.declared.value.Value.{Value}
use Rattle.formula.specs.declared.value.Value.TheVariants as values
use Rattle.interpreting.specs.declared.value_run.ValueRun.{ValueRun}
use Rattle.interpreting.specs.ValueRuns.{IsRunOf, value_runs_have}
use Rattle.atoms.specs.ValueRuns.{AreMaximalRuns, ComesAfter, EachFollows, IsJoined, are_equal, goes_on}

pub equal_values : (v w : Value) → are_equal v w ≡ true → v ≡ w
equal_values (values.Num m) (values.Num n) same = let is : m ≡ n = grind (arith, ints, nat_tests, same) in ap values.Num is
equal_values (values.Num m) (values.Text u) same = absurd (false≢true same)
equal_values (values.Text s) (values.Num n) same = absurd (false≢true same)
equal_values (values.Text s) (values.Text u) same = ap values.Text (bytes_eq_true s u same)

-- ---- the last run

-- runs of which one is the last
pub record EndsWith (runs : List ValueRun) (last : ValueRun) : Type 0 where
  pub front : List ValueRun
  pub is : runs ≡ front ++ last ∷ []
  pub place : length front + 1 ≡ length runs

ends_with : (runs : List ValueRun) (n : ℕ) (last : ValueRun) → n + 1 ≡ length runs → slice_get runs n ≡ Some last → EndsWith runs last
ends_with [] n last count is = absurd (omega arith)
ends_with (run ∷ []) zero last count is = let same : run ≡ last = cc in record { front = []; is = ap (λ r. r ∷ []) same; place = omega arith }
ends_with (run ∷ []) (suc n) last count is = absurd (omega arith)
ends_with (run ∷ next ∷ runs) zero last count is = absurd (omega arith)
ends_with (run ∷ next ∷ runs) (suc n) last count is =
    let rest = ends_with (next ∷ runs) n last (omega arith) is in
    record { front = run ∷ rest.front; is = ap (λ rs. run ∷ rs) rest.is; place = omega (arith, rest.place) }

-- ---- the runs follow one another

follows_both : (front : List ValueRun) (last both : ValueRun) → both.span.lo ≡ last.span.lo → both.value ≡ last.value →
    EachFollows (front ++ last ∷ []) → EachFollows (front ++ both ∷ [])
follows_both [] last both begins value each = tt
follows_both (run ∷ []) last both begins value each = (
  record {
    past = omega (arith, each.0.past);
    differ = λ next. ap (are_equal run.value) value ∙ each.0.differ (next ∙ begins);
  },
  tt,
)
follows_both (run ∷ next ∷ front) last both begins value each = (each.0, follows_both (next ∷ front) last both begins value each.1)

follows_more : (front : List ValueRun) (last run : ValueRun) → ComesAfter last run → EachFollows (front ++ last ∷ []) → EachFollows ((front ++ last ∷ []) ++ run ∷ [])
follows_more [] last run follows each = (follows, tt)
follows_more (first ∷ []) last run follows each = (each.0, (follows, tt))
follows_more (first ∷ next ∷ front) last run follows each = (each.0, follows_more (next ∷ front) last run follows each.1)

apart_values : (last run : ValueRun) → last.span.hi + 1 ≡ run.span.lo → goes_on last run ≡ false → are_equal last.value run.value ≡ false
apart_values last run next differs = grind (arith, nat_tests)

-- ---- runs up to a later tick

module _ (value : ℕ → Option Value) (from at : ℕ) (run : ValueRun) (order : from ≤ run.span.lo) (here : at ≡ run.span.lo)
    (has : (t : ℕ) → run.span.lo ≤ t → t ≤ run.span.hi → value t ≡ Some run.value) where
  later : at ≤ run.span.hi + 1
  later = let o : run.span.lo ≤ run.span.hi = run.span.ordered in omega arith

  wider : (r : ValueRun) → IsRunOf value from at r → IsRunOf value from (run.span.hi + 1) r
  wider r is = let o : run.span.lo ≤ run.span.hi = run.span.ordered in record { begins = is.begins; ends = omega (arith, is.ends); has = is.has }

  own : IsRunOf value from (run.span.hi + 1) run
  own = record { begins = order; ends = omega arith; has = has }

  pushed : (runs : List ValueRun) → AreMaximalRuns value from at runs → EachFollows (runs ++ run ∷ []) → AreMaximalRuns value from (run.span.hi + 1) (runs ++ run ∷ [])
  unfolding wider own
  pushed runs are follow =
      let o : run.span.lo ≤ run.span.hi = run.span.ordered in
      record {
        of_values = record {
          each = All-push (IsRunOf value from (run.span.hi + 1)) runs run (All-weaker (IsRunOf value from at) (IsRunOf value from (run.span.hi + 1)) wider runs are.of_values.each) own;
          all = λ t begun before some.
              list_any-append (λ r. within r.span.lo r.span.hi t) runs (run ∷ [])
              ∙ elim (cases_lt t run.span.lo) [
                | inl early ↦ or_left _ _ (are.of_values.all t begun (omega arith) some)
                | inr now ↦ or_right (value_runs_have runs t) _ (grind (arith, nat_tests))
              ];
          few = omega (arith, are.of_values.few, length-append runs (run ∷ []));
        };
        maximal = follow;
      }

  lengthened : (front : List ValueRun) (last both : ValueRun) → AreMaximalRuns value from at (front ++ last ∷ []) → goes_on last run ≡ true → both.span.lo ≡ last.span.lo
      → both.span.hi ≡ run.span.hi → both.value ≡ last.value → AreMaximalRuns value from (run.span.hi + 1) (front ++ both ∷ [])
  unfolding wider
  lengthened front last both are on begins ends same =
      let o : run.span.lo ≤ run.span.hi = run.span.ordered in
      let ol : last.span.lo ≤ last.span.hi = last.span.ordered in
      let parts = and_parts (last.span.hi + 1 == run.span.lo) (are_equal last.value run.value) on in
      let next : last.span.hi + 1 ≡ run.span.lo = grind (arith, nat_tests, parts.0) in
      let equal : last.value ≡ run.value = equal_values last.value run.value parts.1 in
      let seam : length front < length (front ++ last ∷ []) = omega (arith, length-append front (last ∷ [])) in
      let before : IsRunOf value from at last = subst (IsRunOf value from at) (get_or_push front last last (length front) refl) (are.of_values.each (length front) last seam) in
      let firsts : All (IsRunOf value from at) front = λ k d l.
      subst (IsRunOf value from at) (get_or_append_left front (last ∷ []) d k l) (are.of_values.each k d (omega (arith, l, length-append front (last ∷ [])))) in
      record {
        of_values = record {
          each =
              All-push (IsRunOf value from (run.span.hi + 1)) front both
              (All-weaker (IsRunOf value from at) (IsRunOf value from (run.span.hi + 1)) wider front firsts)
              (record {
                begins = omega (arith, before.begins);
                ends = omega arith;
                has = λ t a b. elim (cases_lt t run.span.lo) [
                  | inl early ↦ before.has t (omega arith) (omega arith) ∙ ap Some (sym same)
                  | inr now ↦ has t now (omega arith) ∙ ap Some (sym equal ∙ sym same)
                ];
              });
          all = λ t begun upto some.
              list_any-append (λ r. within r.span.lo r.span.hi t) front (both ∷ [])
              ∙ elim (cases_lt t run.span.lo) [
                | inl early ↦
                    elim (or_cases (value_runs_have front t) (value_runs_have (last ∷ []) t)
                    (sym (list_any-append (λ r. within r.span.lo r.span.hi t) front (last ∷ [])) ∙ are.of_values.all t begun (omega arith) some)) [
                      | inl old ↦ or_left _ _ old
                      | inr end ↦ or_right (value_runs_have front t) _ (grind (arith, nat_tests, end))
                    ]
                | inr now ↦ or_right (value_runs_have front t) _ (grind (arith, nat_tests))
              ];
          few = omega (arith, are.of_values.few, length-append front (last ∷ []), length-append front (both ∷ []));
        };
        maximal = follows_both front last both begins same are.maximal;
      }

  -- the last run goes on
  pub joined_more : (runs : List ValueRun) (both : ValueRun) (place : ℕ) → AreMaximalRuns value from at runs → IsJoined runs run both → place + 1 ≡ length runs
      → AreMaximalRuns value from (run.span.hi + 1) (set runs place both)
  joined_more runs both place are joined at_end =
      let end = ends_with runs (length runs - 1) joined.last (omega arith) joined.is in
      let same : place ≡ length end.front = omega (arith, end.place) in
      let made : set runs place both ≡ end.front ++ both ∷ []
      = (λ i. set (end.is i) (same i) both) ∙ set-append_seam end.front joined.last [] both in
      subst (AreMaximalRuns value from (run.span.hi + 1)) (sym made)
      (lengthened end.front joined.last both (subst (AreMaximalRuns value from at) end.is are) joined.on joined.begins joined.ends joined.value)

  -- another run begins
  pub pushed_more : (runs : List ValueRun) → AreMaximalRuns value from at runs
      → IfSome (slice_get runs (length runs - 1)) (λ last. goes_on last run ≡ false)
      → AreMaximalRuns value from (run.span.hi + 1) (runs ++ run ∷ [])
  pushed_more [] are apart = pushed [] are tt
  pushed_more (first ∷ runs) are apart =
      let n : ℕ = length (first ∷ runs) - 1 in
      let there : n < length (first ∷ runs) = omega arith in
      let last : ValueRun = get_or (first ∷ runs) n first in
      let is : slice_get (first ∷ runs) n ≡ Some last = slice_get-get_or (first ∷ runs) n first there in
      let end = ends_with (first ∷ runs) n last (omega arith) is in
      let differs : goes_on last run ≡ false = subst (λ (o : Option ValueRun). IfSome o (λ r. goes_on r run ≡ false)) is apart in
      let before : IsRunOf value from at last = are.of_values.each n first there in
      let follows : ComesAfter last run = record { past = omega (arith, before.ends); differ = λ next. apart_values last run next differs } in
      pushed (first ∷ runs) are
      (subst (λ rs. EachFollows (rs ++ run ∷ [])) (sym end.is) (follows_more end.front last run follows (subst EachFollows end.is are.maximal)))

-- at first there is no run
pub no_runs : (value : ℕ → Option Value) (from : ℕ) → AreMaximalRuns value from from []
no_runs value from = record {
  of_values = record {
    each = λ k d l. absurd (omega arith);
    all = λ t begun before. absurd (omega arith);
    few = omega arith;
  };
  maximal = tt;
}

-- ticks without a value add none
pub no_more_runs : (value : ℕ → Option Value) (from at until : ℕ) (runs : List ValueRun) → at ≤ until → AreMaximalRuns value from at runs →
    ((t : ℕ) → at ≤ t → t < until → value t ≡ None) → AreMaximalRuns value from until runs
no_more_runs value from at until runs later are none = record {
  of_values = record {
    each = All-weaker (IsRunOf value from at) (IsRunOf value from until) (λ r is. record { begins = is.begins; ends = omega (arith, is.ends); has = is.has }) runs are.of_values.each;
    all = λ t begun before some.
        elim (cases_lt t at) [
          | inl early ↦ are.of_values.all t begun early some
          | inr late ↦ absurd (false≢true (sym (ap is_some (none t late before)) ∙ some))
        ];
    few = omega (arith, are.of_values.few);
  };
  maximal = are.maximal;
}

-- the same runs serve values that are equal
pub runs_of_equal : (f h : ℕ → Option Value) (from until : ℕ) (runs : List ValueRun) → ((t : ℕ) → f t ≡ h t) → AreMaximalRuns f from until runs → AreMaximalRuns h from until runs
runs_of_equal f h from until runs same are = record {
  of_values = record {
    each = All-weaker (IsRunOf f from until) (IsRunOf h from until) (λ r is. record { begins = is.begins; ends = is.ends; has = λ t a b. sym (same t) ∙ is.has t a b }) runs are.of_values.each;
    all = λ t begun before some. are.of_values.all t begun before (ap is_some (same t) ∙ some);
    few = are.of_values.few;
  };
  maximal = are.maximal;
}
