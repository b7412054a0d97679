-- The runs of a term's value as far as a formula tells them apart.
use Rattle.std.proofs.Common.{◌≡◌, ℕ, suc, ◌+◌, ◌<◌, ◌≤◌, Bool, true, false, ◌&&◌, ◌||◌, Option, None, Some, is_some, List, [], ◌∷◌, ◌++◌, length, get_or, take, refl, sym, ap, ◌∙◌, subst, inl, inr, arith}
use Rattle.std.specs.Prelude.{All}
use Rattle.std.specs.List.{list_any}
use Rattle.std.specs.Option.{option_map_or}
use Rattle.std.proofs.lemmas.Bool.{cases_Bool, cases_lt, false≢true}
use Rattle.std.proofs.lemmas.Bool.Decides.{nat_tests}
use Rattle.std.proofs.lemmas.List.{length-append, take_all}
use Rattle.std.proofs.lemmas.List.Elements.{All-head, All-nil, All-push, All-tail}
use Rattle.std.proofs.lemmas.List.Folds.{list_any_more}
use Rattle.tick_set.specs.Ticks.{within}
use Rattle.tick_set.proofs.Between.{within_from, within_parts}
use Rattle.formula.specs.declared.value.Value.{Value}
use Rattle.interpreting.specs.declared.value_run.ValueRun.{ValueRun}
use Rattle.interpreting.specs.ValueRuns.{AreValueRuns, IsRunOf, run_has, value_runs_have}
use Rattle.evaluator.specs.Stretched.{AreStretches, IsStretch}
use Rattle.evaluator.proofs.GatherLemmas.{any-push}
use Rattle.exact.proofs.Truths.{or_false, or_grouped}

-- ---- one stretch

pub run_is_stretch : (named : Bool) (value : ℕ → Option Value) (from until : ℕ) (run : ValueRun) → IsRunOf value from until run → IsStretch named value from until run
run_is_stretch named value from until run is = record {
  begins = is.begins;
  ends = is.ends;
  first = is.has run.span.lo (omega arith) run.span.ordered;
  has = λ t l m. ap is_some (is.has t l m);
  own = λ _ t l m. is.has t l m;
}

pub both_are_stretch : (value : ℕ → Option Value) (from until : ℕ) (last run made : ValueRun) → made.value ≡ last.value →
    made.span.lo ≡ last.span.lo → made.span.hi ≡ run.span.hi → last.span.hi + 1 ≡ run.span.lo →
    IsStretch false value from until last → IsRunOf value from until run → IsStretch false value from until made
both_are_stretch value from until last run made same lo hi next is also = record {
  begins = omega (arith, is.begins, lo);
  ends = omega (arith, also.ends, hi);
  first = ap value lo ∙ is.first ∙ ap Some (sym same);
  has = λ t l m. elim (cases_lt t run.span.lo) [
    | inl before ↦ is.has t (omega (arith, l, lo)) (omega (arith, before, next))
    | inr from ↦ ap is_some (also.has t from (omega (arith, m, hi)))
  ];
  own = λ h. absurd (false≢true h);
}

-- the ticks of both
pub both_ticks : (last run made : ValueRun) → made.span.lo ≡ last.span.lo → made.span.hi ≡ run.span.hi → last.span.hi + 1 ≡ run.span.lo →
    (t : ℕ) → run_has t made ≡ (run_has t last || run_has t run)
both_ticks last run made lo hi next t =
    (λ i. within (lo i) (hi i) t) ∙ met last.span.lo last.span.hi run.span.lo run.span.hi t last.span.ordered run.span.ordered next
  where
    met : (a b c d t : ℕ) → a ≤ b → c ≤ d → b + 1 ≡ c → within a d t ≡ (within a b t || within c d t)
    met a b c d t l m next = grind (arith, nat_tests, l, m, next)

-- ---- all of them

pub runs_are_stretches : (named : Bool) (value : ℕ → Option Value) (from until : ℕ) (runs : List ValueRun) → AreValueRuns value from until runs →
    AreStretches named value from until runs
runs_are_stretches named value from until runs are = record {
  each = λ i d l. run_is_stretch named value from until _ (are.each i d l);
  all = are.all;
  few = are.few;
}

pub joined_are_stretches : (value : ℕ → Option Value) (from until : ℕ) (runs made : List ValueRun) → AreValueRuns value from until runs →
    All (IsStretch false value from until) made → ((t : ℕ) → value_runs_have made t ≡ value_runs_have runs t) → length made ≤ length runs →
    AreStretches false value from until made
joined_are_stretches value from until runs made are each same few = record {
  each = each;
  all = λ t l m h. same t ∙ are.all t l m h;
  few = let f = are.few in omega (arith, few, f);
}

-- the first tick of one is in the window, and has its value
pub at_stretch : (named : Bool) (lo hi : ℕ) (value : ℕ → Option Value) (r : ValueRun) → IsStretch named value lo (hi + 1) r →
    (within lo hi r.span.lo ≡ true) × (value r.span.lo ≡ Some r.value)
at_stretch named lo hi value r is = (within_from lo hi r.span.lo is.begins (let o = r.span.ordered in omega (arith, is.ends, o)), is.first)

module _ (named : Bool) (lo hi : ℕ) (value : ℕ → Option Value) (P : Value → Bool) (blind : named ≡ false → (v w : Value) → P v ≡ P w) (t : ℕ) where
  at_none : (runs : List ValueRun) → All (IsStretch named value lo (hi + 1)) runs → value t ≡ None → list_any (λ r. run_has t r && P r.value) runs ≡ false
  at_none [] each e = refl
  at_none (r ∷ rest) each e =
      elim (cases_Bool (run_has t r)) [
        | inl h ↦
            let ends = within_parts r.span.lo r.span.hi t h in
            absurd (false≢true (sym (ap is_some e) ∙ (All-head (IsStretch named value lo (hi + 1)) r rest each).has t ends.0 ends.1))
        | inr h ↦ ap (λ (c : Bool). (c && P r.value) || list_any (λ q. run_has t q && P q.value) rest) h ∙ at_none rest (All-tail (IsStretch named value lo (hi + 1)) r rest each) e
      ]

  -- a stretch's value is as good as that of the tick
  as_good : (r : ValueRun) (v : Value) → IsStretch named value lo (hi + 1) r → value t ≡ Some v → run_has t r ≡ true → P r.value ≡ P v
  as_good r v is e h =
      elim (cases_Bool named) [
        | inl names ↦
            let ends = within_parts r.span.lo r.span.hi t h in
            let f : Some r.value ≡ Some v = sym (is.own names t ends.0 ends.1) ∙ e in
            ap P (let g : r.value ≡ v = cc in g)
        | inr none ↦ blind none r.value v
      ]

  at_some : (runs : List ValueRun) (v : Value) → All (IsStretch named value lo (hi + 1)) runs → value t ≡ Some v →
      list_any (λ r. run_has t r && P r.value) runs ≡ (list_any (run_has t) runs && P v)
  at_some [] v each e = refl
  at_some (r ∷ rest) v each e =
      ap (λ (c : Bool). (run_has t r && P r.value) || c) (at_some rest v (All-tail (IsStretch named value lo (hi + 1)) r rest each) e)
      ∙ joined (run_has t r) (list_any (run_has t) rest) (P r.value) (P v) (as_good r v (All-head (IsStretch named value lo (hi + 1)) r rest each) e)
    where
      joined : (a b p q : Bool) → (a ≡ true → p ≡ q) → ((a && p) || (b && q)) ≡ ((a || b) && q)
      joined true b p true f = ap (λ (c : Bool). c || (b && true)) (f refl)
      joined true true p false f = ap (λ (c : Bool). c || false) (f refl)
      joined true false p false f = ap (λ (c : Bool). c || false) (f refl)
      joined false b p q f = refl

  -- a test of the value at a tick is a test of the values of the stretches at their ticks
  pub stretches_all : (runs : List ValueRun) → AreStretches named value lo (hi + 1) runs → within lo hi t ≡ true →
      list_any (λ r. run_has t r && P r.value) runs ≡ option_map_or P (value t) false
  stretches_all runs are inside = by_value (value t) refl
    where
      by_value : (o : Option Value) → value t ≡ o → list_any (λ r. run_has t r && P r.value) runs ≡ option_map_or P (value t) false
      by_value None e = at_none runs are.each e ∙ sym (ap (λ (z : Option Value). option_map_or P z false) e)
      by_value (Some v) e =
          at_some runs v are.each e
          ∙ ap (λ (c : Bool). c && P v) (let ends = within_parts lo hi t inside in are.all t ends.0 (omega (arith, ends.1)) (ap is_some e))
          ∙ sym (ap (λ (z : Option Value). option_map_or P z false) e)

-- ---- the walk that joins them

-- of one and so many more of the runs, what is done and what may still grow
pub record JoinedSoFar (runs : List ValueRun) (i : ℕ) (made : List ValueRun) (last : ValueRun) : Type 0 where
  pub each : (value : ℕ → Option Value) (from until : ℕ) → All (IsRunOf value from until) runs →
      All (IsStretch false value from until) made × IsStretch false value from until last
  pub ticks : (t : ℕ) → (value_runs_have made t || run_has t last) ≡ value_runs_have (take (i + 1) runs) t
  pub few : length made ≤ i

pub joined_none : (runs : List ValueRun) (first : ValueRun) (later : List ValueRun) → runs ≡ first ∷ later → JoinedSoFar runs 0 [] first
joined_none runs first later are = record {
  each = λ value from until all. (
    All-nil (IsStretch false value from until),
    run_is_stretch false value from until first (All-head (IsRunOf value from until) first later (subst (λ (rs : List ValueRun). All (IsRunOf value from until) rs) are all)),
  );
  ticks = λ t. sym (ap (λ (rs : List ValueRun). value_runs_have (take 1 rs) t) are ∙ or_false (run_has t first));
  few = omega arith;
}

-- a run of the later ones is one of all
pub run_among : (runs : List ValueRun) (first : ValueRun) (later : List ValueRun) (i : ℕ) (run : ValueRun) → runs ≡ first ∷ later → run ≡ get_or later i run →
    run ≡ get_or runs (i + 1) run
run_among runs first later i run are at =
    at
    ∙ (let e : get_or (first ∷ later) (suc i) run ≡ get_or later i run = refl in sym e)
    ∙ (let e : suc i ≡ i + 1 = omega arith in ap (λ (n : ℕ). get_or (first ∷ later) n run) e)
    ∙ sym (ap (λ (rs : List ValueRun). get_or rs (i + 1) run) are)

pub all_of : (runs : List ValueRun) (first : ValueRun) (later : List ValueRun) → runs ≡ first ∷ later → length runs ≡ length later + 1
all_of runs first later are = ap length are ∙ (let e : length (first ∷ later) ≡ length later + 1 = omega arith in e)

one_of_all : (value : ℕ → Option Value) (from until : ℕ) (runs : List ValueRun) (i : ℕ) (run : ValueRun) → i < length runs → run ≡ get_or runs i run →
    All (IsRunOf value from until) runs → IsRunOf value from until run
one_of_all value from until runs i run l at all = subst (λ (r : ValueRun). IsRunOf value from until r) (sym at) (all i run l)

more_ticks : (runs : List ValueRun) (i : ℕ) (run : ValueRun) → i < length runs → run ≡ get_or runs i run → (t : ℕ) →
    value_runs_have (take (i + 1) runs) t ≡ (value_runs_have (take i runs) t || run_has t run)
more_ticks runs i run l at t =
    list_any_more (run_has t) runs i run l ∙ ap (λ (r : ValueRun). value_runs_have (take i runs) t || run_has t r) (sym at)

-- one more run goes on with the last one
pub joined_longer : (runs : List ValueRun) (i : ℕ) (made : List ValueRun) (last run longer : ValueRun) → JoinedSoFar runs i made last →
    i + 1 < length runs → run ≡ get_or runs (i + 1) run → longer.value ≡ last.value → longer.span.lo ≡ last.span.lo → longer.span.hi ≡ run.span.hi →
    last.span.hi + 1 ≡ run.span.lo → JoinedSoFar runs (i + 1) made longer
joined_longer runs i made last run longer so_far l at same lo hi next = record {
  each = λ value from until all.
      let own = so_far.each value from until all in
      (own.0, both_are_stretch value from until last run longer same lo hi next own.1 (one_of_all value from until runs (i + 1) run l at all));
  ticks = λ t.
      ap (λ (c : Bool). value_runs_have made t || c) (both_ticks last run longer lo hi next t)
      ∙ sym (or_grouped (value_runs_have made t) (run_has t last) (run_has t run))
      ∙ ap (λ (c : Bool). c || run_has t run) (so_far.ticks t)
      ∙ sym (more_ticks runs (i + 1) run l at t);
  few = let f = so_far.few in omega (arith, f);
}

-- or begins anew
pub joined_apart : (runs : List ValueRun) (i : ℕ) (made new : List ValueRun) (last run : ValueRun) → JoinedSoFar runs i made last →
    i + 1 < length runs → run ≡ get_or runs (i + 1) run → new ≡ made ++ last ∷ [] → JoinedSoFar runs (i + 1) new run
joined_apart runs i made new last run so_far l at is = record {
  each = λ value from until all.
      let own = so_far.each value from until all in (
        subst (λ (rs : List ValueRun). All (IsStretch false value from until) rs) (sym is) (All-push (IsStretch false value from until) made last own.0 own.1),
        run_is_stretch false value from until run (one_of_all value from until runs (i + 1) run l at all),
      );
  ticks = λ t.
      ap (λ (rs : List ValueRun). value_runs_have rs t || run_has t run) is
      ∙ ap (λ (c : Bool). c || run_has t run) (any-push (run_has t) made last ∙ so_far.ticks t)
      ∙ sym (more_ticks runs (i + 1) run l at t);
  few = let f = so_far.few in let n : length new ≡ length made + 1 = ap length is ∙ length-append made (last ∷ []) in omega (arith, f, n);
}

pub joined_each : (runs : List ValueRun) (i : ℕ) (made new : List ValueRun) (last : ValueRun) → JoinedSoFar runs i made last → new ≡ made ++ last ∷ [] →
    (value : ℕ → Option Value) (from until : ℕ) → All (IsRunOf value from until) runs → All (IsStretch false value from until) new
joined_each runs i made new last so_far is value from until all =
    let own = so_far.each value from until all in
    subst (λ (rs : List ValueRun). All (IsStretch false value from until) rs) (sym is) (All-push (IsStretch false value from until) made last own.0 own.1)

pub joined_all : (runs : List ValueRun) (i : ℕ) (made new : List ValueRun) (last : ValueRun) → JoinedSoFar runs i made last →
    length runs ≤ i + 1 → new ≡ made ++ last ∷ [] → (t : ℕ) → value_runs_have new t ≡ value_runs_have runs t
joined_all runs i made new last so_far l is t =
    ap (λ (rs : List ValueRun). value_runs_have rs t) is
    ∙ any-push (run_has t) made last
    ∙ so_far.ticks t
    ∙ ap (λ (rs : List ValueRun). value_runs_have rs t) (take_all (i + 1) runs l)

pub joined_few : (runs : List ValueRun) (i : ℕ) (made new : List ValueRun) (last : ValueRun) → JoinedSoFar runs i made last →
    i + 1 ≤ length runs → new ≡ made ++ last ∷ [] → length new ≤ length runs
joined_few runs i made new last so_far l is =
    let f = so_far.few in
    let n : length new ≡ length made + 1 = ap length is ∙ length-append made (last ∷ []) in
    omega (arith, f, n, l)

-- what is joined where the value isn't named
pub joined_by : (named : Bool) (value : ℕ → Option Value) (from until : ℕ) (runs same made : List ValueRun) → named ≡ false → AreValueRuns value from until runs → same ≡ runs →
    ((v : ℕ → Option Value) (lo hi : ℕ) → All (IsRunOf v lo hi) same → All (IsStretch false v lo hi) made) →
    ((t : ℕ) → value_runs_have made t ≡ value_runs_have same t) → length made ≤ length same → AreStretches named value from until made
joined_by named value from until runs same made none are is each ticks few =
    subst (λ (b : Bool). AreStretches b value from until made) (sym none)
    (joined_are_stretches value from until runs made are
    (each value from until (subst (λ (rs : List ValueRun). All (IsRunOf value from until) rs) (sym is) are.each))
    (λ t. ticks t ∙ ap (λ (rs : List ValueRun). value_runs_have rs t) is)
    (subst (λ (rs : List ValueRun). length made ≤ length rs) is few))
