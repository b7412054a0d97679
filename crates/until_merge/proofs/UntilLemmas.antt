-- The walk of UNTIL over two lists of spans.
use Rattle.std.proofs.Common.{◌≡◌, ℕ, ◌+◌, ◌-◌, ◌<◌, ◌≤◌, min, max, Bool, true, false, ◌||◌, List, [], ◌∷◌, ◌++◌, length, append_assoc, Some, slice_get, ◌⊎◌, refl, sym, ap, ◌∙◌, inl, inr, arith}
use Rattle.std.proofs.lemmas.Bool.{false≢true, both_ways, cases_lt, or_cases, or_left, or_right}
use Rattle.std.proofs.lemmas.List.{nil_from_length}
use Rattle.tick_set.specs.declared.spans.Span.{Span}
use Rattle.tick_set.specs.Ticks.{within}
use Rattle.tick_set.specs.Operators.{until_in}
use Rattle.tick_set.specs.Runs.{spans_have, IsNormal, IsNormalFrom}
use Rattle.tick_set.proofs.Between.{within_parts, within_from}
use Rattle.tick_set.proofs.RunLemmas.{spans_have-below, spans_have-append, IsNormalFrom-push}
use Rattle.tick_set.proofs.UntilLemmas.{until_in_found, until_in_from, until_in_none}
use Rattle.interval_set.specs.Cursor.{DropsEnded, EndsFrom}
use Rattle.until_merge.specs.Start.{IsStart}
use Rattle.exact.proofs.Truths.{same_truth}

-- no tick before the goal is a guard
pub start_here : (g : ℕ → Bool) (c a : ℕ) → ((t : ℕ) → t < a → g t ≡ false) → IsStart g c a a
start_here g c a none = record {
  upto = omega arith;
  near = omega arith;
  guarded = λ v l k. absurd (omega arith);
  first = λ t l k guarded.
      elim (cases_lt t a) [
        | inl before ↦ absurd (both_ways (g t) (none t before) (guarded t (omega arith) before))
        | inr at ↦ at
      ];
}

-- the first span reaches the goal
pub start_earlier : (guards : List Span) (s : Span) (later : List Span) (c a : ℕ) → guards ≡ s ∷ later → IsNormal guards → EndsFrom (a - 1) guards → s.lo < a → IsStart (spans_have guards) c a (max s.lo (a - c))
start_earlier guards s later c a e normal ends l =
    let normal' = rw e at normal in
    let ends' = rw e at ends in
    rw e (record {
      upto = omega arith;
      near = omega arith;
      guarded = λ v k m. or_left (within s.lo s.hi v) (spans_have later v) (within_from s.lo s.hi v (omega arith) (omega arith));
      first = λ t k m guarded.
          elim (cases_lt t s.lo) [
            | inl before ↦
                let begins : IsNormalFrom s.lo (s ∷ later) = (omega arith, normal'.1) in
                absurd (both_ways (spans_have (s ∷ later) t) (spans_have-below (s ∷ later) s.lo t begins before) (guarded t (omega arith) (omega arith)))
            | inr from ↦ omega arith
          ];
    })

first_is : (spans : List Span) (s : Span) → Some s ≡ slice_get spans 0 → (later : List Span) × (spans ≡ s ∷ later)
first_is [] s e = absurd (cc)
first_is (x ∷ later) s e = let same : s ≡ x = cc in (later, rw same refl)

pub start_in_first : (guards : List Span) (s : Span) (c a : ℕ) → Some s ≡ slice_get guards 0 → IsNormal guards → EndsFrom (a - 1) guards → s.lo < a → IsStart (spans_have guards) c a (max s.lo (a - c))
start_in_first guards s c a e normal ends l = let f = first_is guards s e in start_earlier guards s f.0 c a f.1 normal ends l

pub start_before_first : (guards : List Span) (s : Span) (c a : ℕ) → Some s ≡ slice_get guards 0 → IsNormal guards → a ≤ s.lo → IsStart (spans_have guards) c a a
start_before_first guards s c a e normal l =
    let f = first_is guards s e in
    let normal' = rw f.1 at normal in
    let begins : IsNormalFrom s.lo (s ∷ f.0) = (omega arith, normal'.1) in
    start_here (spans_have guards) c a (λ t k. rw f.1 (spans_have-below (s ∷ f.0) s.lo t begins (omega arith)))

-- one run more
module _ (made : List Span) (r : Span) (next : Span) (normal : IsNormal made) (apart : (u : ℕ) → spans_have made u ≡ true → u + 2 ≤ r.lo) (gap : r.hi + 1 < next.lo) where
  pub done_normal : IsNormal (made ++ r ∷ [])
  done_normal = IsNormalFrom-push made 0 r normal apart (omega arith)

  pub done_apart : (u : ℕ) → spans_have (made ++ r ∷ []) u ≡ true → u + 2 ≤ next.lo
  done_apart u h =
      let order : r.lo ≤ r.hi = r.ordered in
      elim (or_cases (spans_have made u) (within r.lo r.hi u) (grind (arith, h, spans_have-append made (r ∷ []) u))) [
        | inl before ↦ omega (arith, apart u before)
        | inr here ↦ omega (arith, (within_parts r.lo r.hi u here).1)
      ]

  pub done_ticks : (t : ℕ) → (spans_have (made ++ r ∷ []) t || within next.lo next.hi t) ≡ (spans_have made t || within r.lo r.hi t || within next.lo next.hi t)
  done_ticks t = grind (arith, spans_have-append made (r ∷ []) t)

-- rest is the spans without some that end before a tick
pub record IsSuffix (at : ℕ) (spans rest : List Span) : Type 0 where
  pub dropped : List Span
  pub whole : spans ≡ dropped ++ rest
  pub ended : (u : ℕ) → spans_have dropped u ≡ true → u < at

pub suffix_past : (at end : ℕ) (spans rest later : List Span) → IsSuffix at spans rest → at ≤ end → DropsEnded end rest later → IsSuffix end spans later
suffix_past at end spans rest later h l past = record {
  dropped = h.dropped ++ past.dropped;
  whole = h.whole ∙ rw past.whole (sym (append_assoc h.dropped past.dropped later));
  ended = λ u e.
      elim (or_cases (spans_have h.dropped u) (spans_have past.dropped u) (sym (spans_have-append h.dropped past.dropped u) ∙ e)) [
        | inl early ↦ omega (arith, h.ended u early)
        | inr late ↦ past.ended u late
      ];
}

-- the spans in front of a span end two ticks before it
pub front_lo : (front : List Span) (f : Span) (later : List Span) (from : ℕ) → IsNormalFrom from (front ++ f ∷ later) → from ≤ f.lo
front_lo [] f later from h = h.0
front_lo (x ∷ front) f later from h = let order : x.lo ≤ x.hi = x.ordered in omega (arith, h.0, front_lo front f later (x.hi + 2) h.1)

front_apart : (front : List Span) (f : Span) (later : List Span) (from u : ℕ) → IsNormalFrom from (front ++ f ∷ later) → spans_have front u ≡ true → u + 2 ≤ f.lo
front_apart [] f later from u h e = absurd (false≢true e)
front_apart (x ∷ front) f later from u h e =
    elim (or_cases (within x.lo x.hi u) (spans_have front u) e) [
      | inl here ↦ omega (arith, (within_parts x.lo x.hi u here).1, front_lo front f later (x.hi + 2) h.1)
      | inr past ↦ front_apart front f later (x.hi + 2) u h.1 past
    ]

normal_behind : (front : List Span) (f : Span) (later : List Span) (from : ℕ) → IsNormalFrom from (front ++ f ∷ later) → IsNormalFrom (f.hi + 2) later
normal_behind [] f later from h = h.1
normal_behind (x ∷ front) f later from h = normal_behind front f later (x.hi + 2) h.1

-- where the spans have each tick from t up to the goal, none of these is in front, in the spans that end before the goal
not_in_front : (front guards : List Span) (a t : ℕ) → IsNormal (front ++ guards) → ((u : ℕ) → spans_have front u ≡ true → u < a - 1) → ((v : ℕ) → t ≤ v → v < a → spans_have (front ++ guards) v ≡ true) → (v : ℕ) → t ≤ v → v < a → spans_have front v ≡ true → ⊥
not_in_front front [] a t normal ended guarded v l k e =
    let last : spans_have front (a - 1) ≡ true = grind (arith, guarded (a - 1) (omega arith) (omega arith), spans_have-append front [] (a - 1)) in
    omega (arith, ended (a - 1) last)
not_in_front front (f ∷ later) a t normal ended guarded v l k e =
    let x = min (f.lo - 1) (a - 1) in
    let before : v + 2 ≤ f.lo = front_apart front f later 0 v normal e in
    let has_x : (spans_have front x || spans_have (f ∷ later) x) ≡ true = sym (spans_have-append front (f ∷ later) x) ∙ guarded x (omega (arith, ended v e)) (omega arith) in
    elim (or_cases (spans_have front x) (spans_have (f ∷ later) x) has_x) [
      | inl in_front ↦ omega (arith, front_apart front f later 0 x normal in_front, ended x in_front)
      | inr in_rest ↦
          let begins : IsNormalFrom f.lo (f ∷ later) = (omega arith, normal_behind front f later 0 normal) in
          both_ways (spans_have (f ∷ later) x) (spans_have-below (f ∷ later) f.lo x begins (omega arith)) in_rest
    ]

-- what leads in the spans that are left leads in all of them
pub start_in_all : (spans guards : List Span) (c a s : ℕ) → IsNormal spans → IsSuffix (a - 1) spans guards → IsStart (spans_have guards) c a s → IsStart (spans_have spans) c a s
start_in_all spans guards c a s normal suffix start =
    let has : (v : ℕ) → spans_have spans v ≡ (spans_have suffix.dropped v || spans_have guards v) = λ v. rw suffix.whole (spans_have-append suffix.dropped guards v) in
    record {
      upto = start.upto;
      near = start.near;
      guarded = λ v l k. has v ∙ or_right (spans_have suffix.dropped v) (spans_have guards v) (start.guarded v l k);
      first = λ t l k guarded. start.first t l k (λ v m n.
          elim (or_cases (spans_have suffix.dropped v) (spans_have guards v) (sym (has v) ∙ guarded v m n)) [
            | inl front ↦ absurd (not_in_front suffix.dropped guards a t (rw suffix.whole at normal) suffix.ended (λ u o p. rw suffix.whole at (guarded u o p)) v m n front)
            | inr left ↦ left
          ]);
    }

-- what leads to a span of goals is the span, made longer
reach_of_goal : (g : ℕ → Bool) (c a b s : ℕ) → a ≤ b → IsStart g c a s → (t : ℕ) → until_in g (within a b) t (t + c) t ≡ within s b t
reach_of_goal g c a b s order start t =
    same_truth (until_in g (within a b) t (t + c) t) (within s b t)
    (λ e.
    let l = until_in_found g (within a b) t (t + c) t e in
    let goal = within_parts a b l.goal l.holds in
    within_from s b t
    (elim (cases_lt a t) [
      | inl after ↦ omega (arith, start.upto)
      | inr before ↦ start.first t before (omega (arith, l.upto, goal.0)) (λ v m n. l.guard v m (omega (arith, goal.0)))
    ]) (omega (arith, l.from, goal.1)))
    (λ e.
    let parts = within_parts s b t e in
    until_in_from g (within a b) t (t + c) t
    (elim (cases_lt t a) [
      | inl before ↦ record { goal = a; from = omega arith; upto = omega (arith, start.near, parts.0); holds = within_from a b a (omega arith) order; guard = λ v m n. start.guarded v (omega (arith, parts.0)) n }
      | inr at ↦ record { goal = t; from = omega arith; upto = omega arith; holds = within_from a b t at parts.1; guard = λ v m n. absurd (omega arith) }
    ]))

-- a goal is in the first span or in a later one
until_in_either : (g p q : ℕ → Bool) (lo hi t : ℕ) → until_in g (λ u. p u || q u) lo hi t ≡ (until_in g p lo hi t || until_in g q lo hi t)
until_in_either g p q lo hi t =
    same_truth (until_in g (λ u. p u || q u) lo hi t) (until_in g p lo hi t || until_in g q lo hi t)
    (λ e.
    let l = until_in_found g (λ u. p u || q u) lo hi t e in
    elim (or_cases (p l.goal) (q l.goal) l.holds) [
      | inl here ↦ or_left (until_in g p lo hi t) (until_in g q lo hi t) (until_in_from g p lo hi t (record { goal = l.goal; from = l.from; upto = l.upto; holds = here; guard = l.guard }))
      | inr there ↦ or_right (until_in g p lo hi t) (until_in g q lo hi t) (until_in_from g q lo hi t (record { goal = l.goal; from = l.from; upto = l.upto; holds = there; guard = l.guard }))
    ])
    (λ e.
    elim (or_cases (until_in g p lo hi t) (until_in g q lo hi t) e) [
      | inl here ↦ let l = until_in_found g p lo hi t here in until_in_from g (λ u. p u || q u) lo hi t (record { goal = l.goal; from = l.from; upto = l.upto; holds = or_left (p l.goal) (q l.goal) l.holds; guard = l.guard })
      | inr there ↦ let l = until_in_found g q lo hi t there in until_in_from g (λ u. p u || q u) lo hi t (record { goal = l.goal; from = l.from; upto = l.upto; holds = or_right (p l.goal) (q l.goal) l.holds; guard = l.guard })
    ])

until_in_no_goal : (g : ℕ → Bool) (lo hi t : ℕ) → until_in g (spans_have []) lo hi t ≡ false
until_in_no_goal g lo hi t = until_in_none g (spans_have []) lo hi t (λ l. false≢true l.holds)

-- the goals that are done lead from the spans in made and from lo to hi; the rest is left
pub record UntilSoFar (c : ℕ) (guard goal made : List Span) (lo hi : ℕ) (guards rest : List Span) : Type 0 where
  pub ordered : lo ≤ hi
  pub in_range : hi ≤ 1000000000
  pub normal : IsNormal made
  pub apart : (u : ℕ) → spans_have made u ≡ true → u + 2 ≤ lo
  pub later : IsNormalFrom (hi + 2) rest
  pub guards_normal : IsNormal guards
  pub suffix : IsSuffix hi guard guards
  pub first : (t a : ℕ) → hi ≤ a → a ≤ t + c → ((v : ℕ) → t ≤ v → v < a → spans_have guard v ≡ true) → lo ≤ t
  pub goals : (t : ℕ) → until_in (spans_have guard) (spans_have goal) t (t + c) t ≡ (spans_have made t || within lo hi t || until_in (spans_have guard) (spans_have rest) t (t + c) t)

-- what leads to a list of goals is the first span, made longer, and what leads to the others
until_front : (g : ℕ → Bool) (goal : List Span) (s : Span) (later : List Span) (c lo : ℕ) → goal ≡ s ∷ later → IsStart g c s.lo lo → (t : ℕ) → until_in g (spans_have goal) t (t + c) t ≡ (within lo s.hi t || until_in g (spans_have later) t (t + c) t)
until_front g goal s later c lo e start t =
    rw e (until_in_either g (within s.lo s.hi) (spans_have later) t (t + c) t
    ∙ ap (λ x. x || until_in g (spans_have later) t (t + c) t) (reach_of_goal g c s.lo s.hi lo s.ordered start t))

-- no later goal is reached from before the start
start_first : (g : ℕ → Bool) (c lo b s : ℕ) → lo ≤ b → IsStart g c lo s → (t a : ℕ) → b ≤ a → a ≤ t + c → ((v : ℕ) → t ≤ v → v < a → g v ≡ true) → s ≤ t
start_first g c lo b s order start t a l k guarded =
    elim (cases_lt lo t) [
      | inl after ↦ omega (arith, start.upto)
      | inr before ↦ start.first t before (omega arith) (λ v m n. guarded v m (omega arith))
    ]

pub until_init : (c : ℕ) (guard goal made : List Span) (s : Span) (later guards : List Span) (lo : ℕ) → IsNormal guard → IsNormal goal → goal ≡ s ∷ later → made ≡ [] → IsNormal guards → DropsEnded (s.lo - 1) guard guards → IsStart (spans_have guards) c s.lo lo → UntilSoFar c guard goal made lo s.hi guards later
until_init c guard goal made s later guards lo guard_normal goal_normal e none guards_normal past start =
    let order : s.lo ≤ s.hi = s.ordered in
    let suffix : IsSuffix (s.lo - 1) guard guards = record { dropped = past.dropped; whole = past.whole; ended = past.ended } in
    let start' = start_in_all guard guards c s.lo lo guard_normal suffix start in
    record {
      ordered = omega (arith, start.upto);
      in_range = s.in_range;
      normal = rw none tt;
      apart = λ u h. absurd (false≢true (rw none at h));
      later = (rw e at goal_normal).1;
      guards_normal = guards_normal;
      suffix = record { dropped = past.dropped; whole = past.whole; ended = λ u h. omega (arith, past.ended u h) };
      first = start_first (spans_have guard) c s.lo s.hi lo order start';
      goals = λ t. until_front (spans_have guard) goal s later c lo e start' t ∙ rw none refl;
    }

module _ (c : ℕ) (guard goal made : List Span) (lo hi : ℕ) (guards rest : List Span) (so_far : UntilSoFar c guard goal made lo hi guards rest) (guard_normal : IsNormal guard)
    (s : Span) (later guards' : List Span) (start : ℕ) (e : rest ≡ s ∷ later) (past : DropsEnded (s.lo - 1) guards guards') (starts : IsStart (spans_have guards') c s.lo start) where
  rest_later : IsNormalFrom (hi + 2) (s ∷ later)
  rest_later = rw e at so_far.later

  suffix' : IsSuffix (s.lo - 1) guard guards'
  suffix' = suffix_past hi (s.lo - 1) guard guards guards' so_far.suffix (omega (arith, rest_later.0)) past

  starts' : IsStart (spans_have guard) c s.lo start
  starts' = start_in_all guard guards' c s.lo start guard_normal suffix' starts

  pub until_ascending : (lo ≤ start) × (hi ≤ s.hi)
  until_ascending =
      let order : s.lo ≤ s.hi = s.ordered in
      (so_far.first start s.lo (omega (arith, rest_later.0)) starts'.near starts'.guarded, omega (arith, rest_later.0))

  pub until_more : (made' : List Span) (lo' : ℕ) → IsNormal guards' → IsNormal made' → ((u : ℕ) → spans_have made' u ≡ true → u + 2 ≤ lo') → (lo' ≡ lo) ⊎ (lo' ≡ start) →
      ((t : ℕ) → (spans_have made' t || within lo' s.hi t) ≡ (spans_have made t || within lo hi t || within start s.hi t)) → UntilSoFar c guard goal made' lo' s.hi guards' later
  until_more made' lo' guards_normal normal apart which ticks =
      let order : s.lo ≤ s.hi = s.ordered in
      record {
        ordered = elim which [ inl old ↦ omega (arith, so_far.ordered, rest_later.0) | inr new ↦ omega (arith, starts'.upto) ];
        in_range = s.in_range;
        normal = normal;
        apart = apart;
        later = rest_later.1;
        guards_normal = guards_normal;
        suffix = record { dropped = suffix'.dropped; whole = suffix'.whole; ended = λ u h. omega (arith, suffix'.ended u h) };
        first = λ t a l k guarded.
            elim which [
              | inl old ↦ rw old (so_far.first t a (omega (arith, rest_later.0)) k guarded)
              | inr new ↦ rw new (start_first (spans_have guard) c s.lo s.hi start order starts' t a l k guarded)
            ];
        goals = λ t. so_far.goals t ∙ grind (arith, until_front (spans_have guard) rest s later c start e starts' t, ticks t);
      }

-- at the end no goal is left
pub until_all : (c : ℕ) (guard goal made : List Span) (lo hi : ℕ) (guards rest : List Span) → UntilSoFar c guard goal made lo hi guards rest → length rest ≡ 0 → (r : Span) → r.lo ≡ lo → r.hi ≡ hi → (t : ℕ) → spans_have (made ++ r ∷ []) t ≡ until_in (spans_have guard) (spans_have goal) t (t + c) t
until_all c guard goal made lo hi guards rest so_far none r at_lo at_hi t =
    let no_goal : until_in (spans_have guard) (spans_have rest) t (t + c) t ≡ false = rw (nil_from_length rest none) (until_in_no_goal (spans_have guard) t (t + c) t) in
    grind (arith, so_far.goals t, no_goal, spans_have-append made (r ∷ []) t, at_lo, at_hi)

pub until_all_normal : (c : ℕ) (guard goal made : List Span) (lo hi : ℕ) (guards rest : List Span) → UntilSoFar c guard goal made lo hi guards rest → (r : Span) → r.lo ≡ lo → IsNormal (made ++ r ∷ [])
until_all_normal c guard goal made lo hi guards rest so_far r at_lo = IsNormalFrom-push made 0 r so_far.normal (λ u h. omega (arith, so_far.apart u h)) (omega arith)

pub until_nowhere : (c : ℕ) (guard goal made : List Span) → made ≡ [] → length goal ≡ 0 → (t : ℕ) → spans_have made t ≡ until_in (spans_have guard) (spans_have goal) t (t + c) t
until_nowhere c guard goal made none no_goal t = rw (none, nil_from_length goal no_goal) (sym (until_in_no_goal (spans_have guard) t (t + c) t))
