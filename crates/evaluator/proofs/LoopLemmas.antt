-- The loops over the keys and the runs of an assignment, and how many looks the parts of a formula take together.
use Rattle.std.proofs.Common.{◌≡◌, ℕ, ◌+◌, ◌-◌, ◌*◌, ◌<◌, ◌≤◌, List, [], ◌∷◌, ◌++◌, length, get_or, sym, ap, ◌∙◌, subst, arith}
use Rattle.formula_shape.specs.Shape as shapes
use Rattle.formula.specs.declared.tree.RAtom.{RAtom}
use Rattle.formula.specs.declared.tree.RTerm.{RTerm}
use Rattle.formula.specs.declared.value.Env.{Env}
use Rattle.formula.specs.Tree.{ResolvedTree}
use Rattle.formula.specs.Value.{with_value}
use Rattle.meaning.specs.Reads.{choices, made_single, reads, term_variables}
use Rattle.meaning.specs.Satisfaction.{Interpretation}
use Rattle.relation.specs.Frames.{Frame, domain_size, frame, frame_of}
use Rattle.relation.specs.Rows.{IsSameHead, Table, table}
use Rattle.interpreting.specs.declared.value_run.ValueRun.{ValueRun}
use Rattle.evaluator.specs.Assigned.{CanAskEach}
use Rattle.evaluator.specs.Gathered.{ShareFrame}
use Rattle.evaluator.specs.Interpreting.{CanAsk}
use Rattle.evaluator.specs.Rows.{reads_at_key, reads_upto}
use Rattle.evaluator.proofs.AssignLemmas.{can_ask_run}
use Rattle.evaluator.proofs.GatherLemmas.{alike_push}
use Rattle.exact.proofs.Naturals.{steps_within, times_at_most}

-- ---- looks

pub most_same : (old new all part : ℕ) → all ≡ part → new ≤ old + part → new ≤ old + all
most_same old new all part e h = omega (arith, e, h)

pub most_first : (old mid all left right : ℕ) → all ≡ left + right → mid ≤ old + left → mid ≤ old + all
most_first old mid all left right e h = omega (arith, e, h)

pub most_both : (old mid new all left right : ℕ) → all ≡ left + right → mid ≤ old + left → new ≤ mid + right → new ≤ old + all
most_both old mid new all left right e h l = omega (arith, e, h, l)

all_steps : (start read i n all c : ℕ) → read ≤ start + i * c → i ≤ n → n ≡ all → read ≤ start + all * c
all_steps start read i n all c h l e = steps_within start read i all c h (omega (arith, l, e))

-- those at some of the keys of an assignment's term
pub keys_within : (domains : List (List ℕ)) (lo hi : ℕ) (vars : List ℕ) (depth : ℕ) (q : RTerm) (f : ResolvedTree) → vars ≡ term_variables q →
    (start read i n : ℕ) → read ≤ start + i * reads_at_key domains lo hi vars f → i ≤ n → n ≡ choices (domain_size domains) vars →
    read ≤ start + reads_upto domains lo hi (shapes.Assign (depth, q) f)
keys_within domains lo hi vars depth q f are start read i n h l e =
    subst (λ (vs : List ℕ). read ≤ start + choices (domain_size domains) vs * reads_at_key domains lo hi vs f) are
    (all_steps start read i n (choices (domain_size domains) vars) (reads_at_key domains lo hi vars f) h l e)

first_look : (start mid len own more : ℕ) → len ≡ own → mid ≤ start + own → mid ≤ start + (len + more)
first_look start mid len own more e h = omega (arith, e, h)

pub later_looks : (start mid new n ticks len own cost each : ℕ) → len ≡ own → each ≡ cost → mid ≤ start + own → n ≤ ticks → new ≤ mid + n * each →
    new ≤ start + (len + ticks * cost)
later_looks start mid new n ticks len own cost each e s h l m =
    let more : n * each ≤ ticks * each = times_at_most n ticks each l in
    let same : ticks * each ≡ ticks * cost = ap (λ (z : ℕ). ticks * z) s in
    grind (arith, e, h, m, more, same)

-- those at one key: of the term
pub term_within : (domains : List (List ℕ)) (lo hi : ℕ) (vars : List ℕ) (q : RTerm) (f : ResolvedTree) → vars ≡ term_variables q →
    (start mid : ℕ) → mid ≤ start + length (term_variables q) → mid ≤ start + reads_at_key domains lo hi vars f
term_within domains lo hi vars q f are start mid h =
    first_look start mid (length vars) (length (term_variables q)) ((hi + 1 - lo) * reads (made_single (domain_size domains) vars) (hi + 1 - lo) f) (ap length are) h

-- and of the formula, by each run
pub key_within : (domains narrow : List (List ℕ)) (lo hi : ℕ) (vars : List ℕ) (q : RTerm) (f : ResolvedTree) → vars ≡ term_variables q →
    domain_size narrow ≡ made_single (domain_size domains) vars → (start mid new n : ℕ) → mid ≤ start + length (term_variables q) → n ≤ hi + 1 - lo →
    new ≤ mid + n * reads_upto narrow lo hi f → new ≤ start + reads_at_key domains lo hi vars f
key_within domains narrow lo hi vars q f are sizes start mid new n h l m =
    later_looks start mid new n (hi + 1 - lo) (length vars) (length (term_variables q)) (reads (made_single (domain_size domains) vars) (hi + 1 - lo) f) (reads_upto narrow lo hi f)
    (ap length are) (ap (λ (size : ℕ → ℕ). reads size (hi + 1 - lo) f) sizes) h l m

-- ---- parts

pub head_frame : {S : Type 0} (old new : Table S) → IsSameHead old new → frame new ≡ frame old
head_frame old new head = λ i. frame_of (head.domains i) (head.lo i) (head.hi i)

pub wide_frame : {S : Type 0} (rows wide : Table S) (narrow domains : List (List ℕ)) (lo hi : ℕ) → frame rows ≡ frame_of narrow lo hi →
    IsSameHead (table rows.vars domains rows.lo rows.hi rows.rows) wide → frame wide ≡ frame_of domains lo hi
wide_frame rows wide narrow domains lo hi same head =
    (λ i. frame_of (head.domains i) (head.lo i) (head.hi i))
    ∙ (λ i. frame_of domains (ap (λ (z : Frame). z.lo) same i) (ap (λ (z : Frame). z.hi) same i))

module _ {S : Type 0} (vars : List ℕ) (domains : List (List ℕ)) (lo hi : ℕ) where
  pub none_alike : (parts : List (Table S)) → parts ≡ [] → ShareFrame vars domains lo hi parts
  none_alike parts e = subst (λ (rs : List (Table S)). ShareFrame vars domains lo hi rs) (sym e) tt

  pub more_alike : (before after : List (Table S)) (part : Table S) → after ≡ before ++ part ∷ [] → ShareFrame vars domains lo hi before →
      part.vars ≡ vars → frame part ≡ frame_of domains lo hi → ShareFrame vars domains lo hi after
  more_alike before after part e alike v f =
      subst (λ (rs : List (Table S)). ShareFrame vars domains lo hi rs) (sym e) (alike_push vars domains lo hi before part alike v f)

-- ---- what may be asked by the value of a run

pub can_ask_item : (j : (ℕ → ℕ) → Interpretation) (P : (ℕ → ℕ) → RAtom → Env → Type 0) (Q : (ℕ → ℕ) → RTerm → Env → Type 0) (lo hi : ℕ)
    (domains : List (List ℕ)) (depth : ℕ) (f : ResolvedTree) (x : Env) (runs : List ValueRun) (i : ℕ) (run : ValueRun) → i < length runs → run ≡ get_or runs i run →
    CanAskEach j P Q domains lo hi depth f x runs → CanAsk j P Q domains lo hi f (with_value x depth run.value)
can_ask_item j P Q lo hi domains depth f x runs i run l at can =
    subst (λ (r : ValueRun). CanAsk j P Q domains lo hi f (with_value x depth r.value)) (sym at) (can_ask_run j P Q lo hi domains depth f x runs i run l can)

-- ---- the second part of a tree of two

abbrev pub second : ResolvedTree → ResolvedTree
second (shapes.Truth b) = shapes.Truth b
second (shapes.Atom a) = shapes.Atom a
second (shapes.Not f) = f
second (shapes.And f g) = g
second (shapes.Or f g) = g
second (shapes.Next f) = f
second (shapes.Eventually f) = f
second (shapes.Always f) = f
second (shapes.Bounded form c f) = f
second (shapes.Until form c f g) = g
second (shapes.Assign q f) = f
