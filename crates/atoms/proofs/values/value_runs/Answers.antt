use Rattle.std.proofs.Common.{◌≡◌, ℕ, ◌+◌, ◌<◌, true, List, length, map, take, sym, subst, ◌∙◌}
use Rattle.std.specs.Prelude.{◌==◌, slice_index}
use Rattle.std.specs.Borrow.{Bor}
use Rattle.std.specs.List.{list_any}
use Rattle.std.proofs.lemmas.List.{take-map}
use Rattle.courses.specs.Parts.{epochs_of_each}
use Rattle.formula.specs.Variables.{term_has}
use Rattle.meaning.specs.Trace.{trace_of}
use Rattle.meaning.specs.Value.{term_value}
use Rattle.meaning.proofs.LocalityLemmas.{term_same}
use Rattle.motion.specs.Timeline.{Epoch}
use Rattle.object_store.specs.Contents.{history_of}
use Rattle.atoms.specs.Parts.{epochs_of, trace_by}
use Rattle.atoms.proofs.PartLemmas.{is_listed}
use Rattle.atoms.proofs.TickLemmas.{trace_is}
use Rattle.atoms.proofs.ValueRunLemmas.{runs_of_equal}
use Rattle.atoms.proofs.values.value_runs.Goals as goal

pub term_runs-requires-clause-in_range : goal.term_runs-requires-clause-in_range
term_runs-requires-clause-in_range g c = λ t from before n is.
    let q = c.args.term.now in
    let b = c.args.b.now in
    let s = c.args.store.now in
    let vs = c.variables_of_term-variables.result.now in
    let all = c.timelines_of-timelines.result in
    let ts = epochs_of_each (take (length vs) all) in
    let f = λ (v : ℕ). epochs_of s (slice_index b v) in
    let h = trace_of (history_of s) (slice_index b) in
    let are : ts ≡ map f vs = sym (take-map (λ (x : Bor (List Epoch)). x.now) (length vs) all) ∙ c.timelines_of-timelines.ensures.epochs in
    c.requires.in_range t from before n
    (sym (term_same (trace_by vs ts) h c.args.env.now t q
    (λ v has.
    let small : v < 4 = (c.requires.bound v has).few in
    trace_is h f vs ts v t are c.timelines_of-timelines.ensures.states
    (subst (λ (xs : List ℕ). list_any (λ u. u == v) xs ≡ true) (sym c.variables_of_term-variables.ensures)
    (is_listed (λ u. term_has u q) v small has))))
    ∙ is)

pub returns-clause-runs : goal.returns-clause-runs
returns-clause-runs g c =
    let q = c.args.term.now in
    let b = c.args.b.now in
    let s = c.args.store.now in
    let vs = c.variables_of_term-variables.result.now in
    let all = c.timelines_of-timelines.result in
    let ts = epochs_of_each (take (length vs) all) in
    let f = λ (v : ℕ). epochs_of s (slice_index b v) in
    let h = trace_of (history_of s) (slice_index b) in
    let are : ts ≡ map f vs = sym (take-map (λ (x : Bor (List Epoch)). x.now) (length vs) all) ∙ c.timelines_of-timelines.ensures.epochs in
    runs_of_equal (term_value (trace_by vs ts) q c.args.env.now) (term_value h q c.args.env.now) c.args.w.lo (c.args.w.hi + 1) c.in_ok-runs.runs.items
    (λ t.
    term_same (trace_by vs ts) h c.args.env.now t q
    (λ v has.
    let small : v < 4 = (c.requires.bound v has).few in
    trace_is h f vs ts v t are c.timelines_of-timelines.ensures.states
    (subst (λ (xs : List ℕ). list_any (λ u. u == v) xs ≡ true) (sym c.variables_of_term-variables.ensures)
    (is_listed (λ u. term_has u q) v small has))))
    c.in_ok-runs.ensures
