use Rattle.std.proofs.Common.{◌≡◌, ℕ, ◌+◌, ◌-◌, ◌*◌, ◌<◌, ◌≤◌, true, ◌&&◌, List, length, map, take, ap, sym, subst, ◌∙◌}
use Rattle.std.specs.Prelude.{◌==◌, slice_index}
use Rattle.std.specs.Borrow.{Bor}
use Rattle.std.specs.List.{list_any}
use Rattle.std.proofs.lemmas.List.{take-map}
use Rattle.courses.specs.Parts.{epochs_of_each, pieces_of_all}
use Rattle.formula.specs.Variables.{atom_has}
use Rattle.meaning.specs.Trace.{trace_of}
use Rattle.meaning.proofs.LocalityLemmas.{atom_same}
use Rattle.motion.specs.Timeline.{Epoch}
use Rattle.object_store.specs.Contents.{history_of}
use Rattle.tick_set.specs.Runs.{spans_have}
use Rattle.tick_set.specs.Ticks.{within}
use Rattle.atoms.specs.Parts.{epochs_of, trace_by}
use Rattle.atoms.specs.Probes.{probe_limit}
use Rattle.atoms.proofs.PartLemmas.{is_listed}
use Rattle.atoms.proofs.TickLemmas.{trace_is}
use Rattle.atoms.proofs.ticks.atom_ticks.Goals as goal

pub returns-clause-ticks : goal.returns-clause-ticks
returns-clause-ticks g c = λ t.
    let w = c.args.w in
    let a = c.args.a.now in
    let b = c.args.b.now in
    let s = c.args.store.now in
    let vs = c.variables_of_atom-variables.result.now in
    let all = c.timelines_of-timelines.result in
    let ts = epochs_of_each (take (length vs) all) in
    let f = λ (v : ℕ). epochs_of s (slice_index b v) in
    let are : ts ≡ map f vs = sym (take-map (λ (x : Bor (List Epoch)). x.now) (length vs) all) ∙ c.timelines_of-timelines.ensures.epochs in
    ap (λ spans. spans_have spans t) c.from_runs.ensures
    ∙ c.in_ok-runs.ensures.runs.ticks t
    ∙ ap (λ x. within w.lo w.hi t && x)
    (atom_same c.args.regions.now (trace_by vs ts) (trace_of (history_of s) (slice_index b)) a c.args.env.now t
    (λ v has.
    let small : v < 4 = (c.requires.bound v has).few in
    trace_is (trace_of (history_of s) (slice_index b)) f vs ts v t are c.timelines_of-timelines.ensures.states
    (subst (λ (xs : List ℕ). list_any (λ u. u == v) xs ≡ true) (sym c.variables_of_atom-variables.ensures)
    (is_listed (λ u. atom_has u a) v small has))))

pub returns-clause-probes : goal.returns-clause-probes
returns-clause-probes g c =
    let w = c.args.w in
    let a = c.args.a.now in
    let vs = c.variables_of_atom-variables.result.now in
    let all = c.timelines_of-timelines.result in
    let f = λ (v : ℕ). epochs_of c.args.store.now (slice_index c.args.b.now v) in
    let are : epochs_of_each (take (length vs) all) ≡ map f vs = sym (take-map (λ (x : Bor (List Epoch)). x.now) (length vs) all) ∙ c.timelines_of-timelines.ensures.epochs in
    subst (λ (ts : List (List Epoch)). c.atom_runs.new.probes ≤ c.args.probes.now + probe_limit a (w.hi - w.lo) * pieces_of_all ts w.lo w.hi)
    (are ∙ ap (map f) c.variables_of_atom-variables.ensures) c.atom_runs.ensures.cost
