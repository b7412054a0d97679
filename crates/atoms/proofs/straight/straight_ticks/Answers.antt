use Rattle.std.proofs.Common.{◌+◌, ◌*◌, ◌-◌, ◌≤◌, ◌&&◌, sym, subst}
use Rattle.std.specs.Prelude.{IfSome}
use Rattle.courses.specs.Parts.{epochs_of_each, pieces_of_all}
use Rattle.formula.specs.declared.tree.RAtom.{RAtom}
use Rattle.meaning.specs.Atom.{atom_holds}
use Rattle.tick_set.specs.Ticks.{within}
use Rattle.atoms.specs.Found.{AreRunsWhere}
use Rattle.atoms.specs.Parts.{trace_by}
use Rattle.atoms.specs.Probes.{probe_limit}
use Rattle.atoms.proofs.straight.straight_ticks.Goals as goal

pub returns-in-Dist-clause-runs : goal.returns-in-Dist-clause-runs
returns-in-Dist-clause-runs g c =
    let w = c.args.traces.now.w in
    let trace = trace_by c.args.traces.now.variables.now (epochs_of_each c.args.traces.now.timelines.now) in
    subst
    (λ (a : RAtom). IfSome c.straight_distance.result (λ found. AreRunsWhere (λ t. within w.lo w.hi t && atom_holds c.args.regions.now trace a c.args.env.now t) found))
    (sym c.in-Dist.is) c.straight_distance.ensures.runs

pub returns-in-Dist-clause-cost : goal.returns-in-Dist-clause-cost
returns-in-Dist-clause-cost g c =
    let w = c.args.traces.now.w in
    subst
    (λ (a : RAtom). IfSome c.straight_distance.result (λ found. c.straight_distance.new.probes ≤ c.args.probes.now
    + probe_limit a (w.hi - w.lo) * pieces_of_all (epochs_of_each c.args.traces.now.timelines.now) w.lo w.hi))
    (sym c.in-Dist.is) c.straight_distance.ensures.cost
