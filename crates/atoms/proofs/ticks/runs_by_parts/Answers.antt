use Rattle.std.proofs.Common.{◌+◌, ◌-◌, arith}
use Rattle.courses.specs.Parts.{epochs_of_each}
use Rattle.courses.proofs.PartLemmas.{length-epochs_of_each}
use Rattle.distance_crossing.specs.Triples.{triple_spans}
use Rattle.meaning.specs.Atom.{atom_holds}
use Rattle.atoms.specs.Parts.{pieces_asked, trace_by}
use Rattle.atoms.specs.Probes.{probe_limit}
use Rattle.atoms.proofs.GatherLemmas.{gathered_more, gathered_past}
use Rattle.atoms.proofs.NamingLemmas.{cost_less}
use Rattle.atoms.proofs.ProbeLemmas.{part_cost}
use Rattle.atoms.proofs.TickLemmas.{part_found}
use Rattle.atoms.proofs.ticks.runs_by_parts.Goals as goal

pub joining-preserved : goal.joining-preserved
joining-preserved g c =
    let w = c.args.traces.now.w in
    let a = c.args.a.now in
    let part = c.part_from-part.result in
    let timelines = epochs_of_each c.args.traces.now.timelines.now in
    let asked = c.named_by-asked.result in
    let trace = trace_by c.args.traces.now.variables.now timelines in
    let begins = c.part_from-part.ensures.part.begins in
    let found = part_found c.args.regions.now a c.args.env.now trace part (triple_spans c.judged.result) c.part_from-part.ensures.part.shown c.judged.ensures.runs in
    let cost = part_cost a part c.args.traces.now.variables.now c.joining.probes c.judged.new.probes (w.hi - w.lo) (pieces_asked asked timelines (part.span.hi + 1) w.hi) (pieces_asked asked timelines c.joining.at w.hi)
    c.requires.sized c.requires.variables c.part_from-part.ensures.part.of_variables (omega (arith, begins, c.part_from-part.ensures.part.within, c.joining.invariant.from))
    c.judged.ensures.cost c.judged.ensures.absent (λ some each. c.part_from-part.ensures.part.fewer (omega (arith, some, c.requires.same, length-epochs_of_each c.args.traces.now.timelines.now)) each) c.part_from-part.ensures.part.not_more in
    record {
      from = omega (arith, begins, part.span.ordered, c.joining.invariant.from);
      until = omega (arith, c.part_from-part.ensures.part.within);
      begun = c.part_from-part.ensures.begun;
      ticks = gathered_more (atom_holds c.args.regions.now trace a c.args.env.now) w.lo c.joining.at part.span.lo part.span.hi c.joining.runs (triple_spans c.judged.result) c.append.new.runs
          c.joining.invariant.from part.span.ordered begins c.joining.invariant.ticks found c.in_ok-append.ensures.ticks;
      most = omega (arith, cost, c.joining.invariant.most);
    }

pub append-requires-clause-past : goal.append-requires-clause-past
append-requires-clause-past g c =
    let a = c.args.a.now in
    let part = c.part_from-part.result in
    let trace = trace_by c.args.traces.now.variables.now (epochs_of_each c.args.traces.now.timelines.now) in
    let found = part_found c.args.regions.now a c.args.env.now trace part (triple_spans c.judged.result) c.part_from-part.ensures.part.shown c.judged.ensures.runs in
    gathered_past (atom_holds c.args.regions.now trace a c.args.env.now) c.args.traces.now.w.lo c.joining.at part.span.lo part.span.hi c.joining.runs (triple_spans c.judged.result)
    c.part_from-part.ensures.part.begins c.joining.invariant.ticks found

pub returns-in_err-append-clause-cost : goal.returns-in_err-append-clause-cost
returns-in_err-append-clause-cost g c =
    let w = c.args.traces.now.w in
    let part = c.part_from-part.result in
    let timelines = epochs_of_each c.args.traces.now.timelines.now in
    let asked = c.named_by-asked.result in
    let begins = c.part_from-part.ensures.part.begins in
    let cost = part_cost c.args.a.now part c.args.traces.now.variables.now c.joining.probes c.judged.new.probes (w.hi - w.lo) (pieces_asked asked timelines (part.span.hi + 1) w.hi) (pieces_asked asked timelines c.joining.at w.hi)
    c.requires.sized c.requires.variables c.part_from-part.ensures.part.of_variables (omega (arith, begins, c.part_from-part.ensures.part.within, c.joining.invariant.from))
    c.judged.ensures.cost c.judged.ensures.absent (λ some each. c.part_from-part.ensures.part.fewer (omega (arith, some, c.requires.same, length-epochs_of_each c.args.traces.now.timelines.now)) each) c.part_from-part.ensures.part.not_more in
    omega (arith, cost, c.joining.invariant.most, cost_less (probe_limit c.args.a.now (w.hi - w.lo)) asked timelines w.lo w.hi)

pub returns-clause-cost : goal.returns-clause-cost
returns-clause-cost g c =
    let w = c.args.traces.now.w in
    omega
    (arith, c.joining.invariant.most, cost_less (probe_limit c.args.a.now (w.hi - w.lo)) c.named_by-asked.result (epochs_of_each c.args.traces.now.timelines.now) w.lo w.hi)
