use Rattle.std.proofs.Common.{◌+◌, slice_index, sym, ◌∙◌}
use Rattle.formula.specs.Tree.{formula_view}
use Rattle.interpreting.specs.Names.{formula_uses_value}
use Rattle.evaluator.proofs.StretchLemmas.{joined_by, runs_are_stretches}
use Rattle.evaluator.proofs.stretches.stretches_of.Goals as goal

pub returns-then-formula_names-clause-runs : goal.returns-then-formula_names-clause-runs
returns-then-formula_names-clause-runs g c =
    runs_are_stretches (formula_uses_value c.args.a.now.depth (formula_view c.args.a.now.body.now)) ((g.I.Interpreter.interpretation c.args.here.now.source.now (slice_index c.args.here.now.binding.now)).term c.args.a.now.term.now c.args.here.now.values.now)
    c.args.w.lo (c.args.w.hi + 1) c.in_ok-runs.runs.items c.in_ok-runs.ensures.runs

pub returns-clause-runs : goal.returns-clause-runs
returns-clause-runs g c =
    joined_by (formula_uses_value c.args.a.now.depth (formula_view c.args.a.now.body.now)) ((g.I.Interpreter.interpretation c.args.here.now.source.now (slice_index c.args.here.now.binding.now)).term c.args.a.now.term.now c.args.here.now.values.now)
    c.args.w.lo (c.args.w.hi + 1) c.in_ok-runs.runs.items c.deref.result.now c.in_ok-stretches.stretches.items (sym c.formula_names.ensures ∙ c.if-formula_names.false) c.in_ok-runs.ensures.runs c.deref.ensures.value
    c.in_ok-stretches.ensures.each c.in_ok-stretches.ensures.ticks c.in_ok-stretches.ensures.few
