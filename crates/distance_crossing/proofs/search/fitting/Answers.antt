use Rattle.std.proofs.Common.{refl, arith}
use Rattle.distance_crossing.specs.Trials.{fit_at}
use Rattle.distance_crossing.proofs.TrialLemmas.{close_by_number, fitting_runs}
use Rattle.distance_crossing.proofs.search.fitting.Goals as goal

pub some_fitting-requires-clause-close : goal.some_fitting-requires-clause-close
some_fitting-requires-clause-close c = close_by_number c.args.m.now c.args.w.lo c.args.span.lo c.args.span.hi c.requires.from c.args.span.ordered c.requires.close

pub first_fitting-requires-clause-close : goal.first_fitting-requires-clause-close
first_fitting-requires-clause-close c = λ t a b.
    let inside = c.in_ok-found.ensures.inside in
    close_by_number c.args.m.now c.args.w.lo c.args.span.lo c.args.span.hi c.requires.from c.args.span.ordered c.requires.close t a (omega arith)

pub last_fitting-requires-clause-close : goal.last_fitting-requires-clause-close
last_fitting-requires-clause-close c = λ t a b.
    let inside = c.in_ok-found.ensures.inside in
    close_by_number c.args.m.now c.args.w.lo c.args.span.lo c.args.span.hi c.requires.from c.args.span.ordered c.requires.close t (omega arith) b

pub returns : goal.returns
returns c =
    fitting_runs (fit_at c.args.m.now) c.args.w.lo c.args.span _ c.in_ok-found.found c.first_fitting.result c.last_fitting.result c.requires.from refl refl
    c.first_fitting.ensures.bound.0 c.first_fitting.ensures.bound.1 c.last_fitting.ensures.bound.0 c.last_fitting.ensures.bound.1
    c.first_fitting.ensures.first c.last_fitting.ensures.last
