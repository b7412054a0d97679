use Rattle.pairs.proofs.FarLemmas.{reached}
use Rattle.std.proofs.Common.{ap, subst, sym}
use Rattle.pairs.specs.Reach.{IsReached}
use Rattle.pairs.proofs.movers.way_of.Goals as goal

pub returns-clause-within : goal.returns-clause-within
returns-clause-within c = λ k l.
    let line = c.args.line.now in (
      reached c.between.result line.at.x line.dx c.args.ticks k l c.between.ensures.first (subst (IsReached c.between.result) (ap (λ p. p.x) c.position-end.ensures) c.between.ensures.second),
      reached c.between-2.result line.at.y line.dy c.args.ticks k l c.between-2.ensures.first (subst (IsReached c.between-2.result) (ap (λ p. p.y) c.position-end.ensures) c.between-2.ensures.second),
    )
