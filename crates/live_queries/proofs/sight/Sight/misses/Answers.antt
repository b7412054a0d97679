use Rattle.std.proofs.Common.{ℕ, sym, subst}
use Rattle.narrowing.specs.Whereabouts.{StaysInArea}
use Rattle.live_queries.proofs.sight.Sight.misses.Goals as goal
use Rattle.exact.proofs.Truths.{false_from_not}

pub returns-in-Some-clause-fails : goal.returns-in-Some-clause-fails
returns-in-Some-clause-fails c cannot b its =
    let s = c.args.world.now.store.now in
    c.can_hold_at.ensures (false_from_not c.can_hold_at.result cannot) s b c.args.w.lo c.args.w.hi
    (subst (λ (i : ℕ). StaysInArea s i c.in-Some.area.now c.args.w.lo c.args.w.hi) (sym its) (c.in-Some.ensures s c.args.id c.look.ensures))
