use Rattle.std.proofs.Common.{◌<◌, arith}
use Rattle.tick_set.proofs.TickListLemmas.{shared_now, shared_past_first, shared_past_second}
use Rattle.tick_set.proofs.tick_list.have_shared.Goals as goal

pub returns-then-t-u-clause-some : goal.returns-then-t-u-clause-some
returns-then-t-u-clause-some c = λ _. shared_now _ _ _ _ _ _ _ _ c.both.invariant c.in-Some-Some.ensures.cases.0 c.in-Some-Some.ensures'.cases.0 c.if-t-u.true

pub both-preserved-then-t-u-2 : goal.both-preserved-then-t-u-2
both-preserved-then-t-u-2 c = shared_past_first _ _ _ _ _ _ _ _ c.both.invariant c.in-Some-Some.ensures.cases.0 c.in-Some-Some.ensures'.cases.0 c.if-t-u-2.true

pub both-preserved : goal.both-preserved
both-preserved c =
    let before : c.in-Some-Some.u.now < c.in-Some-Some.t.now = omega (arith, c.if-t-u.false, c.if-t-u-2.false) in
    shared_past_second _ _ _ _ _ _ _ _ c.both.invariant c.in-Some-Some.ensures.cases.0 c.in-Some-Some.ensures'.cases.0 before
