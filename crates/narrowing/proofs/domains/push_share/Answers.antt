use Rattle.std.proofs.Common.{refl, sym, subst, arith}
use Rattle.std.specs.Prelude.{IfSome}
use Rattle.std.specs.List.Sorted.{IsStrictlyIncreasing}
use Rattle.formula.specs.Tree.{resolved_view}
use Rattle.narrowing.specs.Narrowed.{IsShare}
use Rattle.narrowing.proofs.ShareLemmas.{next_suffice, whole_share}
use Rattle.narrowing.proofs.domains.push_share.Goals as goal

pub returns-in_ok-push-in-Some-clause-so_far : goal.returns-in_ok-push-in-Some-clause-so_far
returns-in_ok-push-in-Some-clause-so_far c =
    let q = resolved_view c.args.q.now in
    next_suffice c.args.scene.now q c.args.some.now c.push.new.self c.next_variable-var.result c.in-Some.ids.items c.deref.result.now
    c.next_variable-var.ensures (omega (arith, c.requires.within, c.next_variable-var.ensures)) c.requires.so_far
    (subst (λ share. IfSome share (λ ids. IsShare c.args.scene.now q c.next_variable-var.result ids.items)) c.in-Some.is c.in_ok-share.ensures)
    c.deref.ensures.value c.in_ok-push-in-Some.ensures.ok

pub returns-in_ok-push-in-None-clause-so_far : goal.returns-in_ok-push-in-None-clause-so_far
returns-in_ok-push-in-None-clause-so_far c =
    let q = resolved_view c.args.q.now in
    next_suffice c.args.scene.now q c.args.some.now c.push-in-None.new.self c.next_variable-var.result c.of.result.now c.of.result.now
    c.next_variable-var.ensures (omega (arith, c.requires.within, c.next_variable-var.ensures)) c.requires.so_far
    (subst (IsShare c.args.scene.now q c.next_variable-var.result) (sym c.of.ensures.value)
    (whole_share c.args.scene.now q c.next_variable-var.result (omega (arith, c.requires.within, c.next_variable-var.ensures))
    (subst IsStrictlyIncreasing c.of.ensures.value c.of.ensures.ascending)))
    refl c.in_ok-push-in-None.ensures.ok
