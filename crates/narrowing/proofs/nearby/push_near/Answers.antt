use Rattle.std.proofs.Common.{◌++◌, ap, subst, ◌∙◌}
use Rattle.std.specs.Prelude.{IfSome}
use Rattle.object_store.specs.Areas.{AreNear}
use Rattle.narrowing.proofs.BesideLemmas.{pushed_near}
use Rattle.narrowing.proofs.nearby.push_near.Goals as goal

pub returns-in_ok-extend_from_slice-in-Some : goal.returns-in_ok-extend_from_slice-in-Some
returns-in_ok-extend_from_slice-in-Some c so =
    let scene = c.args.scene.now in
    pushed_near scene c.args.class c.args.area.now c.args.ids.now.items c.in-Some.near.items c.extend_from_slice.new.self.items
    (subst (λ found. IfSome found (λ ids. AreNear scene.store.now c.args.class c.args.area.now scene.w.lo scene.w.hi ids.items)) c.in-Some.ensures c.in_ok-found.ensures)
    (c.in_ok-extend_from_slice-in-Some.ensures.items ∙ ap (λ near. c.args.ids.now.items ++ near) c.deref.ensures.value)
