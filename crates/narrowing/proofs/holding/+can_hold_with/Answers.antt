use Rattle.std.proofs.Common.{◌≡◌, ap, sym, ◌∙◌}
use Rattle.formula_shape.specs.Shape as shapes
use Rattle.formula.specs.Tree.{ResolvedTree, formula_view}
use Rattle.narrowing.proofs.FailLemmas.{fails_always, fails_and_left, fails_and_right, fails_assign, fails_bounded, fails_eventually, fails_next, fails_until}
use Rattle.narrowing.proofs.HoldingLemmas.{lost_or, lost_part, lost_same, lost_truth}
use Rattle.narrowing.proofs.holding.+can_hold_with.Goals as goal

pub returns-in-Truth : goal.returns-in-Truth
returns-in-Truth n c never = lost_truth c.args.scene.now c.args.var c.args.id c.in-Truth.holds (formula_view c.args.f.now) (ap formula_view c.in-Truth.is) never

pub returns-in-Atom : goal.returns-in-Atom
returns-in-Atom n c never =
    lost_same c.args.scene.now c.args.var c.args.id (shapes.Atom c.in-Atom.a) (formula_view c.args.f.now) (ap formula_view c.in-Atom.is) (c.can_atom_hold.ensures never)

pub returns-in-Next : goal.returns-in-Next
returns-in-Next n c never =
    let part : ResolvedTree = formula_view c.deref-in-Next.result.now in
    let whole : formula_view c.args.f.now ≡ shapes.Next part =
    ap formula_view c.in-Next.is ∙ ap (λ f. shapes.Next (formula_view f)) (sym c.deref-in-Next.ensures) in
    lost_part c.args.scene.now c.args.var c.args.id part (shapes.Next part) (formula_view c.args.f.now) whole
    (λ j. fails_next c.formulas_need_their_atoms.ensures.needed j c.args.scene.now.w.lo c.args.scene.now.w.hi part) (c.can_hold_with-in-Next.ensures never)

pub returns-in-Eventually : goal.returns-in-Eventually
returns-in-Eventually n c never =
    let part : ResolvedTree = formula_view c.deref-in-Eventually.result.now in
    let whole : formula_view c.args.f.now ≡ shapes.Eventually part =
    ap formula_view c.in-Eventually.is ∙ ap (λ f. shapes.Eventually (formula_view f)) (sym c.deref-in-Eventually.ensures) in
    lost_part c.args.scene.now c.args.var c.args.id part (shapes.Eventually part) (formula_view c.args.f.now) whole
    (λ j. fails_eventually c.formulas_need_their_atoms.ensures.needed j c.args.scene.now.w.lo c.args.scene.now.w.hi part) (c.can_hold_with-in-Eventually.ensures never)

pub returns-in-Always : goal.returns-in-Always
returns-in-Always n c never =
    let part : ResolvedTree = formula_view c.deref-in-Always.result.now in
    let whole : formula_view c.args.f.now ≡ shapes.Always part =
    ap formula_view c.in-Always.is ∙ ap (λ f. shapes.Always (formula_view f)) (sym c.deref-in-Always.ensures) in
    lost_part c.args.scene.now c.args.var c.args.id part (shapes.Always part) (formula_view c.args.f.now) whole
    (λ j. fails_always c.formulas_need_their_atoms.ensures.needed j c.args.scene.now.w.lo c.args.scene.now.w.hi part) (c.can_hold_with-in-Always.ensures never)

pub returns-in-Bounded : goal.returns-in-Bounded
returns-in-Bounded n c never =
    let part : ResolvedTree = formula_view c.deref-in-Bounded.result.now in
    let whole : formula_view c.args.f.now ≡ shapes.Bounded c.in-Bounded.field-0 c.in-Bounded.field-1 part =
    ap formula_view c.in-Bounded.is ∙ ap (λ f. shapes.Bounded c.in-Bounded.field-0 c.in-Bounded.field-1 (formula_view f)) (sym c.deref-in-Bounded.ensures) in
    lost_part c.args.scene.now c.args.var c.args.id part (shapes.Bounded c.in-Bounded.field-0 c.in-Bounded.field-1 part) (formula_view c.args.f.now) whole
    (λ j. fails_bounded c.formulas_need_their_atoms.ensures.needed j c.args.scene.now.w.lo c.args.scene.now.w.hi c.in-Bounded.field-0 c.in-Bounded.field-1 part) (c.can_hold_with-in-Bounded.ensures never)

pub returns-in-Until : goal.returns-in-Until
returns-in-Until n c never =
    let part : ResolvedTree = formula_view c.deref-in-Until.result.now in
    let whole : formula_view c.args.f.now ≡ shapes.Until c.in-Until.field-0 c.in-Until.field-1 (formula_view c.in-Until.field-2.value) part =
    ap formula_view c.in-Until.is ∙ ap (λ f. shapes.Until c.in-Until.field-0 c.in-Until.field-1 (formula_view c.in-Until.field-2.value) (formula_view f)) (sym c.deref-in-Until.ensures) in
    lost_part c.args.scene.now c.args.var c.args.id part (shapes.Until c.in-Until.field-0 c.in-Until.field-1 (formula_view c.in-Until.field-2.value) part) (formula_view c.args.f.now) whole
    (λ j. fails_until c.formulas_need_their_atoms.ensures.needed j c.args.scene.now.w.lo c.args.scene.now.w.hi c.in-Until.field-0 c.in-Until.field-1 (formula_view c.in-Until.field-2.value) part) (c.can_hold_with-in-Until.ensures never)

pub returns-in-Assign : goal.returns-in-Assign
returns-in-Assign n c never =
    let part : ResolvedTree = formula_view c.deref-in-Assign.result.now in
    let whole : formula_view c.args.f.now ≡ shapes.Assign (c.in-Assign.field-0, c.in-Assign.field-1) part =
    ap formula_view c.in-Assign.is ∙ ap (λ f. shapes.Assign (c.in-Assign.field-0, c.in-Assign.field-1) (formula_view f)) (sym c.deref-in-Assign.ensures) in
    lost_part c.args.scene.now c.args.var c.args.id part (shapes.Assign (c.in-Assign.field-0, c.in-Assign.field-1) part) (formula_view c.args.f.now) whole
    (λ j. fails_assign c.formulas_need_their_atoms.ensures.needed j c.args.scene.now.w.lo c.args.scene.now.w.hi (c.in-Assign.field-0, c.in-Assign.field-1) part) (c.can_hold_with-in-Assign.ensures never)

pub returns-then-can_hold_with : goal.returns-then-can_hold_with
returns-then-can_hold_with n c never =
    let left : ResolvedTree = formula_view c.in-And.left.value in
    let right : ResolvedTree = formula_view c.deref-then-can_hold_with.result.now in
    let whole : formula_view c.args.f.now ≡ shapes.And left right =
    ap formula_view c.in-And.is ∙ ap (λ f. shapes.And left (formula_view f)) (sym c.deref-then-can_hold_with.ensures) in
    lost_part c.args.scene.now c.args.var c.args.id right (shapes.And left right) (formula_view c.args.f.now) whole
    (λ j. fails_and_right c.formulas_need_their_atoms.ensures.needed j c.args.scene.now.w.lo c.args.scene.now.w.hi left right) (c.can_hold_with-then-can_hold_with.ensures never)

pub returns-else-can_hold_with : goal.returns-else-can_hold_with
returns-else-can_hold_with n c never =
    let left : ResolvedTree = formula_view c.deref.result.now in
    let right : ResolvedTree = formula_view c.in-And.right.value in
    let whole : formula_view c.args.f.now ≡ shapes.And left right =
    ap formula_view c.in-And.is ∙ ap (λ f. shapes.And (formula_view f) right) (sym c.deref.ensures) in
    lost_part c.args.scene.now c.args.var c.args.id left (shapes.And left right) (formula_view c.args.f.now) whole
    (λ j. fails_and_left c.formulas_need_their_atoms.ensures.needed j c.args.scene.now.w.lo c.args.scene.now.w.hi left right) (c.can_hold_with.ensures c.if-can_hold_with.false)

pub returns-else-can_hold_with-2 : goal.returns-else-can_hold_with-2
returns-else-can_hold_with-2 n c never =
    let left : ResolvedTree = formula_view c.deref-in-Or.result.now in
    let right : ResolvedTree = formula_view c.deref-else-can_hold_with-2.result.now in
    let whole : formula_view c.args.f.now ≡ shapes.Or left right =
    ap formula_view c.in-Or.is
    ∙ ap (λ f. shapes.Or (formula_view f) (formula_view c.in-Or.right.value)) (sym c.deref-in-Or.ensures)
    ∙ ap (λ f. shapes.Or left (formula_view f)) (sym c.deref-else-can_hold_with-2.ensures) in
    lost_or c.args.scene.now c.args.var c.args.id c.formulas_need_their_atoms.ensures.needed left right (formula_view c.args.f.now) whole
    (c.can_hold_with-in-Or.ensures c.if-can_hold_with-2.false) (c.can_hold_with-else-can_hold_with-2.ensures never)
