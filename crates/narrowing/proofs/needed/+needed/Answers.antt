use Rattle.std.proofs.Common.{◌≡◌, ap, sym, subst, ◌∙◌}
use Rattle.std.specs.Prelude.{IfSome}
use Rattle.formula_shape.specs.Shape as shapes
use Rattle.formula.specs.Tree.{ResolvedTree, formula_view}
use Rattle.narrowing.specs.Needed.{AreNeeded}
use Rattle.narrowing.proofs.FailLemmas.{fails_always, fails_assign, fails_bounded, fails_eventually, fails_next, fails_until, found_and, found_or, found_truth, ok_part}
use Rattle.narrowing.proofs.needed.+needed.Goals as goal

pub returns-in_ok-ids-in-And : goal.returns-in_ok-ids-in-And
returns-in_ok-ids-in-And n c =
    let left : ResolvedTree = formula_view c.deref.result.now in
    let right : ResolvedTree = formula_view c.deref-in-And.result.now in
    let whole : formula_view c.args.f.now ≡ shapes.And left right =
    ap formula_view c.in-And.is
    ∙ ap (λ f. shapes.And (formula_view f) (formula_view c.in-And.right.value)) (sym c.deref.ensures)
    ∙ ap (λ f. shapes.And left (formula_view f)) (sym c.deref-in-And.ensures) in
    subst (λ (f : ResolvedTree). IfSome c.in_ok-ids-in-And.ids (λ ids. AreNeeded c.args.scene.now c.args.class c.args.var f ids.items)) (sym whole)
    (found_and c.formulas_need_their_atoms.ensures.needed c.args.scene.now c.args.class c.args.var (λ ids. ids.items) left right
    c.in_ok-left-in-And.left c.in_ok-right-in-And.right c.in_ok-ids-in-And.ids
    c.in_ok-left-in-And.ensures c.in_ok-right-in-And.ensures c.in_ok-ids-in-And.ensures)

pub returns-in_ok-ids-in-Or : goal.returns-in_ok-ids-in-Or
returns-in_ok-ids-in-Or n c =
    let left : ResolvedTree = formula_view c.deref-in-Or.result.now in
    let right : ResolvedTree = formula_view c.deref-in-Or-2.result.now in
    let whole : formula_view c.args.f.now ≡ shapes.Or left right =
    ap formula_view c.in-Or.is
    ∙ ap (λ f. shapes.Or (formula_view f) (formula_view c.in-Or.right.value)) (sym c.deref-in-Or.ensures)
    ∙ ap (λ f. shapes.Or left (formula_view f)) (sym c.deref-in-Or-2.ensures) in
    subst (λ (f : ResolvedTree). IfSome c.in_ok-ids-in-Or.ids (λ ids. AreNeeded c.args.scene.now c.args.class c.args.var f ids.items)) (sym whole)
    (found_or c.formulas_need_their_atoms.ensures.needed c.args.scene.now c.args.class c.args.var (λ ids. ids.items) left right
    c.in_ok-left-in-Or.left c.in_ok-right-in-Or.right c.in_ok-ids-in-Or.ids
    c.in_ok-left-in-Or.ensures c.in_ok-right-in-Or.ensures c.in_ok-ids-in-Or.ensures)

pub returns-in-Next : goal.returns-in-Next
returns-in-Next n c =
    let part : ResolvedTree = formula_view c.deref-in-Next.result.now in
    let whole : formula_view c.args.f.now ≡ shapes.Next part =
    ap formula_view c.in-Next.is ∙ ap (λ f. shapes.Next (formula_view f)) (sym c.deref-in-Next.ensures) in
    ok_part c.formulas_need_their_atoms.ensures.needed c.args.scene.now c.args.class c.args.var (λ ids. ids.items) part (shapes.Next part)
    (formula_view c.args.f.now) c.needed-in-Next.result whole (λ j. fails_next c.formulas_need_their_atoms.ensures.needed j c.args.scene.now.w.lo c.args.scene.now.w.hi part) c.needed-in-Next.ensures

pub returns-in-Eventually : goal.returns-in-Eventually
returns-in-Eventually n c =
    let part : ResolvedTree = formula_view c.deref-in-Eventually.result.now in
    let whole : formula_view c.args.f.now ≡ shapes.Eventually part =
    ap formula_view c.in-Eventually.is ∙ ap (λ f. shapes.Eventually (formula_view f)) (sym c.deref-in-Eventually.ensures) in
    ok_part c.formulas_need_their_atoms.ensures.needed c.args.scene.now c.args.class c.args.var (λ ids. ids.items) part (shapes.Eventually part)
    (formula_view c.args.f.now) c.needed-in-Eventually.result whole (λ j. fails_eventually c.formulas_need_their_atoms.ensures.needed j c.args.scene.now.w.lo c.args.scene.now.w.hi part) c.needed-in-Eventually.ensures

pub returns-in-Always : goal.returns-in-Always
returns-in-Always n c =
    let part : ResolvedTree = formula_view c.deref-in-Always.result.now in
    let whole : formula_view c.args.f.now ≡ shapes.Always part =
    ap formula_view c.in-Always.is ∙ ap (λ f. shapes.Always (formula_view f)) (sym c.deref-in-Always.ensures) in
    ok_part c.formulas_need_their_atoms.ensures.needed c.args.scene.now c.args.class c.args.var (λ ids. ids.items) part (shapes.Always part)
    (formula_view c.args.f.now) c.needed-in-Always.result whole (λ j. fails_always c.formulas_need_their_atoms.ensures.needed j c.args.scene.now.w.lo c.args.scene.now.w.hi part) c.needed-in-Always.ensures

pub returns-in-Bounded : goal.returns-in-Bounded
returns-in-Bounded n c =
    let part : ResolvedTree = formula_view c.deref-in-Bounded.result.now in
    let whole : formula_view c.args.f.now ≡ shapes.Bounded c.in-Bounded.field-0 c.in-Bounded.field-1 part =
    ap formula_view c.in-Bounded.is ∙ ap (λ f. shapes.Bounded c.in-Bounded.field-0 c.in-Bounded.field-1 (formula_view f)) (sym c.deref-in-Bounded.ensures) in
    ok_part c.formulas_need_their_atoms.ensures.needed c.args.scene.now c.args.class c.args.var (λ ids. ids.items) part (shapes.Bounded c.in-Bounded.field-0 c.in-Bounded.field-1 part)
    (formula_view c.args.f.now) c.needed-in-Bounded.result whole (λ j. fails_bounded c.formulas_need_their_atoms.ensures.needed j c.args.scene.now.w.lo c.args.scene.now.w.hi c.in-Bounded.field-0 c.in-Bounded.field-1 part) c.needed-in-Bounded.ensures

pub returns-in-Until : goal.returns-in-Until
returns-in-Until n c =
    let part : ResolvedTree = formula_view c.deref-in-Until.result.now in
    let whole : formula_view c.args.f.now ≡ shapes.Until c.in-Until.field-0 c.in-Until.field-1 (formula_view c.in-Until.field-2.value) part =
    ap formula_view c.in-Until.is ∙ ap (λ f. shapes.Until c.in-Until.field-0 c.in-Until.field-1 (formula_view c.in-Until.field-2.value) (formula_view f)) (sym c.deref-in-Until.ensures) in
    ok_part c.formulas_need_their_atoms.ensures.needed c.args.scene.now c.args.class c.args.var (λ ids. ids.items) part (shapes.Until c.in-Until.field-0 c.in-Until.field-1 (formula_view c.in-Until.field-2.value) part)
    (formula_view c.args.f.now) c.needed-in-Until.result whole (λ j. fails_until c.formulas_need_their_atoms.ensures.needed j c.args.scene.now.w.lo c.args.scene.now.w.hi c.in-Until.field-0 c.in-Until.field-1 (formula_view c.in-Until.field-2.value) part) c.needed-in-Until.ensures

pub returns-in-Assign : goal.returns-in-Assign
returns-in-Assign n c =
    let part : ResolvedTree = formula_view c.deref-in-Assign.result.now in
    let whole : formula_view c.args.f.now ≡ shapes.Assign (c.in-Assign.field-0, c.in-Assign.field-1) part =
    ap formula_view c.in-Assign.is ∙ ap (λ f. shapes.Assign (c.in-Assign.field-0, c.in-Assign.field-1) (formula_view f)) (sym c.deref-in-Assign.ensures) in
    ok_part c.formulas_need_their_atoms.ensures.needed c.args.scene.now c.args.class c.args.var (λ ids. ids.items) part (shapes.Assign (c.in-Assign.field-0, c.in-Assign.field-1) part)
    (formula_view c.args.f.now) c.needed-in-Assign.result whole (λ j. fails_assign c.formulas_need_their_atoms.ensures.needed j c.args.scene.now.w.lo c.args.scene.now.w.hi (c.in-Assign.field-0, c.in-Assign.field-1) part) c.needed-in-Assign.ensures

pub returns-in-Truth : goal.returns-in-Truth
returns-in-Truth n c =
    found_truth c.formulas_need_their_atoms.ensures.needed c.args.scene.now c.args.class c.args.var (λ ids. ids.items) c.in-Truth.holds
    (formula_view c.args.f.now) c.needed_by_truth.result (ap formula_view c.in-Truth.is) c.needed_by_truth.ensures
