use Rattle.std.proofs.Common.{◌≡◌, ap, sym, ◌∙◌}
use Rattle.formula_shape.specs.Shape as shapes
use Rattle.formula.specs.Tree.{ResolvedTree, formula_view}
use Rattle.narrowing.proofs.FailLemmas.{fails_always, fails_and_left, fails_and_right, fails_assign, fails_bounded, fails_eventually, fails_next, fails_until}
use Rattle.narrowing.proofs.WhereaboutsLemmas.{at_or, at_part, at_same, at_truth}
use Rattle.narrowing.proofs.whereabouts.+can_formula_hold.Goals as goal

pub returns-in-Truth : goal.returns-in-Truth
returns-in-Truth n c never = at_truth c.args.area.now c.args.regions.now c.in-Truth.holds (formula_view c.args.f.now) (ap formula_view c.in-Truth.is) never

pub returns-in-Atom : goal.returns-in-Atom
returns-in-Atom n c never =
    at_same c.args.area.now c.args.regions.now (shapes.Atom c.in-Atom.a) (formula_view c.args.f.now) (ap formula_view c.in-Atom.is) (c.can_atom_hold.ensures never)

pub returns-in-Next : goal.returns-in-Next
returns-in-Next n c never =
    let part : ResolvedTree = formula_view c.deref-in-Next.result.now in
    let whole : formula_view c.args.f.now ≡ shapes.Next part =
    ap formula_view c.in-Next.is ∙ ap (λ f. shapes.Next (formula_view f)) (sym c.deref-in-Next.ensures) in
    at_part c.args.area.now c.args.regions.now part (shapes.Next part) (formula_view c.args.f.now) whole
    (λ j lo hi. fails_next c.formulas_need_their_atoms.ensures.needed j lo hi part) (c.can_formula_hold-in-Next.ensures never)

pub returns-in-Eventually : goal.returns-in-Eventually
returns-in-Eventually n c never =
    let part : ResolvedTree = formula_view c.deref-in-Eventually.result.now in
    let whole : formula_view c.args.f.now ≡ shapes.Eventually part =
    ap formula_view c.in-Eventually.is ∙ ap (λ f. shapes.Eventually (formula_view f)) (sym c.deref-in-Eventually.ensures) in
    at_part c.args.area.now c.args.regions.now part (shapes.Eventually part) (formula_view c.args.f.now) whole
    (λ j lo hi. fails_eventually c.formulas_need_their_atoms.ensures.needed j lo hi part) (c.can_formula_hold-in-Eventually.ensures never)

pub returns-in-Always : goal.returns-in-Always
returns-in-Always n c never =
    let part : ResolvedTree = formula_view c.deref-in-Always.result.now in
    let whole : formula_view c.args.f.now ≡ shapes.Always part =
    ap formula_view c.in-Always.is ∙ ap (λ f. shapes.Always (formula_view f)) (sym c.deref-in-Always.ensures) in
    at_part c.args.area.now c.args.regions.now part (shapes.Always part) (formula_view c.args.f.now) whole
    (λ j lo hi. fails_always c.formulas_need_their_atoms.ensures.needed j lo hi part) (c.can_formula_hold-in-Always.ensures never)

pub returns-in-Bounded : goal.returns-in-Bounded
returns-in-Bounded n c never =
    let part : ResolvedTree = formula_view c.deref-in-Bounded.result.now in
    let whole : formula_view c.args.f.now ≡ shapes.Bounded c.in-Bounded.field-0 c.in-Bounded.field-1 part =
    ap formula_view c.in-Bounded.is ∙ ap (λ f. shapes.Bounded c.in-Bounded.field-0 c.in-Bounded.field-1 (formula_view f)) (sym c.deref-in-Bounded.ensures) in
    at_part c.args.area.now c.args.regions.now part (shapes.Bounded c.in-Bounded.field-0 c.in-Bounded.field-1 part) (formula_view c.args.f.now) whole
    (λ j lo hi. fails_bounded c.formulas_need_their_atoms.ensures.needed j lo hi c.in-Bounded.field-0 c.in-Bounded.field-1 part) (c.can_formula_hold-in-Bounded.ensures never)

pub returns-in-Until : goal.returns-in-Until
returns-in-Until n c never =
    let part : ResolvedTree = formula_view c.deref-in-Until.result.now in
    let whole : formula_view c.args.f.now ≡ shapes.Until c.in-Until.field-0 c.in-Until.field-1 (formula_view c.in-Until.field-2.value) part =
    ap formula_view c.in-Until.is ∙ ap (λ f. shapes.Until c.in-Until.field-0 c.in-Until.field-1 (formula_view c.in-Until.field-2.value) (formula_view f)) (sym c.deref-in-Until.ensures) in
    at_part c.args.area.now c.args.regions.now part (shapes.Until c.in-Until.field-0 c.in-Until.field-1 (formula_view c.in-Until.field-2.value) part) (formula_view c.args.f.now) whole
    (λ j lo hi. fails_until c.formulas_need_their_atoms.ensures.needed j lo hi c.in-Until.field-0 c.in-Until.field-1 (formula_view c.in-Until.field-2.value) part) (c.can_formula_hold-in-Until.ensures never)

pub returns-in-Assign : goal.returns-in-Assign
returns-in-Assign n c never =
    let part : ResolvedTree = formula_view c.deref-in-Assign.result.now in
    let whole : formula_view c.args.f.now ≡ shapes.Assign (c.in-Assign.field-0, c.in-Assign.field-1) part =
    ap formula_view c.in-Assign.is ∙ ap (λ f. shapes.Assign (c.in-Assign.field-0, c.in-Assign.field-1) (formula_view f)) (sym c.deref-in-Assign.ensures) in
    at_part c.args.area.now c.args.regions.now part (shapes.Assign (c.in-Assign.field-0, c.in-Assign.field-1) part) (formula_view c.args.f.now) whole
    (λ j lo hi. fails_assign c.formulas_need_their_atoms.ensures.needed j lo hi (c.in-Assign.field-0, c.in-Assign.field-1) part) (c.can_formula_hold-in-Assign.ensures never)

pub returns-then-can_formula_hold : goal.returns-then-can_formula_hold
returns-then-can_formula_hold n c never =
    let left : ResolvedTree = formula_view c.in-And.left.value in
    let right : ResolvedTree = formula_view c.deref-then-can_formula_hold.result.now in
    let whole : formula_view c.args.f.now ≡ shapes.And left right =
    ap formula_view c.in-And.is ∙ ap (λ f. shapes.And left (formula_view f)) (sym c.deref-then-can_formula_hold.ensures) in
    at_part c.args.area.now c.args.regions.now right (shapes.And left right) (formula_view c.args.f.now) whole
    (λ j lo hi. fails_and_right c.formulas_need_their_atoms.ensures.needed j lo hi left right) (c.can_formula_hold-then-can_formula_hold.ensures never)

pub returns-else-can_formula_hold : goal.returns-else-can_formula_hold
returns-else-can_formula_hold n c never =
    let left : ResolvedTree = formula_view c.deref.result.now in
    let right : ResolvedTree = formula_view c.in-And.right.value in
    let whole : formula_view c.args.f.now ≡ shapes.And left right =
    ap formula_view c.in-And.is ∙ ap (λ f. shapes.And (formula_view f) right) (sym c.deref.ensures) in
    at_part c.args.area.now c.args.regions.now left (shapes.And left right) (formula_view c.args.f.now) whole
    (λ j lo hi. fails_and_left c.formulas_need_their_atoms.ensures.needed j lo hi left right) (c.can_formula_hold.ensures c.if-can_formula_hold.false)

pub returns-else-can_formula_hold-2 : goal.returns-else-can_formula_hold-2
returns-else-can_formula_hold-2 n c never =
    let left : ResolvedTree = formula_view c.deref-in-Or.result.now in
    let right : ResolvedTree = formula_view c.deref-else-can_formula_hold-2.result.now in
    let whole : formula_view c.args.f.now ≡ shapes.Or left right =
    ap formula_view c.in-Or.is
    ∙ ap (λ f. shapes.Or (formula_view f) (formula_view c.in-Or.right.value)) (sym c.deref-in-Or.ensures)
    ∙ ap (λ f. shapes.Or left (formula_view f)) (sym c.deref-else-can_formula_hold-2.ensures) in
    at_or c.args.area.now c.args.regions.now c.formulas_need_their_atoms.ensures.needed left right (formula_view c.args.f.now) whole
    (c.can_formula_hold-in-Or.ensures c.if-can_formula_hold-2.false) (c.can_formula_hold-else-can_formula_hold-2.ensures never)
