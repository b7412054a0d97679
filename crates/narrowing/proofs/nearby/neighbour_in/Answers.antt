use Rattle.std.proofs.Common.{◌≡◌, ℕ, ℤ, true, sym, subst, ◌∙◌, arith}
use Rattle.std.proofs.lemmas.Bool.{not-false}
use Rattle.formula.specs.declared.tree.RAtom.TheVariants as atoms
use Rattle.narrowing.specs.Beside.{NeedsBeside}
use Rattle.narrowing.proofs.BesideLemmas.{first_beside, second_beside}
use Rattle.narrowing.proofs.nearby.neighbour_in.Goals as goal
use Rattle.case_table.specs.Comparison.{is_at_most}

pub returns-then-v-var : goal.returns-then-v-var
returns-then-v-var c =
    let upper : is_at_most c.args.op ≡ true = sym c.is_at_most.ensures ∙ grind (arith, not-false, c.if-not-is_at_most.false) in
    let a = atoms.Dist c.args.v c.args.u c.args.op c.args.c in
    subst (λ (v : ℕ). NeedsBeside c.args.error v c.args.u c.in_ok-most.most a) c.if-v-var.true
    (subst (λ (most : ℤ). NeedsBeside c.args.error c.args.v c.args.u most a) (sym c.in_ok-most.ensures)
    (first_beside c.args.error c.args.v c.args.u c.args.op c.args.c upper))

pub returns-then-u-var : goal.returns-then-u-var
returns-then-u-var c =
    let upper : is_at_most c.args.op ≡ true = sym c.is_at_most.ensures ∙ grind (arith, not-false, c.if-not-is_at_most.false) in
    let a = atoms.Dist c.args.v c.args.u c.args.op c.args.c in
    subst (λ (u : ℕ). NeedsBeside c.args.error u c.args.v c.in_ok-most.most a) c.if-u-var.true
    (subst (λ (most : ℤ). NeedsBeside c.args.error c.args.u c.args.v most a) (sym c.in_ok-most.ensures)
    (second_beside c.args.error c.args.v c.args.u c.args.op c.args.c upper))
