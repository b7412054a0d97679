use Rattle.std.proofs.Common.{ℕ, List, sym, subst}
use Rattle.geometry.specs.Region.{Region}
use Rattle.formula.specs.declared.tree.RAtom.TheVariants as atoms
use Rattle.object_store.specs.declared.areas.Area.{Area}
use Rattle.narrowing.specs.Covering.{Covers}
use Rattle.narrowing.proofs.AreaLemmas.{compare_covers, compared_covers}
use Rattle.narrowing.proofs.atom_area.area_of_comparison.Goals as goal

pub returns-in_ok-sides-in-Some : goal.returns-in_ok-sides-in-Some
returns-in_ok-sides-in-Some c =
    subst (λ (area : Area). (error : ℕ) (regions : List Region) → Covers error regions c.args.var (atoms.Compare c.args.left.now c.args.op c.args.right.now) area)
    (sym c.area_beside.ensures)
    (λ error regions. compare_covers error regions c.args.var c.in-Some.index c.args.left.now c.args.right.now c.args.op c.in_ok-c-in-Some.c
    c.in_ok-sides-in-Some.sides c.in-Some.ensures.first c.in-Some.ensures.term c.in_ok-c-in-Some.ensures c.in_ok-sides-in-Some.ensures)

pub returns-in_ok-sides-in-None : goal.returns-in_ok-sides-in-None
returns-in_ok-sides-in-None c =
    subst (λ (area : Area). (error : ℕ) (regions : List Region) → Covers error regions c.args.var (atoms.Compare c.args.left.now c.args.op c.args.right.now) area)
    (sym c.area_beside-in-None.ensures)
    (λ error regions. compared_covers error regions c.args.var c.in_ok-index-in-None.index c.args.left.now c.args.right.now c.args.op c.in_ok-c-in-None.c
    c.in_ok-sides-in-None.sides c.in_ok-index-in-None.ensures.first c.in_ok-index-in-None.ensures.term c.in_ok-c-in-None.ensures c.in_ok-sides-in-None.ensures)
