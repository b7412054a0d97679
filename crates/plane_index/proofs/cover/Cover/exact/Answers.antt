use Rattle.std.proofs.Common.{ap, ◌∙◌, arith}
use Rattle.std.proofs.lemmas.Bool.Decides.{nat_tests}
use Rattle.std.proofs.lemmas.Int.{ints}
use Rattle.plane_index.specs.Columns.{narrow_meets, narrowed}
use Rattle.plane_index.proofs.ColumnLemmas.{told_exactly}
use Rattle.plane_index.proofs.cover.Cover.exact.Goals as goal

pub returns-then-self-from-2 : goal.returns-then-self-from-2
returns-then-self-from-2 c =
    let a = c.from.ensures in let b = c.from-then-from-self.ensures in let d = c.from-then-self-from.ensures in let e = c.from-then-from-self-2.ensures in
    let above = c.if-from-self.true in let under = c.if-self-from.true in let over = c.if-from-self-2.true in let below = c.if-self-from-2.true in
    λ p. ap (λ narrow. narrow_meets (narrowed p) narrow) c.narrowed.ensures
    ∙ told_exactly c.args.self.now (grind (arith, ints, nat_tests, a, above)) (grind (arith, ints, nat_tests, b, under)) (grind (arith, ints, nat_tests, d, over))
    (grind (arith, ints, nat_tests, e, below)) p
