use Rattle.std.proofs.Common.{◌≡◌, ℕ, ◌+◌, ◌-◌, ◌<◌, ◌≤ℤ◌, ◌<ℤ◌, subst, arith}
use Rattle.exact.proofs.Convex.{FallsTo-drops}
use Rattle.std.proofs.lemmas.Int.{ints}
use mir.Syntax.{w128}
use mir.Val.{to_z, of_z}
use Rattle.linear_crossing.specs.Relative.{squared_distance_at}
use Rattle.distance_crossing.proofs.Bisection.{left_past, left_next, left_exact, near_by, far_by}
use Rattle.distance_crossing.proofs.near.around_first.Goals as goal
use Rattle.distance_crossing.proofs.near.around_first.Goals.{else-guess-nearest-2-via-then-guess-nearest-2+else-not-is_within-2, else-guess-nearest-2-via-else-guess-nearest-2, else-guess-nearest-via-then-guess-nearest+else-not-is_within, else-guess-nearest-via-else-guess-nearest, else-guess-gt0-via-then-guess-gt0+else-is_within, else-guess-gt0-via-else-guess-gt0}

pub returns-then-not-is_within-2-clause-round : goal.returns-then-not-is_within-2-clause-round
returns-then-not-is_within-2-clause-round g c =
    let f = squared_distance_at c.args.q.now in
    left_past f c.args.limit c.args.nearest (c.args.guess + 1) (c.args.guess + 2) (FallsTo-drops f c.args.nearest c.requires.falls) c.requires.near
    c.if-guess-nearest-2.true
    (far_by (f (c.args.guess + 1)) (to_z w128 (of_z w128 c.args.limit)) c.args.limit c.is_within-then-guess-nearest-2.result (omega (arith, ints)) c.is_within-then-guess-nearest-2.ensures.value (cc))
    (omega arith)

pub returns-else-guess-nearest-2-clause-round : goal.returns-else-guess-nearest-2-clause-round
returns-else-guess-nearest-2-clause-round g c =
    let f = squared_distance_at c.args.q.now in
    let next : f (c.args.guess + 1) ≤ℤ c.args.limit =
    elim c.else-guess-nearest-2.branch [
      | else-guess-nearest-2-via-then-guess-nearest-2+else-not-is_within-2 w ↦
          near_by (f (c.args.guess + 1)) (to_z w128 (of_z w128 c.args.limit)) c.args.limit w.is_within-then-guess-nearest-2.result (omega (arith, ints)) w.is_within-then-guess-nearest-2.ensures.value
          (cc w.if-not-is_within-2.false)
      | else-guess-nearest-2-via-else-guess-nearest-2 w ↦
          let at : c.args.nearest ≡ c.args.guess + 1 = omega (arith, w.if-guess-nearest-2.false, c.if-guess-nearest.true) in
          subst (λ (k : ℕ). f k ≤ℤ c.args.limit) at c.requires.near
    ] in
    left_next f c.args.limit c.args.nearest c.args.guess (FallsTo-drops f c.args.nearest c.requires.falls) c.requires.near
    c.if-guess-nearest.true
    (far_by (f c.args.guess) (to_z w128 (of_z w128 c.args.limit)) c.args.limit c.is_within.result (omega (arith, ints)) c.is_within.ensures.value (cc))
    next

pub returns-else-guess-gt0-clause-round : goal.returns-else-guess-gt0-clause-round
returns-else-guess-gt0-clause-round g c =
    let f = squared_distance_at c.args.q.now in
    let near : f c.args.guess ≤ℤ c.args.limit =
    elim c.else-guess-nearest.branch [
      | else-guess-nearest-via-then-guess-nearest+else-not-is_within w ↦
          near_by (f c.args.guess) (to_z w128 (of_z w128 c.args.limit)) c.args.limit w.is_within.result (omega (arith, ints)) w.is_within.ensures.value (cc w.if-not-is_within.false)
      | else-guess-nearest-via-else-guess-nearest w ↦
          let at : c.args.nearest ≡ c.args.guess = omega (arith, w.if-guess-nearest.false, c.requires.guessed) in
          subst (λ (k : ℕ). f k ≤ℤ c.args.limit) at c.requires.near
    ] in
    let far : 0 < c.args.guess → c.args.limit <ℤ f (c.args.guess - 1) = λ some.
    elim c.else-guess-gt0.branch [
      | else-guess-gt0-via-then-guess-gt0+else-is_within w ↦
          far_by (f (c.args.guess - 1)) (to_z w128 (of_z w128 c.args.limit)) c.args.limit w.is_within-then-guess-gt0.result (omega (arith, ints)) w.is_within-then-guess-gt0.ensures.value w.if-is_within.false
      | else-guess-gt0-via-else-guess-gt0 w ↦ absurd (omega (arith, w.if-guess-gt0.false, some))
    ] in
    left_exact f c.args.limit c.args.nearest c.args.guess (FallsTo-drops f c.args.nearest c.requires.falls) c.requires.guessed near far
