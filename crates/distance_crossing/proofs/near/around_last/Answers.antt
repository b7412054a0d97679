use Rattle.std.proofs.Common.{◌≡◌, ℕ, ◌+◌, ◌-◌, ◌<◌, ◌≤ℤ◌, ◌<ℤ◌, subst, arith}
use Rattle.std.proofs.lemmas.Int.{ints}
use mir.Syntax.{w128}
use mir.Val.{to_z, of_z}
use Rattle.linear_crossing.specs.Relative.{squared_distance_at}
use Rattle.distance_crossing.proofs.Bisection.{right_past, right_next, right_exact, near_by, far_by}
use Rattle.distance_crossing.proofs.near.around_last.Goals as goal
use Rattle.distance_crossing.proofs.near.around_last.Goals.{else-nearest-guess-2-via-then-nearest-guess-2+else-not-is_within-2, else-nearest-guess-2-via-else-nearest-guess-2, else-nearest-guess-via-then-nearest-guess+else-not-is_within, else-nearest-guess-via-else-nearest-guess, else-guess-last-via-then-guess-last+else-is_within, else-guess-last-via-else-guess-last}

pub returns-then-not-is_within-2-clause-round : goal.returns-then-not-is_within-2-clause-round
returns-then-not-is_within-2-clause-round g c =
    let f = squared_distance_at c.args.q.now in
    right_past f c.args.limit c.args.nearest c.args.last (c.args.guess - 1) (c.args.guess - 2) c.requires.rises c.requires.near
    c.if-nearest-guess-2.true (omega arith)
    (far_by (f (c.args.guess - 1)) (to_z w128 (of_z w128 c.args.limit)) c.args.limit c.is_within-then-nearest-guess-2.result (omega (arith, ints)) c.is_within-then-nearest-guess-2.ensures.value (cc))
    (omega arith)

pub returns-else-nearest-guess-2-clause-round : goal.returns-else-nearest-guess-2-clause-round
returns-else-nearest-guess-2-clause-round g c =
    let f = squared_distance_at c.args.q.now in
    let next : f (c.args.guess - 1) ≤ℤ c.args.limit =
    elim c.else-nearest-guess-2.branch [
      | else-nearest-guess-2-via-then-nearest-guess-2+else-not-is_within-2 w ↦
          near_by (f (c.args.guess - 1)) (to_z w128 (of_z w128 c.args.limit)) c.args.limit w.is_within-then-nearest-guess-2.result (omega (arith, ints)) w.is_within-then-nearest-guess-2.ensures.value
          (cc w.if-not-is_within-2.false)
      | else-nearest-guess-2-via-else-nearest-guess-2 w ↦
          let at : c.args.nearest ≡ c.args.guess - 1 = omega (arith, w.if-nearest-guess-2.false, c.if-nearest-guess.true) in
          subst (λ (k : ℕ). f k ≤ℤ c.args.limit) at c.requires.near
    ] in
    right_next f c.args.limit c.args.nearest c.args.last c.args.guess (c.args.guess - 1) c.requires.rises c.requires.near
    c.if-nearest-guess.true c.requires.guess_bound
    (far_by (f c.args.guess) (to_z w128 (of_z w128 c.args.limit)) c.args.limit c.is_within.result (omega (arith, ints)) c.is_within.ensures.value (cc))
    (omega arith) next

pub returns-else-guess-last-clause-round : goal.returns-else-guess-last-clause-round
returns-else-guess-last-clause-round g c =
    let f = squared_distance_at c.args.q.now in
    let near : f c.args.guess ≤ℤ c.args.limit =
    elim c.else-nearest-guess.branch [
      | else-nearest-guess-via-then-nearest-guess+else-not-is_within w ↦
          near_by (f c.args.guess) (to_z w128 (of_z w128 c.args.limit)) c.args.limit w.is_within.result (omega (arith, ints)) w.is_within.ensures.value (cc w.if-not-is_within.false)
      | else-nearest-guess-via-else-nearest-guess w ↦
          let at : c.args.nearest ≡ c.args.guess = omega (arith, w.if-nearest-guess.false, c.requires.guessed) in
          subst (λ (k : ℕ). f k ≤ℤ c.args.limit) at c.requires.near
    ] in
    let far : c.args.guess < c.args.last → c.args.limit <ℤ f (c.args.guess + 1) = λ some.
    elim c.else-guess-last.branch [
      | else-guess-last-via-then-guess-last+else-is_within w ↦
          far_by (f (c.args.guess + 1)) (to_z w128 (of_z w128 c.args.limit)) c.args.limit w.is_within-then-guess-last.result (omega (arith, ints)) w.is_within-then-guess-last.ensures.value w.if-is_within.false
      | else-guess-last-via-else-guess-last w ↦ absurd (omega (arith, w.if-guess-last.false, some))
    ] in
    right_exact f c.args.limit c.args.nearest c.args.last c.args.guess c.requires.rises c.requires.guessed c.requires.guess_bound near far
