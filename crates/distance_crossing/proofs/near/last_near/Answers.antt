use Rattle.std.proofs.Common.{◌≡◌, ℕ, ◌≤◌, ℤ, int_le, nat_le, subst, arith}
use Rattle.std.proofs.lemmas.Int.{ints}
use Rattle.linear_crossing.specs.Relative.{squared_distance_at}
use Rattle.distance_crossing.proofs.near.last_near.Goals as goal

pub returns-clause-last : goal.returns-clause-last
returns-clause-last g c =
    let f = squared_distance_at c.args.q.now in
    let P : ℤ → Type 0 = λ z. (k : ℕ) → c.args.nearest ≤ k → k ≤ c.args.last → int_le (f k) z ≡ nat_le k c.bisect_last.result in
    subst P (omega (arith, ints)) c.bisect_last.ensures.last
