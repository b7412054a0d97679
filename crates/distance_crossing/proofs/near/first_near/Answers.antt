use Rattle.std.proofs.Common.{◌≡◌, ℕ, ◌≤◌, ℤ, int_le, nat_le, subst, arith}
use Rattle.std.proofs.lemmas.Int.{ints}
use Rattle.linear_crossing.specs.Relative.{squared_distance_at}
use Rattle.distance_crossing.proofs.near.first_near.Goals as goal

pub returns-clause-first : goal.returns-clause-first
returns-clause-first g c =
    let f = squared_distance_at c.args.q.now in
    let P : ℤ → Type 0 = λ z. (k : ℕ) → k ≤ c.args.nearest → int_le (f k) z ≡ nat_le c.bisect_first.result k in
    subst P (omega (arith, ints)) c.bisect_first.ensures.first
