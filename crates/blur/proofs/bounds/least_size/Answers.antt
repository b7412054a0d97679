-- The number lies between its ends at each tick.
use Rattle.std.proofs.Common.{◌≡◌, pos, ◌+ℤ◌, ◌*ℤ◌, w64, to_z, of_z, arith}
use Rattle.std.proofs.lemmas.Int.{ints}
use Rattle.exact.proofs.Sizes.{steps}
use Rattle.blur.proofs.FloorLemmas.{passed_between}
use Rattle.blur.proofs.bounds.least_size.Goals as goal

pub returns-clause-least : goal.returns-clause-least
returns-clause-least c = λ k up_to.
    let start = c.args.start in
    let step = c.args.step in
    let first : to_z w64 (of_z w64 start) ≡ start = grind (arith, steps) in
    let end : to_z w64 (of_z w64 c.place_after.result) ≡ start +ℤ step *ℤ pos c.args.last = grind (arith, steps) in
    let least = c.nearest_size-size.ensures.least (start +ℤ step *ℤ pos k) (passed_between start step k c.args.last _ _ first end up_to) in
    omega (arith, ints, least)
