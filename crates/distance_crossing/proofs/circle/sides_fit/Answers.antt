use Rattle.std.proofs.Common.{◌≡◌, true, false, ◌+ℤ◌, ◌-ℤ◌, int_le, arith}
use Rattle.std.proofs.lemmas.Int.{ints}
use Rattle.exact.proofs.Sizes.{steps}
use Rattle.geometry.specs.Circle.{largest}
use Rattle.distance_crossing.proofs.Triangles.{too_wide, wide_fits, sharp_fits, sides_most, width_least}
use Rattle.distance_crossing.proofs.circle.sides_fit.Goals as goal

pub returns-then-longest-width : goal.returns-then-longest-width
returns-then-longest-width c =
    let longest : c.max-longest.result ≡ largest c.args.a c.args.b c.args.c = grind (arith, steps) in
    too_wide c.args.a c.args.b c.args.c c.args.area c.requires.squares.a_least c.requires.squares.b_least c.requires.squares.c_least c.requires.a_and_b c.requires.b_and_c c.requires.c_and_a
    c.args.r c.squared_width-width.result c.max-longest.result c.squared_width-width.ensures.value (width_least c.args.r c.squared_width-width.result c.squared_width-width.ensures.value)
    longest (omega (arith, ints))

pub returns-then-is_wide : goal.returns-then-is_wide
returns-then-is_wide c =
    let longest : c.max-longest.result ≡ largest c.args.a c.args.b c.args.c = grind (arith, steps) in
    let wide : true ≡ int_le (c.args.a +ℤ c.args.b +ℤ c.args.c -ℤ c.max-longest.result) c.max-longest.result = grind (arith, steps) in
    wide_fits c.args.r c.args.a c.args.b c.args.c c.args.area c.squared_width-width.result c.max-longest.result c.squared_width-width.ensures.value
    longest (omega (arith, ints)) wide

pub corners_fit-requires-clause-sizes : goal.corners_fit-requires-clause-sizes
corners_fit-requires-clause-sizes c = record {
  a_most = (let longest : c.max-longest.result ≡ largest c.args.a c.args.b c.args.c = grind (arith, steps) in
      let most = sides_most c.args.a c.args.b c.args.c c.max-longest.result c.squared_width-width.result longest c.requires.squares.a_least c.requires.squares.b_least c.requires.squares.c_least
      (omega (arith, ints)) c.squared_width-width.ensures.size in
      grind (arith, steps, most.0));
  b_most = (let longest : c.max-longest.result ≡ largest c.args.a c.args.b c.args.c = grind (arith, steps) in
      let most = sides_most c.args.a c.args.b c.args.c c.max-longest.result c.squared_width-width.result longest c.requires.squares.a_least c.requires.squares.b_least c.requires.squares.c_least
      (omega (arith, ints)) c.squared_width-width.ensures.size in
      grind (arith, steps, most.1));
  c_most = (let longest : c.max-longest.result ≡ largest c.args.a c.args.b c.args.c = grind (arith, steps) in
      let most = sides_most c.args.a c.args.b c.args.c c.max-longest.result c.squared_width-width.result longest c.requires.squares.a_least c.requires.squares.b_least c.requires.squares.c_least
      (omega (arith, ints)) c.squared_width-width.ensures.size in
      grind (arith, steps, most.2));
}

pub returns : goal.returns
returns c =
    let longest : c.max-longest.result ≡ largest c.args.a c.args.b c.args.c = grind (arith, steps) in
    let narrow : false ≡ int_le (c.args.a +ℤ c.args.b +ℤ c.args.c -ℤ c.max-longest.result) c.max-longest.result = grind (arith, steps) in
    sharp_fits c.args.r c.args.a c.args.b c.args.c c.args.area c.squared_width-width.result c.max-longest.result c.corners_fit.result
    c.squared_width-width.ensures.value longest narrow (grind (arith, steps))
