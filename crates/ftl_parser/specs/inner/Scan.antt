-- Which numbers don't fit their places, told by the tokens alone, whether they are a query or not: the place of a
-- number follows from the tokens before it and the one after it.
use Rattle.std.specs.Prelude.{ℕ, ◌+◌, Bool, true, false, Option, None, Some, List, [], ◌∷◌}
use Rattle.fixed_point.specs.declared.variants.UntilForm.TheVariants as untils
use Rattle.ftl_parser.specs.declared.scan.Coming.{Coming}
use Rattle.ftl_parser.specs.declared.scan.Coming.TheVariants as comings
use Rattle.ftl_parser.specs.Piece.{Piece, BOUNDED, UNTIL, SPHERE, OPEN, STAR, NUMBER}
use Rattle.ftl_parser.specs.Number.{Place, Ticks, Times, Literal, Radius}
use Rattle.ftl_parser.specs.Marks.{unfit}

-- what the next number is, after one more token
abbrev pub coming : Coming → Piece → Coming
coming c (BOUNDED form) = comings.Ticks
coming c (UNTIL untils.Within) = comings.Ticks
coming c (UNTIL untils.After) = comings.Ticks
coming c SPHERE = comings.Circle
coming comings.Circle OPEN = comings.Radius
coming c p = comings.Factor

-- the place of a number, by what it is and the tokens after it
abbrev pub place_before : Coming → List Piece → Place
place_before comings.Ticks rest = Ticks
place_before comings.Radius rest = Radius
place_before c (STAR ∷ rest) = Times
place_before c rest = Literal

-- whether a token is a number that doesn't fit its place
abbrev pub mark : Coming → Piece → List Piece → Bool
mark c (NUMBER n) rest = unfit (place_before c rest) n
mark c p rest = false

-- the marks of tokens, the first of which comes so
abbrev pub scan : Coming → List Piece → List Bool
scan c [] = []
scan c (p ∷ rest) = mark c p rest ∷ scan (coming c p) rest

-- the first place with a mark, counted from this one
abbrev pub first_from : ℕ → List Bool → Option ℕ
first_from at [] = None
first_from at (true ∷ rest) = Some at
first_from at (false ∷ rest) = first_from (at + 1) rest

-- whether `*` comes next
abbrev pub star_next : List Piece → Bool
star_next (STAR ∷ rest) = true
star_next rest = false
