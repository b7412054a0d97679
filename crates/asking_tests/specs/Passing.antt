-- A car that passes by a post, which is removed at tick 25.
use Rattle.std.specs.Prelude.{pos, List, [], ◌∷◌, codes}
use Rattle.history.specs.Write.{Write, Insert, Remove}
use Rattle.meaning.specs.ExampleParts.{car, car_class, post_class, standing_at}
use Rattle.meaning.specs.PlaceExample.{passing}

abbrev pub writes : List Write
writes =
    car_class
    ∷ post_class
    ∷ car (passing (pos 0) (pos 3000))
    ∷ Insert 0 (codes "post") (codes "b") (standing_at 10 0) []
    ∷ Remove 25 (codes "b")
    ∷ []
