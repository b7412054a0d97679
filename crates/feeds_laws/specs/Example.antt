-- Two users, and what a replica of the query `w` says that hears the first one, worked out by hand.
use Rattle.std.specs.Prelude.{◌≡◌, ℕ, Option, Some, option_map, List, [], ◌∷◌, ◌++◌, codes}
use Rattle.line_meaning.specs.Registry.{registration_named}
use Rattle.feeds_meaning.specs.Heard.{empty_seat, heard}
use Rattle.replica.specs.Feed.{said}
use Rattle.feeds_laws.specs.Followed.{items_for, known_to, replica_of}
use Rattle.feeds_laws.specs.Written.{registered_lines}

-- a car, a watch over all cars, and four ticks
abbrev pub lines_before_removal : List (List ℕ)
lines_before_removal =
    codes "ann class car 9 point"
    ∷ codes "bob insert car a"
    ∷ codes "ann watch w 10 RETRIEVE o FROM car o WHERE TRUE"
    ∷ codes "bob show w"
    ∷ codes "bob tick 4"
    ∷ []

-- and the car is removed
abbrev pub lines_with_removal : List (List ℕ)
lines_with_removal = lines_before_removal ++ codes "bob remove a" ∷ []

-- the answer of the query `w` of the first user, where it is registered
abbrev pub answer_after : List (List ℕ) → Option (List ℕ)
answer_after lines =
    let k = known_to (codes "ann") lines in
    option_map (λ r. registered_lines k r.query) (registration_named k.live (codes "w"))

-- pairs of cars, of which the past is kept, beside a query of another name; the second car is removed
abbrev pub pairs_kept : List (List ℕ)
pairs_kept =
    codes "bob class car 9"
    ∷ codes "bob insert car b"
    ∷ codes "ann keep w 5 RETRIEVE o, n FROM car o, car n WHERE TRUE"
    ∷ codes "ann watch v 5 RETRIEVE o FROM car o WHERE TRUE"
    ∷ codes "bob tick 2"
    ∷ codes "bob insert car a"
    ∷ codes "ann list"
    ∷ codes "bob tick 1"
    ∷ codes "ann remove b"
    ∷ []

abbrev pub heard_after : List (List ℕ) → List (List ℕ)
heard_after lines = heard empty_seat (items_for (codes "ann") lines)

abbrev pub said_by_replica : List (List ℕ) → List ℕ
said_by_replica lines = said (replica_of (codes "w") (codes "ann") lines)

pub record FollowsAUser : Type 0 where
  pub hears : heard_after lines_with_removal
      ≡ codes "ok" ∷ codes "start w watch 0" ∷ codes "now a : 0..10" ∷ codes "ok" ∷ codes "clock 4" ∷ codes "lose w a : 4..10" ∷ codes "leave w a" ∷ []
  pub says : said_by_replica lines_before_removal ≡ codes "a : 4..10\n"
  pub answer : answer_after lines_before_removal ≡ Some (codes "a : 4..10\n")
  pub removed : said_by_replica lines_with_removal ≡ []
  pub none_left : answer_after lines_with_removal ≡ Some []
  pub kept : said_by_replica pairs_kept ≡ codes "a a : 2..5\na b : 2..2\nb a : 2..2\nb b : 0..2\n"
  pub kept_answer : answer_after pairs_kept ≡ Some (codes "a a : 2..5\na b : 2..2\nb a : 2..2\nb b : 0..2\n")
