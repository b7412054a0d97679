-- The rows of an answer as a replica writes them: by their targets, in the order of the bytes of these.
use Rattle.std.specs.Prelude.{◌≡◌, ℕ, true, Some, List, [], ◌∷◌, ◌++◌, map}
use Rattle.std.specs.BTreeMap.{insert_entry}
use Rattle.std.specs.List.{flat_map}
use Rattle.history.specs.Catalog.{Catalog}
use Rattle.meaning.specs.Answer as answers
use Rattle.meaning.specs.Registered.{RegisteredQuery, registered_answer}
use Rattle.line_meaning.specs.Registry.{Known, Registration, registration_named}
use Rattle.feeds_meaning.specs.HeardLaw.{is_of_letters}
use Rattle.replica.specs.Feed.{said}
use Rattle.replica.specs.Printed.{told_text}
use Rattle.replica.specs.Rows.{TargetRow, bytes_cmp, line_feed}
use Rattle.feeds_laws.specs.Followed.{known_to, replica_of}
use Rattle.feeds_laws.specs.Targets.{target_of}

-- a row by the names of its objects
abbrev pub named_row : Catalog → answers.Row → TargetRow
named_row c row = (target_of c row.key, row.runs)

abbrev pub in_order : List TargetRow → List TargetRow
in_order [] = []
in_order (row ∷ rows) = insert_entry bytes_cmp (in_order rows) row.0 row.1

-- `a b : 4..10`
abbrev pub told_row_line : TargetRow → List ℕ
told_row_line row = told_text row ++ line_feed

-- the answer of a registered query
abbrev pub registered_lines : Known → RegisteredQuery → List ℕ
registered_lines k r = flat_map told_row_line (in_order (map (named_row k.world.history.catalog) (registered_answer k.world r k.now)))

-- a replica that hears what a user hears writes the answer of a query that the user registered
abbrev pub WritesTheAnswer : Type 0
WritesTheAnswer = (name user : List ℕ) (lines : List (List ℕ)) (r : Registration) → is_of_letters user ≡ true →
    registration_named (known_to user lines).live name ≡ Some r → said (replica_of name user lines) ≡ registered_lines (known_to user lines) r.query
