-- What is answered of registered queries, by the bytes before and after.
use Rattle.std.specs.Prelude.{◌≡◌, ℕ, ◌+◌, List, [], ◌++◌, None, Result, Ok, Err}
use Rattle.std.specs.Option.{option_map_or}
use Rattle.formula.specs.declared.kind.QueryKind.{QueryKind}
use Rattle.command_text.specs.declared.fault.CommandFault.{CommandFault}
use Rattle.line_meaning.specs.Changes.{answer_text}
use Rattle.line_meaning.specs.QueryFault.{unregistered_refusal}
use Rattle.line_meaning.specs.Registry.{registration_named}
use Rattle.live_queries.specs.Kept.{KeptQuery}
use Rattle.live_queries.specs.Told.{Info}
use Rattle.database.specs.declared.database.Database.{Database}
use Rattle.database.specs.Keeping.{clock_of, world_of_database}
use Rattle.database.specs.Telling.{IsStoppedBy}
use Rattle.registry.specs.Standing.{known_of}

-- from now to the expiry
abbrev pub info_for : QueryKind → ℕ → List ℕ → ℕ → Info
info_for kind now name span = record { name = name; kind = kind; entry = now; expiry = now + span }

-- The answer of a query is written, or there is none of the name; memory may be out where there is one.
abbrev pub Shows : Database → List KeptQuery → List ℕ → List ℕ → List ℕ → Result (Unit {0}) CommandFault → Type 0
Shows d live name before after (Ok u) =
    (unregistered_refusal (known_of d live).live name ≡ None)
    × (after ≡ before ++ option_map_or (answer_text (world_of_database d) (clock_of d)) (registration_named (known_of d live).live name) [])
Shows d live name before after (Err fault) = IsStoppedBy (unregistered_refusal (known_of d live).live name) fault
