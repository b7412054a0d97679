-- The queries that a journal registered and didn't drop, in the order in which they were registered.
use Rattle.std.specs.Prelude.{ℕ, ◌+◌, Bool, not, List, [], ◌∷◌, ◌++◌, Option}
use Rattle.std.specs.List.{filter, find, list_any}
use Rattle.std.specs.Str.{bytes_eq}
use Rattle.formula.specs.declared.kind.QueryKind.{QueryKind}
use Rattle.formula.specs.declared.kind.QueryKind.TheVariants as kinds
use Rattle.history.specs.World.{World}
use Rattle.meaning.specs.Registered.{RegisteredQuery}
use Rattle.command_text.specs.Journal.{Accepted, clock}
use Rattle.command_text.specs.Tree
use Rattle.command_text.specs.Tree.{CommandTree}
use Rattle.ftl_parser.specs.Tree.{QueryTree}
use Rattle.line_meaning.specs.Ask.{query_in}
use Rattle.line_meaning.specs.Journal.{world}

pub record Registration : Type 0 where
  pub name : List ℕ
  pub query : RegisteredQuery

-- a query with the numbers that its names have when it is registered, from now to the expiry
abbrev pub registration : QueryKind → World → ℕ → List ℕ → ℕ → QueryTree → Registration
registration kind w now name span q = record {
  name = name;
  query = record { kind = kind; query = query_in w q; entry = now; expiry = now + span };
}

abbrev pub has_name : List ℕ → Registration → Bool
has_name name r = bytes_eq name r.name

abbrev pub is_registered : List Registration → List ℕ → Bool
is_registered live name = list_any (has_name name) live

abbrev pub registration_named : List Registration → List ℕ → Option Registration
registration_named live name = find (has_name name) live

-- after a command that is accepted at a tick. A name that was dropped and is registered again stands last.
abbrev pub live_after : World → ℕ → List Registration → CommandTree → List Registration
live_after w now live (Tree.Watch name span q) = live ++ registration kinds.Watch w now name span q ∷ []
live_after w now live (Tree.Keep name span q) = live ++ registration kinds.Keep w now name span q ∷ []
live_after w now live (Tree.Drop name) = filter (λ r. not (has_name name r)) live
live_after w now live _ = live

-- from what the first entries registered to what all of them did
abbrev pub registered_from : List Accepted → List Registration → List Accepted → List Registration
registered_from before live [] = live
registered_from before live (e ∷ later) =
    registered_from (before ++ e ∷ []) (live_after (world before) e.0 live e.1) later

abbrev pub registered : List Accepted → List Registration
registered journal = registered_from [] [] journal

-- what a journal tells by which commands are judged
pub record Known : Type 0 where
  pub world : World
  pub now : ℕ
  pub live : List Registration

abbrev pub known : List Accepted → Known
known journal = record { world = world journal; now = clock journal; live = registered journal }
