-- What is done with a command that was read.
use Rattle.std.specs.Prelude.{Bool, true, false}
use Rattle.command_text.specs.Tree
use Rattle.command_text.specs.Tree.{CommandTree}
use Rattle.line_meaning.specs.declared.role.Role.{Role}
use Rattle.line_meaning.specs.declared.role.Role.TheVariants.{Blank, Journalled, Telling, Indexing, Filing, Ending}

-- each command has a row, so that one more command needs a row too
abbrev pub role_of : CommandTree → Role
role_of Tree.Nothing = Blank
role_of (Tree.Class name capacity point attributes) = Journalled
role_of (Tree.Region name points) = Journalled
role_of (Tree.Insert class name place sets) = Journalled
role_of (Tree.Update name place sets) = Journalled
role_of (Tree.Remove name) = Journalled
role_of (Tree.Tick ticks) = Journalled
role_of (Tree.Watch name span q) = Journalled
role_of (Tree.Keep name span q) = Journalled
role_of (Tree.Drop name) = Journalled
role_of Tree.Listing = Telling
role_of (Tree.Ask span q) = Telling
role_of (Tree.Show name) = Telling
role_of (Tree.Nearest span k object class) = Telling
role_of (Tree.Must error span q) = Telling
role_of (Tree.May error span q) = Telling
role_of (Tree.Index class attribute width) = Indexing
role_of (Tree.Range span class attribute least greatest) = Indexing
role_of (Tree.Save file) = Filing
role_of (Tree.Import class file) = Filing
role_of (Tree.Export class file) = Filing
role_of Tree.Quit = Ending

-- a command on registered queries
abbrev pub is_on_queries : CommandTree → Bool
is_on_queries (Tree.Watch name span q) = true
is_on_queries (Tree.Keep name span q) = true
is_on_queries (Tree.Show name) = true
is_on_queries (Tree.Drop name) = true
is_on_queries _ = false

-- a command on indexes
abbrev pub is_on_indexes : CommandTree → Bool
is_on_indexes (Tree.Index class attribute width) = true
is_on_indexes (Tree.Range span class attribute least greatest) = true
is_on_indexes _ = false

-- a command that asks the shelf for a text, or gives it one
abbrev pub is_filing : Role → Bool
is_filing Filing = true
is_filing _ = false

abbrev pub asks_shelf : CommandTree → Bool
asks_shelf c = is_filing (role_of c)

-- its reply and what it leaves depend on a text of the shelf
abbrev pub is_import : CommandTree → Bool
is_import (Tree.Import class file) = true
is_import _ = false
