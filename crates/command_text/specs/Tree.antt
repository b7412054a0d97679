-- The tree of a command, without where its parts lie in memory: names and texts are their bytes, and numbers their thousandths.
use Rattle.std.specs.Prelude.{ℕ, ℤ, Bool, List, [], Option, Some, None}
use Rattle.fixed_point.specs.declared.number.Point.{Point}
use Rattle.motion.specs.declared.cell.AttrKind.{AttrKind}
use Rattle.motion.specs.declared.cell.NamedSet.{NamedSet}
use Rattle.motion.specs.declared.cell.Place.{Place}
use Rattle.motion.specs.Function.{Function}
use Rattle.ftl_parser.specs.Tree.{QueryTree, query_view}
use Rattle.command_text.specs.declared.placement.Moving.{Moving}
use Rattle.command_text.specs.declared.placement.Moving.TheVariants as movings
use Rattle.command_text.specs.declared.placement.Placement.{Placement}
use Rattle.command_text.specs.declared.command.Command.{Command}
use Rattle.command_text.specs.declared.command.Command.TheVariants as commands

pub data CommandTree : Type 0 where
  Nothing : CommandTree
  Listing : CommandTree
  Quit : CommandTree
  Class : List ℕ → ℕ → Bool → List (List ℕ × AttrKind) → CommandTree
  Region : List ℕ → List Point → CommandTree
  Insert : List ℕ → List ℕ → Place → List NamedSet → CommandTree
  Update : List ℕ → Place → List NamedSet → CommandTree
  Remove : List ℕ → CommandTree
  Tick : ℕ → CommandTree
  Ask : ℕ → QueryTree → CommandTree
  Watch : List ℕ → ℕ → QueryTree → CommandTree
  Keep : List ℕ → ℕ → QueryTree → CommandTree
  Show : List ℕ → CommandTree
  Drop : List ℕ → CommandTree
  Save : List ℕ → CommandTree
  Import : List ℕ → List ℕ → CommandTree
  Export : List ℕ → List ℕ → CommandTree
  Nearest : ℕ → ℕ → List ℕ → List ℕ → CommandTree
  Must : ℤ → ℕ → QueryTree → CommandTree
  May : ℤ → ℕ → QueryTree → CommandTree
  Index : List ℕ → List ℕ → ℤ → CommandTree
  Range : ℕ → List ℕ → List ℕ → ℤ → ℤ → CommandTree

-- the functions of x and of y that a command of the program gives, if it gives any
abbrev pub moving_view : Moving → Option (Function × Function)
moving_view movings.Unset = None
moving_view (movings.Steady x y) = Some (record { firsts = []; last = x }, record { firsts = []; last = y })
moving_view (movings.Turning both) = Some both.value

abbrev pub placement_view : Placement → Place
placement_view p = record { at = p.at; moving = moving_view p.moving }

-- the tree of a command of the program
abbrev pub command_view : Command → CommandTree
command_view commands.Nothing = Nothing
command_view commands.List = Listing
command_view commands.Quit = Quit
command_view (commands.Class name capacity point attrs) = Class name capacity point attrs
command_view (commands.Region name points) = Region name points
command_view (commands.Insert class name place sets) = Insert class name (placement_view place) sets
command_view (commands.Update name place sets) = Update name (placement_view place) sets
command_view (commands.Remove name) = Remove name
command_view (commands.Tick ticks) = Tick ticks
command_view (commands.Ask span q) = Ask span (query_view q)
command_view (commands.Watch name span q) = Watch name span (query_view q)
command_view (commands.Keep name span q) = Keep name span (query_view q)
command_view (commands.Show name) = Show name
command_view (commands.Drop name) = Drop name
command_view (commands.Save file) = Save file
command_view (commands.Import class file) = Import class file
command_view (commands.Export class file) = Export class file
command_view (commands.Nearest span k object class) = Nearest span k object class
command_view (commands.Must error span q) = Must error span (query_view q)
command_view (commands.May error span q) = May error span (query_view q)
command_view (commands.Index class attr width) = Index class attr width
command_view (commands.Range span class attr least greatest) = Range span class attr least greatest
