-- The sizes and numbers of a command that was read, as far as the database relies on them.
use Rattle.std.specs.Prelude.{◌<◌, ◌≤◌, unsigned_abs, length}
use Rattle.object_store.specs.Changes.{AreGiven}
use Rattle.motion.specs.declared.limits.TheConstants.{ATTRIBUTE_LIMIT, CAPACITY_LIMIT}
use Rattle.geometry.specs.declared.limits.TheConstants.{LEAST_VERTICES, RADIUS_LIMIT, VERTEX_LIMIT}
use Rattle.tick_set.specs.declared.spans.TheConstants.{LAST_TICK}
use Rattle.ftl_parser.specs.Lawful.{IsLawful}
use Rattle.command_text.specs.Tree
use Rattle.command_text.specs.Tree.{CommandTree}

abbrev pub IsReadyCommand : CommandTree → Type 0
IsReadyCommand (Tree.Class name capacity point attributes) = (0 < capacity) × (capacity ≤ CAPACITY_LIMIT) × (length attributes ≤ ATTRIBUTE_LIMIT)
IsReadyCommand (Tree.Region name points) = (LEAST_VERTICES ≤ length points) × (length points ≤ VERTEX_LIMIT)
IsReadyCommand (Tree.Insert class name place sets) = AreGiven place sets
IsReadyCommand (Tree.Update name place sets) = AreGiven place sets
IsReadyCommand (Tree.Tick ticks) = ticks ≤ LAST_TICK
IsReadyCommand (Tree.Ask span q) = (span ≤ LAST_TICK) × IsLawful q
IsReadyCommand (Tree.Watch name span q) = (span ≤ LAST_TICK) × IsLawful q
IsReadyCommand (Tree.Keep name span q) = (span ≤ LAST_TICK) × IsLawful q
IsReadyCommand (Tree.Nearest span k object class) = span ≤ LAST_TICK
IsReadyCommand (Tree.Must error span q) = (unsigned_abs error ≤ RADIUS_LIMIT) × (span ≤ LAST_TICK) × IsLawful q
IsReadyCommand (Tree.May error span q) = (unsigned_abs error ≤ RADIUS_LIMIT) × (span ≤ LAST_TICK) × IsLawful q
IsReadyCommand _ = Unit {0}
