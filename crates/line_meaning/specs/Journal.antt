-- What a journal tells: what was written, and the regions.
use Rattle.std.specs.Prelude.{ℕ, List, [], ◌∷◌, map, flat_map}
use Rattle.motion.specs.declared.cell.AttrKind.{AttrKind}
use Rattle.geometry.specs.Region.{Region}
use Rattle.history.specs.Write.{Attribute, Write, Class, Insert, Update, Remove}
use Rattle.history.specs.World.{World, world_of}
use Rattle.command_text.specs.Tree
use Rattle.command_text.specs.Tree.{CommandTree}
use Rattle.command_text.specs.Journal.{Accepted}

abbrev pub attribute_of : List ℕ × AttrKind → Attribute
attribute_of a = record { name = a.0; kind = a.1 }

-- what a command accepted at a tick writes
abbrev pub writes_of : ℕ → CommandTree → List Write
writes_of tick (Tree.Class name capacity point attrs) = Class name capacity point (map attribute_of attrs) ∷ []
writes_of tick (Tree.Insert class name place sets) = Insert tick class name place sets ∷ []
writes_of tick (Tree.Update name place sets) = Update tick name place sets ∷ []
writes_of tick (Tree.Remove name) = Remove tick name ∷ []
writes_of tick _ = []

-- the region that a command makes
abbrev pub regions_of : CommandTree → List Region
regions_of (Tree.Region name points) = record { name = name; points = points } ∷ []
regions_of _ = []

abbrev pub writes : List Accepted → List Write
writes journal = flat_map (λ e. writes_of e.0 e.1) journal

abbrev pub regions : List Accepted → List Region
regions journal = flat_map (λ e. regions_of e.1) journal

-- what a query may ask of
abbrev pub world : List Accepted → World
world journal = world_of (writes journal) (regions journal)
