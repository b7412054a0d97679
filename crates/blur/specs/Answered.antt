-- A query where positions may be off, and in each world.
use Rattle.std.specs.Prelude.{◌≡◌, ℕ, Bool, true, List}
use Rattle.atoms.specs.Asked.{world_in}
use Rattle.formula.specs.Tree.{ResolvedQuery}
use Rattle.history.specs.World.{World}
use Rattle.meaning.specs.Binding.{holds_by}
use Rattle.worlds.specs.Moved.{Move, in_world, is_world}
use Rattle.blur.specs.World.{blurred_by}
use Rattle.blur.specs.declared.objects.BlurredWorld.{BlurredWorld}

-- what a store and its regions tell
abbrev pub told_in : BlurredWorld → World
told_in x = world_in x.store.now x.regions.now

-- whether all objects of an assignment are present and the formula holds, surely or possibly
abbrev pub holds_blurred : BlurredWorld → ResolvedQuery → ℕ → (ℕ → ℕ) → ℕ → Bool
holds_blurred x = holds_by (blurred_by x.blur x.store.now x.regions.now) (told_in x)

-- whether they are, and it holds, in the world of these moves
abbrev pub holds_moved : List Move → BlurredWorld → ResolvedQuery → ℕ → (ℕ → ℕ) → ℕ → Bool
holds_moved moves x = holds_by (in_world moves (told_in x)) (told_in x)

-- it does so in each world in which no object is off by more than the error
abbrev pub HoldsInEachWorld : BlurredWorld → ResolvedQuery → ℕ → (ℕ → ℕ) → ℕ → Type 0
HoldsInEachWorld x q e b t = (moves : List Move) → is_world x.blur.error moves ≡ true → holds_moved moves x q e b t ≡ true
