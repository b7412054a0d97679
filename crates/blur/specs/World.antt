-- What a store and its regions tell of atoms and terms, where positions may be off.
use Rattle.std.specs.Prelude.{ℕ, List}
use Rattle.atoms.specs.Asked.{world_in}
use Rattle.geometry.specs.Region.{Region}
use Rattle.meaning.specs.Satisfaction.{Interpretation}
use Rattle.object_store.specs.Contents.{Contents}
use Rattle.worlds.specs.Blurred.{blurred}
use Rattle.blur.specs.declared.question.Blur.{Blur}

-- what they tell where an assignment gives each variable an object
abbrev pub blurred_by : Blur → Contents → List Region → (ℕ → ℕ) → Interpretation
blurred_by blur s regions b = blurred blur.sure blur.error (world_in s regions) b
