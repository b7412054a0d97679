-- How classes lie in a map: each by its name.
use Rattle.std.specs.Prelude.{◌≡◌, ℕ, List, map}
use Rattle.std.specs.Map.{keys_of, values_of}
use Rattle.history.specs.Catalog.{ClassInfo}
use Rattle.object_store.specs.Sound.{AreClasses}

pub record AreKeyed (entries : List (List ℕ × ClassInfo)) : Type 0 where
  pub named : keys_of entries ≡ map (λ k. k.name) (values_of entries)
  pub classes : AreClasses (values_of entries)
