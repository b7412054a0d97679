-- The objects of a class are stored.
use Rattle.std.proofs.Common.{ℕ, nat_lt, Bool, List}
use Rattle.std.specs.List.{list_all}

abbrev pub are_below : ℕ → List ℕ → Bool
are_below n ids = list_all (λ id. nat_lt id n) ids
