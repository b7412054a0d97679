-- Relations that are put together.
use Rattle.std.specs.Prelude.{◌≡◌, ⊤, ℕ, Bool, List, [], ◌∷◌}
use Rattle.std.specs.List.{list_any}
use Rattle.relation.specs.Frames.{frame, frame_of}
use Rattle.relation.specs.Rows.{Table, table_has}

-- they are over these variables, with these domains and this window
abbrev pub ShareFrame : {S : Type 0} → List ℕ → List (List ℕ) → ℕ → ℕ → List (Table S) → Type 0
ShareFrame vars domains lo hi [] = ⊤
ShareFrame vars domains lo hi (r ∷ rest) =
    (r.vars ≡ vars) × (frame r ≡ frame_of domains lo hi) × ShareFrame vars domains lo hi rest

-- whether one of them has the tick
abbrev pub some_part_has : {S : Type 0} → (S → ℕ → Bool) → List (Table S) → (ℕ → ℕ) → ℕ → Bool
some_part_has member parts b t = list_any (λ r. table_has member r b t) parts
