-- When rows are exactly those of a query, and what an insert adds to bindings.
use Rattle.std.specs.Prelude.{◌≡◌, ℕ, ◌==◌, ⊤, Bool, not, ◌&&◌, nat_lt, List, [], ◌∷◌}
use Rattle.kept_rows.specs.declared.binding.Variable.{Variable}

-- the row of each binding has the ticks at which it is full, and no other number has a tick
abbrev pub AreFullRows : (ℕ → ℕ → Bool) → (ℕ → Bool) → (ℕ → ℕ → Bool) → Type 0
AreFullRows rows counts full = (c t : ℕ) → rows c t ≡ (counts c && full c t)

-- each variable of the object's class has one place more, that of the object, and each other has as many as before
abbrev pub HaveOneMore : List Variable → List Variable → Type 0
HaveOneMore [] [] = ⊤
HaveOneMore [] (w ∷ ws) = ⊥
HaveOneMore (v ∷ vs) [] = ⊥
HaveOneMore (v ∷ vs) (w ∷ ws) = (w.capacity ≡ v.capacity) × ((place : ℕ) → nat_lt place v.count ≡ (nat_lt place w.count && not (place == w.own))) × HaveOneMore vs ws
