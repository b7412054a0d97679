-- Relations that get rows.
use Rattle.std.specs.Prelude.{◌≡◌, ℕ, Bool, true, ◌&&◌, ◌||◌, List, ◌∷◌, map}
use Rattle.std.specs.List.{list_all}
use Rattle.evaluator.specs.Keys.{has_key}
use Rattle.relation.specs.Rows.{IsSameHead, Table, has_at}

-- keys behind one more object
abbrev pub keys_behind : ℕ → List (List ℕ) → List (List ℕ)
keys_behind id keys = map (λ key. id ∷ key) keys

-- the rows of some keys came to a relation, each with the ticks at which something is true of its key
pub record IsFilled {S : Type 0} (member : S → ℕ → Bool) (truth : List ℕ → ℕ → Bool) (keys : List (List ℕ)) (old new : Table S) : Type 0 where
  pub head : IsSameHead old new
  pub ticks : (k : List ℕ) (t : ℕ) → has_at member new.rows k t ≡ (has_at member old.rows k t || (has_key keys k && truth k t))
  pub upto : (p : List ℕ → Bool) → list_all (λ r. p r.key) old.rows ≡ true → list_all p keys ≡ true → list_all (λ r. p r.key) new.rows ≡ true
