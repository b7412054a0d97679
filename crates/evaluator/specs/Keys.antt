-- The keys of a list of variables, and bindings that have them.
use Rattle.std.specs.Prelude.{◌≡◌, ⊤, ℕ, ◌<◌, Bool, true, false, ◌==◌, ◌&&◌, Option, None, Some, unwrap_or, List, [], ◌∷◌, length, map, if◌then◌else◌}
use Rattle.std.specs.List.{list_all, list_any}
use Rattle.std.specs.Option.{option_map_or}
use Rattle.std.specs.Str.{bytes_eq}
use Rattle.meaning.specs.Reads.{choices}
use Rattle.relation.specs.Frames.{domain_size}
use Rattle.relation.specs.Key.{ids_of_variable, key_below, key_in}

-- each key is below all after it
abbrev pub AreAscendingKeys : List (List ℕ) → Type 0
AreAscendingKeys [] = ⊤
AreAscendingKeys (key ∷ keys) = (list_all (key_below key) keys ≡ true) × AreAscendingKeys keys

abbrev pub has_key : List (List ℕ) → List ℕ → Bool
has_key keys key = list_any (λ k. bytes_eq k key) keys

-- all keys of the variables, ascending
pub record AreKeys (domains : List (List ℕ)) (vars : List ℕ) (keys : List (List ℕ)) : Type 0 where
  pub ascend : AreAscendingKeys keys
  pub inside : list_all (key_in domains vars) keys ≡ true
  pub all : (key : List ℕ) → key_in domains vars key ≡ true → has_key keys key ≡ true
  pub count : length keys ≡ choices (domain_size domains) vars

-- the object that a key has for a variable
abbrev pub object_in : List ℕ → List ℕ → ℕ → Option ℕ
object_in [] key var = None
object_in (v ∷ vars) [] var = None
object_in (v ∷ vars) (id ∷ key) var = if v == var then Some id else object_in vars key var

-- an assignment by place that gives the variables the objects of a key, and the others object 0
abbrev pub binding_of : List ℕ → List ℕ → List ℕ
binding_of vars key = map (λ v. unwrap_or (object_in vars key v) 0) (0 ∷ 1 ∷ 2 ∷ 3 ∷ [])

-- whether these are the first one or two variables in their order
abbrev pub are_first : List ℕ → Bool
are_first [] = false
are_first (a ∷ []) = a == 0
are_first (a ∷ b ∷ []) = (a == 0) && (b == 1)
are_first (a ∷ b ∷ c ∷ vars) = false

-- the objects of a variable where those of a key have the object of the key alone
abbrev pub narrowed_ids : List (List ℕ) → List ℕ → List ℕ → ℕ → List ℕ
narrowed_ids domains vars key v = option_map_or (λ id. id ∷ []) (object_in vars key v) (ids_of_variable domains v)

-- domains narrowed to a key
pub record AreNarrowed (old : List (List ℕ)) (vars key : List ℕ) (new : List (List ℕ)) : Type 0 where
  pub many : length new ≡ length old
  pub ids : (v : ℕ) → v < length old → ids_of_variable new v ≡ narrowed_ids old vars key v
