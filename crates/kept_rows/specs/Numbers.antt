-- The number of a binding: the places of its objects in the lists of their classes' objects, in the mixed radix
-- of the classes' capacities. The last variable counts in ones.
use Rattle.std.specs.Prelude.{ℕ, ◌+◌, ◌*◌, ◌/◌, ◌%◌, ◌<◌, ◌==◌, ⊤, Bool, false, ◌&&◌, ◌||◌, nat_lt, List, [], ◌∷◌, ◌≤◌}
use Rattle.kept_rows.specs.declared.binding.Variable.{Variable}
use Rattle.kept_rows.specs.declared.binding.TheConstants.{BINDING_LIMIT}

-- how many numbers there are
abbrev pub size_of : List Variable → ℕ
size_of [] = 1
size_of (v ∷ vs) = v.capacity * size_of vs

-- the number of a list of places, one for each variable
abbrev pub number_of : List Variable → List ℕ → ℕ
number_of [] places = 0
number_of (v ∷ vs) [] = 0
number_of (v ∷ vs) (p ∷ ps) = p * size_of vs + number_of vs ps

-- the places of a number
abbrev pub places_of : List Variable → ℕ → List ℕ
places_of [] number = []
places_of (v ∷ vs) number = number / size_of vs ∷ places_of vs (number % size_of vs)

-- one place below its capacity for each variable
abbrev pub ArePlaces : List Variable → List ℕ → Type 0
ArePlaces [] [] = ⊤
ArePlaces [] (p ∷ ps) = ⊥
ArePlaces (v ∷ vs) [] = ⊥
ArePlaces (v ∷ vs) (p ∷ ps) = (p < v.capacity) × ArePlaces vs ps

-- whether a number is one of a binding: each of its places has an object
abbrev pub counts : List Variable → ℕ → Bool
counts [] number = number == 0
counts (v ∷ vs) number = nat_lt (number / size_of vs) v.count && counts vs (number % size_of vs)

-- whether some variable of the binding is the object that was written
abbrev pub holds_written : List Variable → ℕ → Bool
holds_written [] number = false
holds_written (v ∷ vs) number = (number / size_of vs == v.own) || holds_written vs (number % size_of vs)

-- so many bindings have numbers
abbrev pub IsBindingCount : ℕ → Type 0
IsBindingCount n = n ≤ BINDING_LIMIT
