-- The variables of a registered query in the order of its numbers, and the objects that a number gives them.
use Rattle.std.specs.Prelude.{◌≡◌, ⊤, ℕ, ◌/◌, ◌%◌, ◌==◌, Bool, false, not, ◌&&◌, ◌||◌, nat_lt, List, [], ◌∷◌, ◌++◌, length, map, slice_index, slice_index_or, if◌then◌else◌}
use Rattle.std.specs.List.{list_any}
use Rattle.history.specs.Catalog.{Catalog, capacity_of, ids_of}
use Rattle.formula.specs.Tree.{ResolvedQuery}
use Rattle.formula.specs.Variables.{variables_in}
use Rattle.kept_rows.specs.declared.binding.Variable.{Variable}
use Rattle.kept_rows.specs.Numbers.{size_of}

-- a variable, by its place in FROM, how many objects there are of its class and may be, and the objects
pub record Column : Type 0 where
  pub variable : ℕ
  pub numbers : Variable
  pub ids : List ℕ

abbrev pub column_variables : List Column → List Variable
column_variables columns = map (λ c. c.numbers) columns

-- the object that the binding of a number gives a variable; a place past the last is that of an object that is added
abbrev pub object_or : ℕ → List Column → ℕ → ℕ → ℕ
object_or added [] number variable = 0
object_or added (c ∷ cs) number variable =
    if variable == c.variable
    then slice_index_or c.ids (number / size_of (column_variables cs)) added
    else object_or added cs (number % size_of (column_variables cs)) variable

-- that of a binding of the objects that are there
abbrev pub object_at_number : List Column → ℕ → ℕ → ℕ
object_at_number columns = object_or 0 columns

-- whether it gives some variable this object
abbrev pub gives : List Column → ℕ → ℕ → Bool
gives [] id number = false
gives (c ∷ cs) id number =
    slice_index c.ids (number / size_of (column_variables cs)) == id || gives cs id (number % size_of (column_variables cs))

-- whether a column is of this variable
abbrev pub columns_have : List Column → ℕ → Bool
columns_have columns v = list_any (λ c. c.variable == v) columns

-- the targets, and then the other variables in their order
abbrev pub order_of : ResolvedQuery → List ℕ
order_of q =
    q.targets ++ variables_in (λ v. nat_lt v (length q.classes) && not (list_any (λ u. u == v) q.targets))

-- the objects of each column are those of its variable's class
abbrev pub HaveObjectsOf : Catalog → List ℕ → List Column → Type 0
HaveObjectsOf catalog classes [] = ⊤
HaveObjectsOf catalog classes (c ∷ cs) =
    (c.ids ≡ ids_of catalog (slice_index classes c.variable)) × HaveObjectsOf catalog classes cs

-- there may be as many objects in each column as in its variable's class
abbrev pub HaveCapacitiesOf : Catalog → List ℕ → List Column → Type 0
HaveCapacitiesOf catalog classes [] = ⊤
HaveCapacitiesOf catalog classes (c ∷ cs) =
    (c.numbers.capacity ≡ capacity_of catalog.classes (slice_index classes c.variable)) × HaveCapacitiesOf catalog classes cs

-- a column is that of a variable, with all objects of its class
pub record IsColumnOf (catalog : Catalog) (classes : List ℕ) (v : ℕ) (c : Column) : Type 0 where
  pub variable : c.variable ≡ v
  pub counted : c.numbers.count ≡ length c.ids
  pub objects : c.ids ≡ ids_of catalog (slice_index classes v)
  pub capacity : c.numbers.capacity ≡ capacity_of catalog.classes (slice_index classes v)

-- those of some variables
abbrev pub AreColumnsOf : Catalog → List ℕ → List ℕ → List Column → Type 0
AreColumnsOf catalog classes [] [] = ⊤
AreColumnsOf catalog classes [] (c ∷ cs) = ⊥
AreColumnsOf catalog classes (v ∷ vs) [] = ⊥
AreColumnsOf catalog classes (v ∷ vs) (c ∷ cs) = IsColumnOf catalog classes v c × AreColumnsOf catalog classes vs cs

-- each column has as many objects as it says
abbrev pub AreCounted : List Column → Type 0
AreCounted [] = ⊤
AreCounted (c ∷ cs) = (c.numbers.count ≡ length c.ids) × AreCounted cs

-- the same variables and capacities
abbrev pub AreSameColumns : List Column → List Column → Type 0
AreSameColumns [] [] = ⊤
AreSameColumns [] (d ∷ ds) = ⊥
AreSameColumns (c ∷ cs) [] = ⊥
AreSameColumns (c ∷ cs) (d ∷ ds) =
    (d.variable ≡ c.variable) × (d.numbers.capacity ≡ c.numbers.capacity) × AreSameColumns cs ds
