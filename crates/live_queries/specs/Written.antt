-- The columns of a query and the relations that its bindings are judged by, where one object was written.
use Rattle.std.specs.Prelude.{◌≡◌, ⊤, ℕ, ◌<◌, ◌==◌, Bool, false, ◌&&◌, nat_lt, List, [], ◌∷◌, ◌++◌, length, map, slice_index, if◌then◌else◌}
use Rattle.std.specs.List.Sorted.{IsStrictlyIncreasing}
use Rattle.tick_set.specs.Runs.{spans_have}
use Rattle.tick_set.specs.Ticks.{between, within}
use Rattle.history.specs.Catalog.{Catalog, ids_of}
use Rattle.history.specs.World.{World}
use Rattle.formula.specs.Tree.{ResolvedQuery}
use Rattle.kept_rows.specs.declared.binding.Variable.{Variable}
use Rattle.meaning.specs.Binding.{holds_full}
use Rattle.relation.specs.Frames.{IsIn}
use Rattle.relation.specs.Rows.{table_has}
use Rattle.live_queries.specs.declared.parts.Part.{Part}
use Rattle.live_queries.specs.declared.parts.Single.{Single}
use Rattle.live_queries.specs.Columns.{Column}
use Rattle.live_queries.specs.Prepared.{is_of_class}

-- the objects of a column, with the one that is written if the column takes it
abbrev pub ids_with : Bool → ℕ → Column → List ℕ
ids_with takes_object id c = if takes_object then c.ids ++ id ∷ [] else c.ids

-- how many there are then, and the place of the object among them
pub record IsVariableWith (takes_object : Bool) (id : ℕ) (c : Column) (v : Variable) : Type 0 where
  pub count : v.count ≡ length (ids_with takes_object id c)
  pub capacity : v.capacity ≡ c.numbers.capacity
  pub own : (p : ℕ) → p < v.count → (p == v.own) ≡ (slice_index (ids_with takes_object id c) p == id)

-- whether a column takes the object: it is of the object's class, which has one more
abbrev pub takes_object : Bool → ℕ → List ℕ → Column → Bool
takes_object grows class classes c = grows && is_of_class classes class c.variable

abbrev pub AreVariablesWith : Bool → ℕ → List ℕ → ℕ → List Column → List Variable → Type 0
AreVariablesWith grows class classes id [] [] = ⊤
AreVariablesWith grows class classes id [] (v ∷ vs) = ⊥
AreVariablesWith grows class classes id (c ∷ cs) [] = ⊥
AreVariablesWith grows class classes id (c ∷ cs) (v ∷ vs) =
    IsVariableWith (takes_object grows class classes c) id c v × AreVariablesWith grows class classes id cs vs

abbrev pub DoAscendWith : Bool → ℕ → List ℕ → ℕ → List Column → Type 0
DoAscendWith grows class classes id [] = ⊤
DoAscendWith grows class classes id (c ∷ cs) =
    IsStrictlyIncreasing (ids_with (takes_object grows class classes c) id c) × DoAscendWith grows class classes id cs

-- each column has then the objects of its variable's class
abbrev pub HaveObjectsWith : Catalog → Bool → ℕ → List ℕ → ℕ → List Column → Type 0
HaveObjectsWith catalog grows class classes id [] = ⊤
HaveObjectsWith catalog grows class classes id (c ∷ cs) =
    (ids_with (takes_object grows class classes c) id c ≡ ids_of catalog (slice_index classes c.variable))
    × HaveObjectsWith catalog grows class classes id cs

-- whether a column of the class has fewer objects than there are
abbrev pub lacks_objects : List ℕ → ℕ → ℕ → Column → Bool
lacks_objects classes class count c = is_of_class classes class c.variable && nat_lt (length c.ids) count

-- ---- relations in which one variable is the object alone

-- the objects of variable u, where variable v is the object alone
abbrev pub ids_for : Catalog → List ℕ → ℕ → ℕ → ℕ → List ℕ
ids_for catalog classes id v u = if v == u then id ∷ [] else ids_of catalog (slice_index classes u)

abbrev pub domains_for : Catalog → List ℕ → ℕ → ℕ → List (List ℕ)
domains_for catalog classes id v = map (ids_for catalog classes id v) (between 0 (length classes))

-- one of them for a variable of the object's class
abbrev pub single_for : Catalog → List ℕ → ℕ → ℕ → ℕ → List Single
single_for catalog classes class id v =
    if is_of_class classes class v
    then record { variable = v; domains = domains_for catalog classes id v } ∷ []
    else []

-- its relation has the ticks of the window at which a binding of its objects satisfies the query
pub record IsPartOf (w : World) (q : ResolvedQuery) (lo hi : ℕ) (s : Single) (p : Part) : Type 0 where
  pub variable : p.variable ≡ s.variable
  pub rows : (b : ℕ → ℕ) → IsIn s.domains b → (t : ℕ) →
      table_has spans_have p.rows b t ≡ (within lo hi t && holds_full w q hi b t)

abbrev pub ArePartsOf : World → ResolvedQuery → ℕ → ℕ → List Single → List Part → Type 0
ArePartsOf w q lo hi [] [] = ⊤
ArePartsOf w q lo hi [] (p ∷ ps) = ⊥
ArePartsOf w q lo hi (s ∷ ss) [] = ⊥
ArePartsOf w q lo hi (s ∷ ss) (p ∷ ps) = IsPartOf w q lo hi s p × ArePartsOf w q lo hi ss ps

-- whether the relation of the first variable that is the object has the tick
abbrev pub parts_have : List Part → ℕ → (ℕ → ℕ) → ℕ → Bool
parts_have [] id b t = false
parts_have (p ∷ ps) id b t = if b p.variable == id then table_has spans_have p.rows b t else parts_have ps id b t
