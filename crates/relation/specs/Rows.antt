-- The rows of a relation.
use Rattle.std.specs.Prelude.{◌≡◌, ⊤, ℕ, Bool, true, false, ◌&&◌, List, [], ◌∷◌, map, drop}
use Rattle.std.specs.List.{list_any, list_all}
use Rattle.std.specs.Str.{bytes_eq}
use Rattle.tick_set.specs.Ticks.{LiesIn}
use Rattle.relation.specs.declared.row.Row.{Row}
use Rattle.formula.specs.Resolved.{are_distinct}
use Rattle.relation.specs.Key.{are_known, key_below, key_in}

-- whether a row of this key has the tick
abbrev pub has_at : {S : Type 0} → (S → ℕ → Bool) → List (Row S) → List ℕ → ℕ → Bool
has_at member rows key t = list_any (λ r. bytes_eq r.key key && member r.set t) rows

-- what a contract sees of a relation
pub record Table (S : Type 0) : Type 0 where
  pub vars : List ℕ
  pub domains : List (List ℕ)
  pub lo : ℕ
  pub hi : ℕ
  pub rows : List (Row S)

abbrev pub table : {S : Type 0} → List ℕ → List (List ℕ) → ℕ → ℕ → List (Row S) → Table S
table vars domains lo hi rows = record { vars = vars; domains = domains; lo = lo; hi = hi; rows = rows }

-- whether the binding that an assignment of objects to variables gives has the tick
abbrev pub table_has : {S : Type 0} → (S → ℕ → Bool) → Table S → (ℕ → ℕ) → ℕ → Bool
table_has member r b t = has_at member r.rows (map b r.vars) t

-- a row gives the variables, which begin at a place of its key, objects of their domains, and it has a tick, and ticks
-- of lo to hi alone
pub record IsRow {S : Type 0} (member : S → ℕ → Bool) (domains : List (List ℕ)) (vars : List ℕ) (lo hi place : ℕ) (r : Row S) : Type 0 where
  pub inside : key_in domains vars (drop place r.key) ≡ true
  pub lies : LiesIn lo hi (member r.set)
  pub some : ((t : ℕ) → member r.set t ≡ false) → ⊥

-- such rows, whose keys ascend from the place on
abbrev pub AreRows : {S : Type 0} → (S → ℕ → Bool) → List (List ℕ) → List ℕ → ℕ → ℕ → ℕ → List (Row S) → Type 0
AreRows member domains vars lo hi place [] = ⊤
AreRows member domains vars lo hi place (r ∷ rest) =
    IsRow member domains vars lo hi place r
    × (list_all (λ s. key_below (drop place r.key) (drop place s.key)) rest ≡ true)
    × AreRows member domains vars lo hi place rest

-- what each relation is: its variables are distinct and have domains, its keys ascend, and its rows have ticks of the
-- window
pub record IsTable {S : Type 0} (member : S → ℕ → Bool) (r : Table S) : Type 0 where
  pub known : are_known r.domains r.vars ≡ true
  pub distinct : are_distinct r.vars ≡ true
  pub rows : AreRows member r.domains r.vars r.lo r.hi 0 r.rows

-- all but the rows
pub record IsSameHead {S : Type 0} (old new : Table S) : Type 0 where
  pub vars : new.vars ≡ old.vars
  pub domains : new.domains ≡ old.domains
  pub lo : new.lo ≡ old.lo
  pub hi : new.hi ≡ old.hi
