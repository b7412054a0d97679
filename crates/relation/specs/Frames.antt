-- What relations over the same domains and window share.
use Rattle.std.specs.Prelude.{◌≡◌, ◌<◌, ◌||◌, ℕ, Bool, true, List, length, map}
use Rattle.std.specs.Str.{bytes_eq}
use Rattle.formula.specs.Variables.{variables_in}
use Rattle.relation.specs.Key.{has_id, ids_of_variable}
use Rattle.relation.specs.Rows.{Table}

-- the domains, and the first and last tick of the window
pub record Frame : Type 0 where
  pub domains : List (List ℕ)
  pub lo : ℕ
  pub hi : ℕ

abbrev pub frame_of : List (List ℕ) → ℕ → ℕ → Frame
frame_of domains lo hi = record { domains = domains; lo = lo; hi = hi }

abbrev pub frame : {S : Type 0} → Table S → Frame
frame r = frame_of r.domains r.lo r.hi

-- an assignment of objects to variables gives each variable with a domain one of it
abbrev pub IsIn : List (List ℕ) → (ℕ → ℕ) → Type 0
IsIn domains b = (var : ℕ) → var < length domains → has_id (ids_of_variable domains var) (b var) ≡ true

-- how many objects a variable ranges over
abbrev pub domain_size : List (List ℕ) → ℕ → ℕ
domain_size domains var = length (ids_of_variable domains var)

-- whether an assignment gives the variables the objects of a key
abbrev pub agrees : List ℕ → List ℕ → (ℕ → ℕ) → Bool
agrees vars key b = bytes_eq key (map b vars)

-- the variables of two lists, ascending and each once
abbrev pub vars_of_both : List ℕ → List ℕ → List ℕ
vars_of_both us vs = variables_in (λ v. has_id us v || has_id vs v)

-- domains with as many variables, and for each one at least the same objects
pub record IsWider (old new : List (List ℕ)) : Type 0 where
  pub many : length new ≡ length old
  pub all : (var id : ℕ) → has_id (ids_of_variable old var) id ≡ true → has_id (ids_of_variable new var) id ≡ true

-- two relations are over the same domains and window
abbrev pub SameFrame : {S : Type 0} → Table S → Table S → Type 0
SameFrame r q = frame r ≡ frame q

-- a relation is over these domains, from the one tick to the other
abbrev pub HasFrame : {S : Type 0} → Table S → List (List ℕ) → (lo hi : ℕ) → Type 0
HasFrame r domains lo hi = frame r ≡ frame_of domains lo hi

-- it holds of each object that a variable ranges over
abbrev pub EachObjectOf : List (List ℕ) → ℕ → (ℕ → Type 0) → Type 0
EachObjectOf domains var P = (id : ℕ) → has_id (ids_of_variable domains var) id ≡ true → P id
