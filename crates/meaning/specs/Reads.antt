-- How many looks at the timelines of objects a query may take, by the number of objects of each variable.
use Rattle.std.specs.Prelude.{ℕ, ◌+◌, ◌-◌, ◌*◌, ◌==◌, nat_le, List, [], ◌∷◌, length, sum_by, slice_index, if◌then◌else◌}
use Rattle.std.specs.List.{list_any}
use Rattle.tick_set.specs.Ticks.{between}
use Rattle.history.specs.Catalog.{Catalog, ids_of}
use Rattle.formula_shape.specs.Shape as shapes
use Rattle.formula.specs.declared.tree.RAtom.{RAtom}
use Rattle.formula.specs.declared.tree.RTerm.{RTerm}
use Rattle.formula.specs.Tree.{ResolvedQuery, ResolvedTree}
use Rattle.formula.specs.Variables.{atom_has, term_has, variables_in}
use Rattle.meaning.specs.Registered.{RegisteredQuery}

-- how many choices of an object for each of these variables there are
abbrev pub choices : (ℕ → ℕ) → List ℕ → ℕ
choices size [] = 1
choices size (v ∷ vs) = size v * choices size vs

-- the sizes where each of these variables has one object
abbrev pub made_single : (ℕ → ℕ) → List ℕ → ℕ → ℕ
made_single size vs v = if list_any (λ u. u == v) vs then 1 else size v

-- one look for each variable, for each choice of their objects
abbrev pub looks : (ℕ → ℕ) → List ℕ → ℕ
looks size vs = choices size vs * length vs

abbrev pub atom_variables : RAtom → List ℕ
atom_variables a = variables_in (λ v. atom_has v a)

abbrev pub term_variables : RTerm → List ℕ
term_variables q = variables_in (λ v. term_has v q)

-- what a formula may take over so many ticks. An assignment asks for its term once for each choice of its objects, and
-- for its part at most once for each such choice and tick.
abbrev pub reads : (ℕ → ℕ) → ℕ → ResolvedTree → ℕ
reads size ticks (shapes.Truth b) = 0
reads size ticks (shapes.Atom a) = looks size (atom_variables a)
reads size ticks (shapes.Not f) = reads size ticks f
reads size ticks (shapes.And f g) = reads size ticks f + reads size ticks g
reads size ticks (shapes.Or f g) = reads size ticks f + reads size ticks g
reads size ticks (shapes.Next f) = reads size ticks f
reads size ticks (shapes.Eventually f) = reads size ticks f
reads size ticks (shapes.Always f) = reads size ticks f
reads size ticks (shapes.Bounded form c f) = reads size ticks f
reads size ticks (shapes.Until form c f g) = reads size ticks f + reads size ticks g
reads size ticks (shapes.Assign (d, q) f) =
    choices size (term_variables q)
    * (length (term_variables q) + ticks * reads (made_single size (term_variables q)) ticks f)

-- and once more for each object of each variable, whose presence is asked
abbrev pub query_reads : (ℕ → ℕ) → ℕ → ResolvedQuery → ℕ
query_reads size ticks q = reads size ticks q.formula + sum_by size (between 0 (length q.classes))

-- the numbers of objects that a catalog gives the variables
abbrev pub sizes_of : Catalog → ResolvedQuery → ℕ → ℕ
sizes_of c q v = length (ids_of c (slice_index q.classes v))

-- what a change of one object of a class may take: for each variable of the class, that of the query with this object
-- alone
abbrev pub change_reads : Catalog → ResolvedQuery → ℕ → ℕ → ℕ
change_reads c q ticks class =
    sum_by
    (λ v. if slice_index q.classes v == class then query_reads (made_single (sizes_of c q) (v ∷ [])) ticks q else 0)
    (between 0 (length q.classes))

-- how many a write to an object of a class may take for one query, up to its expiry
abbrev pub renewal_reads : Catalog → ℕ → ℕ → RegisteredQuery → ℕ
renewal_reads c now class r = if nat_le now r.expiry then change_reads c r.query (r.expiry + 1 - r.entry) class else 0

-- and for all of them
abbrev pub write_reads : Catalog → List RegisteredQuery → ℕ → ℕ → ℕ
write_reads c queries now class = sum_by (renewal_reads c now class) queries
