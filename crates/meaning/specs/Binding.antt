-- Bindings of objects to variables, and the ticks at which they and the targets satisfy a query.
use Rattle.std.specs.Prelude.{ℕ, Bool, ◌&&◌, is_some, List, [], ◌∷◌, length, map, flat_map, slice_index}
use Rattle.std.specs.List.{list_all, list_any}
use Rattle.std.specs.Str.{bytes_eq}
use Rattle.tick_set.specs.Ticks.{between}
use Rattle.history.specs.Catalog.{ids_of}
use Rattle.history.specs.World.{World}
use Rattle.formula.specs.Tree.{ResolvedQuery}
use Rattle.formula.specs.Value.{no_values}
use Rattle.meaning.specs.Trace.{trace_of}
use Rattle.meaning.specs.Satisfaction.{Interpretation, plain, sat}

-- every list that has one member of each of these lists, those of the first list in its order, and so on
abbrev pub product : List (List ℕ) → List (List ℕ)
product [] = [] ∷ []
product (xs ∷ lists) = flat_map (λ x. map (λ later. x ∷ later) (product lists)) xs

-- each choice of an object, by its number, for each variable; two variables may have one object
abbrev pub bindings : World → ResolvedQuery → List (List ℕ)
bindings w q = product (map (ids_of w.history.catalog) q.classes)

-- the same for the targets alone
abbrev pub tuples : World → ResolvedQuery → List (List ℕ)
tuples w q = product (map (λ v. ids_of w.history.catalog (slice_index q.classes v)) q.targets)

-- the objects that a binding gives the targets
abbrev pub tuple_of : ResolvedQuery → List ℕ → List ℕ
tuple_of q b = map (slice_index b) q.targets

-- all objects of the variables are present
abbrev pub are_present : World → ResolvedQuery → (ℕ → ℕ) → ℕ → Bool
are_present w q b t = list_all (λ v. is_some (trace_of w.history b v t)) (between 0 (length q.classes))

-- whether all objects of a binding are present at a tick and the formula holds, by what an interpretation tells of them
abbrev pub holds_by : ((ℕ → ℕ) → Interpretation) → World → ResolvedQuery → ℕ → (ℕ → ℕ) → ℕ → Bool
holds_by j w q e b t = are_present w q b t && sat (j b) q.formula no_values e t

-- whether a binding satisfies the query at a tick
abbrev pub holds_full : World → ResolvedQuery → ℕ → (ℕ → ℕ) → ℕ → Bool
holds_full w q e = holds_by (λ b. plain w.regions (trace_of w.history b)) w q e

-- whether some binding that gives the targets these objects passes a test at a tick
abbrev pub target_where : World → ResolvedQuery → ((ℕ → ℕ) → ℕ → Bool) → List ℕ → ℕ → Bool
target_where w q holds key t =
    list_any (λ b. bytes_eq (tuple_of q b) key && holds (slice_index b) t) (bindings w q)

-- whether some binding that gives the targets these objects satisfies the query
abbrev pub holds_target : World → ResolvedQuery → ℕ → List ℕ → ℕ → Bool
holds_target w q e = target_where w q (holds_full w q e)
