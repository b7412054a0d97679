-- Writes as a session accepts them, as far as the sizes and kinds of states depend on it.
use Rattle.std.specs.Prelude.{ℕ, ◌==◌, unsigned_abs, Bool, false, true, ◌&&◌, nat_le, List, [], ◌∷◌, ◌++◌}
use Rattle.std.specs.List.{list_all}
use Rattle.std.specs.Option.{option_map_or}
use Rattle.fixed_point.specs.declared.number.TheConstants.{READ_LIMIT}
use Rattle.motion.specs.Cells.{place_sets}
use Rattle.motion.specs.declared.cell.Given.{Given}
use Rattle.motion.specs.declared.cell.Given.TheVariants as givens
use Rattle.motion.specs.declared.cell.NamedSet.{NamedSet}
use Rattle.motion.specs.declared.cell.Place.{Place}
use Rattle.history.specs.Catalog.{Catalog, catalog_after, number_of_class, object_of}
use Rattle.history.specs.Write.{Write, Class, Insert, Remove, Update}
use Rattle.meaning.specs.Reachable.{is_slow}

-- numbers and slopes within what is read
abbrev pub is_given : Given → Bool
is_given (givens.Num n) = nat_le (unsigned_abs n) READ_LIMIT
is_given (givens.Text s) = true
is_given (givens.Rate f) = is_slow f
is_given (givens.Both n f) = nat_le (unsigned_abs n) READ_LIMIT && is_slow f

abbrev pub are_given : Place → List NamedSet → Bool
are_given place sets = list_all (λ set. is_given set.given) (place_sets place ++ sets)

-- the class is there, and the object of the name, where there is one, is of it
abbrev pub is_own_class : Catalog → List ℕ → List ℕ → Bool
is_own_class c class name =
    option_map_or
    (λ number. option_map_or (λ o. number == o.class) (object_of c name) true)
    (number_of_class c class) false

-- after writes up to tick `last`, which made the catalog c
abbrev pub is_accepted : Catalog → ℕ → Write → Bool
is_accepted c last (Class name capacity point attributes) = true
is_accepted c last (Insert s class name place sets) =
    nat_le last s && (are_given place sets && is_own_class c class name)
is_accepted c last (Update s name place sets) = nat_le last s && are_given place sets
is_accepted c last (Remove s name) = nat_le last s

abbrev pub tick_after : ℕ → Write → ℕ
tick_after last (Class name capacity point attributes) = last
tick_after last (Insert s class name place sets) = s
tick_after last (Update s name place sets) = s
tick_after last (Remove s name) = s

abbrev pub are_accepted : Catalog → ℕ → List Write → Bool
are_accepted c last [] = true
are_accepted c last (w ∷ writes) = is_accepted c last w && are_accepted (catalog_after c w) (tick_after last w) writes
