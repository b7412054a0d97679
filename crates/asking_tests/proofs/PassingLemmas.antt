-- What a query of one atom may ask of a car that passes by a post.
use Rattle.std.proofs.Common.{◌≡◌, ℕ, zero, suc, ◌<◌, true, List, [], ◌∷◌, length, refl, subst, sym, arith}
use Rattle.std.specs.Prelude.{slice_index}
use Rattle.answers.specs.Objects.{AreOfItsClasses, IsOfAcceptedWrites}
use Rattle.formula.specs.Resolved.{IsResolved, is_atom, no_scope}
use Rattle.formula.specs.Tree.{ResolvedQuery}
use Rattle.formula.specs.declared.tree.RAtom.{RAtom}
use Rattle.formula_shape.specs.Shape as shapes
use Rattle.geometry.specs.Region.{Region}
use Rattle.history.specs.Catalog.{Catalog, ids_of as ids_of_class}
use Rattle.history.specs.History.{History, history}
use Rattle.meaning.specs.Agreement.{world_with}
use Rattle.meaning.specs.Fits.{FitsItsClasses, atom_fits, no_kinds}
use Rattle.object_store.specs.Contents.{Contents, history_of}
use Rattle.relation.specs.Key.{has_id, ids_of_variable}
use Rattle.asking_tests.specs.Passing.{writes}

abbrev pub told : History
told = history writes

pub of_accepted_writes : (s : Contents) → history_of s ≡ told → IsOfAcceptedWrites s
of_accepted_writes s is = record { writes = writes; accepted = refl; told = is }

-- RETRIEVE o FROM car o,post n WHERE an atom
abbrev pub one_atom : RAtom → ResolvedQuery
one_atom a = record { targets = 0 ∷ []; classes = 0 ∷ 1 ∷ []; formula = shapes.Atom a }

pub is_resolved : (a : RAtom) → is_atom 2 no_scope a ≡ true → IsResolved (one_atom a)
is_resolved a is = record {
  variables = refl;
  targets = refl;
  differ = refl;
  formula = is;
  few_nodes = omega arith;
  low = omega arith;
}

pub fits_classes : (h : History) (regions : List Region) (a : RAtom) → h ≡ told → length regions ≡ 1
    → atom_fits told.catalog (0 ∷ 1 ∷ []) 1 no_kinds a ≡ true → FitsItsClasses (world_with h regions) (one_atom a)
fits_classes h regions a is one fits =
    subst (λ (k : History). FitsItsClasses (world_with k regions) (one_atom a)) (sym is)
    (record {
      classes = refl;
      formula = subst (λ (n : ℕ). atom_fits told.catalog (0 ∷ 1 ∷ []) n no_kinds a ≡ true) (sym one) fits;
    })

-- the car alone, and the post alone
abbrev pub car_and_post : List (List ℕ)
car_and_post = (0 ∷ []) ∷ (1 ∷ []) ∷ []

each_of_its_class : (v id : ℕ) → v < 2 → has_id (ids_of_variable car_and_post v) id ≡ true
    → has_id (ids_of_class told.catalog (slice_index (0 ∷ 1 ∷ []) v)) id ≡ true
each_of_its_class zero id less has = has
each_of_its_class (suc zero) id less has = has
each_of_its_class (suc (suc v)) id less has = absurd (omega arith)

pub are_of_its_classes : (c : Catalog) (a : RAtom) → c ≡ told.catalog → AreOfItsClasses c (one_atom a) car_and_post
are_of_its_classes c a is =
    subst (λ (k : Catalog). AreOfItsClasses k (one_atom a) car_and_post) (sym is) (record { many = refl; each = each_of_its_class })
