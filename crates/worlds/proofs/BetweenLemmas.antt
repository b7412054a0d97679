-- Formulas in worlds, by their atoms.
use Rattle.std.proofs.Common.{◌≡◌, ℕ, ◌≤◌, true, false, not, Option, None, Some, List, [], refl, ap}
use Rattle.std.specs.Option.{option_map, option_map_or}
use Rattle.fixed_point.specs.declared.number.Point.{Point}
use Rattle.geometry.specs.Region.{Region}
use Rattle.formula_shape.specs.Shape as shapes
use Rattle.formula_shape.specs.Shape.{Shape, fold_types}
use Rattle.formula.specs.declared.tree.RAtom.{RAtom}
use Rattle.formula.specs.declared.tree.RAtom.TheVariants as atoms
use Rattle.formula.specs.declared.value.Env.{Env}
use Rattle.formula.specs.Tree.{ResolvedTree}
use Rattle.history.specs.World.{World}
use Rattle.meaning.specs.Agreement.{Agree, HasMore}
use Rattle.meaning.specs.Atom.{atom_holds, distance_holds, is_in_region, position_in}
use Rattle.meaning.specs.Satisfaction.{plain}
use Rattle.meaning.specs.Trace.{Trace, trace_of}
use Rattle.worlds.specs.Moved.{Move, atom_moved, in_world, is_world, moved_place}
use Rattle.worlds.specs.Blurred.{blurred}
use Rattle.worlds.proofs.AtomLemmas.{KeepsInside, ReachesInside, possibly_if_in_world, surely_in_world}

-- of every atom and of all that is bound, so of those of a formula
pub of_each : {A B : Type 0} (P : A → Type 0) (Q : B → Type 0) → ((a : A) → P a) → ((b : B) → Q b) → (f : Shape A B) → fold_types P Q f
of_each P Q p q (shapes.Truth b) = tt
of_each P Q p q (shapes.Atom a) = p a
of_each P Q p q (shapes.Not f) = of_each P Q p q f
of_each P Q p q (shapes.And f g) = (of_each P Q p q f, of_each P Q p q g)
of_each P Q p q (shapes.Or f g) = (of_each P Q p q f, of_each P Q p q g)
of_each P Q p q (shapes.Next f) = of_each P Q p q f
of_each P Q p q (shapes.Eventually f) = of_each P Q p q f
of_each P Q p q (shapes.Always f) = of_each P Q p q f
of_each P Q p q (shapes.Bounded form ticks f) = of_each P Q p q f
of_each P Q p q (shapes.Until form ticks f g) = (of_each P Q p q f, of_each P Q p q g)
of_each P Q p q (shapes.Assign b f) = (q b, of_each P Q p q f)

pub world_has_more : KeepsInside → ReachesInside → (error : ℕ) (moves : List Move) → is_world error moves ≡ true → (w : World) (b : ℕ → ℕ) (f : ResolvedTree)
    → HasMore (blurred true error w b) (in_world moves w b) f
world_has_more keeps reaches error moves world w b f =
    of_each
    (λ a. (x : Env) (t : ℕ) → (blurred true error w b).atom a x t ≡ true → (in_world moves w b).atom a x t ≡ true)
    (λ bound. (x : Env) (t : ℕ) → (blurred true error w b).term bound.1 x t ≡ (in_world moves w b).term bound.1 x t)
    (surely_in_world keeps reaches error moves world w.regions w.history b) (λ bound x t. refl) f

pub world_has_less : KeepsInside → ReachesInside → (error : ℕ) (moves : List Move) → is_world error moves ≡ true → (w : World) (b : ℕ → ℕ) (f : ResolvedTree)
    → HasMore (in_world moves w b) (blurred false error w b) f
world_has_less keeps reaches error moves world w b f =
    of_each
    (λ a. (x : Env) (t : ℕ) → (in_world moves w b).atom a x t ≡ true → (blurred false error w b).atom a x t ≡ true)
    (λ bound. (x : Env) (t : ℕ) → (in_world moves w b).term bound.1 x t ≡ (blurred false error w b).term bound.1 x t)
    (possibly_if_in_world keeps reaches error moves world w.regions w.history b) (λ bound x t. refl) f

-- ---- where nothing is off

place_unmoved : (o : Option Point) (id t : ℕ) → option_map (moved_place [] id t) o ≡ o
place_unmoved None id t = refl
place_unmoved (Some p) id t = refl

unmoved_atom : (regions : List Region) (h : Trace) (b : ℕ → ℕ) (a : RAtom) (x : Env) (t : ℕ) → atom_moved [] regions h b a x t ≡ atom_holds regions h a x t
unmoved_atom regions h b (atoms.Compare q op r) x t = refl
unmoved_atom regions h b (atoms.Inside v n) x t = ap (λ (o : Option Point). option_map_or (is_in_region regions n) o false) (place_unmoved (position_in t (h v t)) (b v) t)
unmoved_atom regions h b (atoms.Outside v n) x t = ap (λ (o : Option Point). option_map_or (λ p. not (is_in_region regions n p)) o false) (place_unmoved (position_in t (h v t)) (b v) t)
unmoved_atom regions h b (atoms.Dist v u op c) x t =
    λ i. distance_holds op c (place_unmoved (position_in t (h v t)) (b v) t i) (place_unmoved (position_in t (h u t)) (b u) t i)
unmoved_atom regions h b (atoms.Sphere r vs) x t = refl

pub unmoved_agrees : (w : World) (b : ℕ → ℕ) (lo hi : ℕ) (f : ResolvedTree) → Agree (in_world [] w b) (plain w.regions (trace_of w.history b)) lo hi f
unmoved_agrees w b lo hi f =
    let h = trace_of w.history b in
    of_each
    (λ a. (x : Env) (t : ℕ) → lo ≤ t → t ≤ hi → (in_world [] w b).atom a x t ≡ (plain w.regions h).atom a x t)
    (λ bound. (x : Env) (t : ℕ) → lo ≤ t → t ≤ hi → (in_world [] w b).term bound.1 x t ≡ (plain w.regions h).term bound.1 x t)
    (λ a x t from to. unmoved_atom w.regions h b a x t) (λ bound x t from to. refl) f
