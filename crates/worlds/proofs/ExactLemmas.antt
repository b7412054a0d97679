-- By an error of 0, atoms are as they are told.
use Rattle.std.proofs.Common.{◌≡◌, ℕ, ◌≤◌, Bool, true, false, not, ℤ, pos, Option, None, Some, List, refl, ap, ◌∙◌}
use Rattle.std.specs.Prelude.{◌==◌, int_le, slice_get, if◌then◌else◌}
use Rattle.std.specs.Option.{option_map_or}
use Rattle.case_table.specs.Comparison.{compares, sign_holds}
use Rattle.case_table.specs.declared.compare.Op.{Op}
use Rattle.fixed_point.specs.declared.number.Point.{Point}
use Rattle.geometry.specs.Distance.{distance_compares}
use Rattle.geometry.specs.Plane.{square, squared_distance}
use Rattle.geometry.specs.Polygon.{is_inside}
use Rattle.geometry.specs.Region.{Region}
use Rattle.formula.specs.declared.tree.RAtom.{RAtom}
use Rattle.formula.specs.declared.tree.RAtom.TheVariants as atoms
use Rattle.formula.specs.declared.value.Env.{Env}
use Rattle.formula.specs.Tree.{ResolvedTree}
use Rattle.history.specs.World.{World}
use Rattle.meaning.specs.Agreement.{Agree}
use Rattle.meaning.specs.Atom.{atom_holds, is_in_region, position_in}
use Rattle.meaning.specs.Satisfaction.{plain}
use Rattle.meaning.specs.Trace.{Trace, trace_of}
use Rattle.worlds.specs.Apart.{distance_compares_by, farthest_square, nearest_square, possibly_compares, surely_compares}
use Rattle.worlds.specs.Blurred.{atom_blurred, blurred, distance_holds_by, error_between, is_in_region_by, possibly_holds, surely_holds}
use Rattle.worlds.specs.Inside.{is_possibly_inside, is_surely_inside}
use Rattle.worlds.proofs.ApartLemmas.{farthest_0, nearest_0, possibly_same, surely_same}
use Rattle.worlds.proofs.BetweenLemmas.{of_each}

-- a test of places and polygons that says what being inside says
abbrev pub IsInside : (List Point → Point → Bool) → Type 0
IsInside test = (points : List Point) (p : Point) → test points p ≡ is_inside points p

-- a comparison by the least and the greatest number that is the plain one where both are one number
abbrev IsComparison : (Op → ℤ → ℤ → ℤ → Bool) → Type 0
IsComparison test = (op : Op) (s x : ℤ) → test op s s x ≡ compares op s x

same_where : {A : Type 0} (o : Option A) (p q : A → Bool) → ((x : A) → p x ≡ q x) → option_map_or p o false ≡ option_map_or q o false
same_where None p q same = refl
same_where (Some x) p q same = same x

region_0 : (test : List Point → Point → Bool) → IsInside test → (regions : List Region) (n : ℕ) (p : Point) → is_in_region_by test regions n p ≡ is_in_region regions n p
region_0 test same regions n p = same_where (slice_get regions n) (λ r. test r.points p) (λ r. is_inside r.points p) (λ r. same r.points p)

none_between : (b : ℕ → ℕ) (v u : ℕ) → error_between 0 b v u ≡ 0
none_between b v u = of_either (b v == b u) 0
  where
    of_either : (same : Bool) (n : ℕ) → (if same then n else n) ≡ n
    of_either true n = refl
    of_either false n = refl

compared_0 : (test : Op → ℤ → ℤ → ℤ → Bool) → IsComparison test → (op : Op) (c s : ℤ) → distance_compares_by test op c s s ≡ distance_compares op c s
compared_0 test same op c s = λ i. if int_le (pos 0) c then same op s (square c) i else sign_holds op (pos 1)

apart_0 : (test : Op → ℤ → ℤ → ℤ → Bool) → IsComparison test → (error : ℕ) → error ≡ 0 → (op : Op) (c : ℤ) (p q : Point)
    → distance_compares_by test op c (nearest_square error p q) (farthest_square error p q) ≡ distance_compares op c (squared_distance p q)
apart_0 test same error none op c p q =
    (λ i. distance_compares_by test op c (nearest_square (none i) p q) (farthest_square (none i) p q))
    ∙ (λ i. distance_compares_by test op c (nearest_0 p q i) (farthest_0 p q i))
    ∙ compared_0 test same op c (squared_distance p q)

distance_0 : (test : Op → ℤ → ℤ → ℤ → Bool) → IsComparison test → (b : ℕ → ℕ) (v u : ℕ) (op : Op) (c : ℤ) (o w : Option Point)
    → distance_holds_by test (error_between 0 b v u) op c o w ≡ option_map_or (λ p. option_map_or (λ q. distance_compares op c (squared_distance p q)) w false) o false
distance_0 test same b v u op c o w =
    let by = error_between 0 b v u in
    same_where o
    (λ p. option_map_or (λ q. distance_compares_by test op c (nearest_square by p q) (farthest_square by p q)) w false)
    (λ p. option_map_or (λ q. distance_compares op c (squared_distance p q)) w false)
    (λ p. same_where w (λ q. distance_compares_by test op c (nearest_square by p q) (farthest_square by p q)) (λ q. distance_compares op c (squared_distance p q))
    (λ q. apart_0 test same by (none_between b v u) op c p q))

inside_0 : (test : List Point → Point → Bool) → IsInside test → (regions : List Region) (n : ℕ) (o : Option Point)
    → option_map_or (is_in_region_by test regions n) o false ≡ option_map_or (is_in_region regions n) o false
inside_0 test same regions n o = same_where o (is_in_region_by test regions n) (is_in_region regions n) (region_0 test same regions n)

outside_0 : (test : List Point → Point → Bool) → IsInside test → (regions : List Region) (n : ℕ) (o : Option Point)
    → option_map_or (λ p. not (is_in_region_by test regions n p)) o false ≡ option_map_or (λ p. not (is_in_region regions n p)) o false
outside_0 test same regions n o = same_where o (λ p. not (is_in_region_by test regions n p)) (λ p. not (is_in_region regions n p)) (λ p. ap not (region_0 test same regions n p))

surely_0 : IsInside (is_surely_inside 0) → IsInside (is_possibly_inside 0) → (regions : List Region) (h : Trace) (b : ℕ → ℕ) (a : RAtom) (x : Env) (t : ℕ)
    → surely_holds 0 regions h b a x t ≡ atom_holds regions h a x t
surely_0 sure maybe regions h b (atoms.Compare q op r) x t = refl
surely_0 sure maybe regions h b (atoms.Inside v n) x t = inside_0 (is_surely_inside 0) sure regions n (position_in t (h v t))
surely_0 sure maybe regions h b (atoms.Outside v n) x t = outside_0 (is_possibly_inside 0) maybe regions n (position_in t (h v t))
surely_0 sure maybe regions h b (atoms.Dist v u op c) x t = distance_0 surely_compares surely_same b v u op c (position_in t (h v t)) (position_in t (h u t))
surely_0 sure maybe regions h b (atoms.Sphere r vs) x t = refl

possibly_0 : IsInside (is_surely_inside 0) → IsInside (is_possibly_inside 0) → (regions : List Region) (h : Trace) (b : ℕ → ℕ) (a : RAtom) (x : Env) (t : ℕ)
    → possibly_holds 0 regions h b a x t ≡ atom_holds regions h a x t
possibly_0 sure maybe regions h b (atoms.Compare q op r) x t = refl
possibly_0 sure maybe regions h b (atoms.Inside v n) x t = inside_0 (is_possibly_inside 0) maybe regions n (position_in t (h v t))
possibly_0 sure maybe regions h b (atoms.Outside v n) x t = outside_0 (is_surely_inside 0) sure regions n (position_in t (h v t))
possibly_0 sure maybe regions h b (atoms.Dist v u op c) x t = distance_0 possibly_compares possibly_same b v u op c (position_in t (h v t)) (position_in t (h u t))
possibly_0 sure maybe regions h b (atoms.Sphere r vs) x t = refl

atom_0 : IsInside (is_surely_inside 0) → IsInside (is_possibly_inside 0) → (is_sure : Bool) (regions : List Region) (h : Trace) (b : ℕ → ℕ) (a : RAtom) (x : Env) (t : ℕ)
    → atom_blurred is_sure 0 regions h b a x t ≡ atom_holds regions h a x t
atom_0 sure maybe true = surely_0 sure maybe
atom_0 sure maybe false = possibly_0 sure maybe

pub exact_agrees : IsInside (is_surely_inside 0) → IsInside (is_possibly_inside 0) → (is_sure : Bool) (w : World) (b : ℕ → ℕ) (lo hi : ℕ) (f : ResolvedTree)
    → Agree (blurred is_sure 0 w b) (plain w.regions (trace_of w.history b)) lo hi f
exact_agrees sure maybe is_sure w b lo hi f =
    let h = trace_of w.history b in
    of_each
    (λ a. (x : Env) (t : ℕ) → lo ≤ t → t ≤ hi → (blurred is_sure 0 w b).atom a x t ≡ (plain w.regions h).atom a x t)
    (λ bound. (x : Env) (t : ℕ) → lo ≤ t → t ≤ hi → (blurred is_sure 0 w b).term bound.1 x t ≡ (plain w.regions h).term bound.1 x t)
    (λ a x t from to. atom_0 sure maybe is_sure w.regions h b a x t) (λ bound x t from to. refl) f
