-- For this crate and for the crates above: pairs of objects; those that are told apart are near at no tick, and the keys and looks of all pairs.
use Rattle.std.proofs.Common.{◌≡◌, ℕ, suc, ◌+◌, ◌-◌, ◌*◌, ◌<◌, ◌≤◌, Bool, true, false, ◌&&◌, ◌||◌, ◌==◌, ℤ, pos, ◌+ℤ◌, ◌-ℤ◌, ◌*ℤ◌, ◌≤ℤ◌, ◌<ℤ◌, ◌⊎◌, inl, inr, Option, None, Some, List, [], ◌∷◌, length, get_or, map, slice_index, refl, sym, ap, subst, ◌∙◌, arith}
use Rattle.std.specs.Prelude.{IfSome}
use Rattle.std.specs.List.{flat_map, list_all}
use Rattle.std.specs.List.Sorted.{IsStrictlyIncreasing}
use Rattle.std.specs.Str.{bytes_eq}
use Rattle.std.proofs.lemmas.Bool.{and_parts, cases_Bool, eqb-true, or_cases}
use Rattle.std.proofs.lemmas.List.{get_or-map}
use Rattle.std.proofs.lemmas.Slice.Eq.{bytes_eq-Decides}
use Rattle.tick_set.specs.Ticks.{within}
use Rattle.tick_set.proofs.Between.{within_parts}
use Rattle.case_table.specs.declared.compare.Op.{Op}
use Rattle.exact.proofs.Ring.{part, sum, difference, product, same}
use Rattle.exact.proofs.Naturals.{steps_within}
use Rattle.fixed_point.specs.declared.number.Point.{Point}
use Rattle.geometry.specs.Distance.{distance_compares}
use Rattle.geometry.specs.Plane.{square, squared_distance}
use Rattle.geometry.specs.Region.{Region}
use Rattle.linear_crossing.specs.Moving.{position_after}
use Rattle.history.specs.History.{cells_at}
use Rattle.formula.specs.Value.{no_values}
use Rattle.formula.specs.Variables.{atom_has}
use Rattle.formula.specs.declared.tree.RAtom.{RAtom}
use Rattle.formula.specs.declared.tree.RAtom.TheVariants as atoms
use Rattle.meaning.specs.Atom.{atom_holds, distance_holds, position_in}
use Rattle.meaning.specs.Reads.{atom_variables}
use Rattle.meaning.specs.Trace.{Trace, trace_of}
use Rattle.meaning.proofs.LocalityLemmas.{atom_same}
use Rattle.object_store.specs.Contents.{Contents, history_of}
use Rattle.relation.specs.Frames.{IsIn, domain_size}
use Rattle.relation.specs.Key.{has_id, ids_of_variable}
use Rattle.relation.specs.Rows.{Table, has_at}
use Rattle.atoms.specs.Parts.{HasObject}
use Rattle.evaluator.specs.Keys.{AreKeys}
use Rattle.evaluator.specs.inner.Filled.{IsFilled, keys_behind}
use Rattle.evaluator.proofs.KeyLemmas.{keys_more, keys_none}
use Rattle.pairs.specs.Distance.{IsDistance, are_both}
use Rattle.pairs.specs.Pairs.{AreApart, IsMover, atom_at, holds_in, keys_of, pair_reads}
use Rattle.pairs.specs.Reach.{IsReachedAt}
use Rattle.pairs.proofs.FarLemmas.{far_never}
use Rattle.pairs.specs.declared.distance.Distance.{Distance}
use Rattle.pairs.specs.declared.movers.Mover.{Mover}
use Rattle.pairs.specs.declared.rows.Scene.{Scene}

-- ---- distances
turned : (p q : Point) → squared_distance q p ≡ squared_distance p q
turned p q =
    let x = difference (part p.x) (part q.x) in
    let y = difference (part p.y) (part q.y) in
    let u = difference (part q.x) (part p.x) in
    let v = difference (part q.y) (part p.y) in
    same (sum (product x x) (product y y)) (sum (product u u) (product v v)) (omega arith)

-- one of two variables is the first one, and the other the second
abbrev pub AreFirstTwo : ℕ → ℕ → Type 0
AreFirstTwo v u = ((v ≡ 0) × (u ≡ 1)) ⊎ ((v ≡ 1) × (u ≡ 0))

either : (v u : ℕ) → are_both v u ≡ true → AreFirstTwo v u
either v u e =
    elim (or_cases ((v == 0) && (u == 1)) ((v == 1) && (u == 0)) e) [
      | inl h ↦ let parts = and_parts (v == 0) (u == 1) h in inl (eqb-true v 0 parts.0, eqb-true u 1 parts.1)
      | inr h ↦ let parts = and_parts (v == 1) (u == 0) h in inr (eqb-true v 1 parts.0, eqb-true u 0 parts.1)
    ]

-- the distance of the objects of the first two variables, either way round
module _ (h : Trace) (t : ℕ) (op : Op) (most : ℤ) (p q : Point) (first : position_in t (h 0 t) ≡ Some p) (second : position_in t (h 1 t) ≡ Some q) where
  held : (from to : ℕ) → AreFirstTwo from to →
      distance_holds op most (position_in t (h from t)) (position_in t (h to t)) ≡ distance_compares op most (squared_distance p q)
  held from to both =
      elim both [
        | inl is ↦
            (λ i. distance_holds op most (position_in t (h (is.0 i) t)) (position_in t (h (is.1 i) t)))
            ∙ (λ i. distance_holds op most (first i) (second i))
        | inr is ↦
            (λ i. distance_holds op most (position_in t (h (is.0 i) t)) (position_in t (h (is.1 i) t)))
            ∙ (λ i. distance_holds op most (second i) (first i))
            ∙ ap (distance_compares op most) (turned p q)
      ]

-- ---- the variables of a distance
module _ (d : Distance) (is : IsDistance d) where
  pub first_two : AreFirstTwo is.from is.to
  first_two = either is.from is.to is.both

  has_first_two : (v : ℕ) → atom_has v d.atom.now ≡ true → (v ≡ 0) ⊎ (v ≡ 1)
  has_first_two v has =
      elim (or_cases (is.from == v) (is.to == v) (sym (ap (atom_has v) is.is) ∙ has)) [
        | inl e ↦
            elim first_two [
              | inl both ↦ inl (sym (eqb-true is.from v e) ∙ both.0)
              | inr both ↦ inr (sym (eqb-true is.from v e) ∙ both.0)
            ]
        | inr e ↦
            elim first_two [
              | inl both ↦ inr (sym (eqb-true is.to v e) ∙ both.1)
              | inr both ↦ inl (sym (eqb-true is.to v e) ∙ both.1)
            ]
      ]

  pub variables_are : atom_variables d.atom.now ≡ 0 ∷ 1 ∷ []
  variables_are =
      ap atom_variables is.is
      ∙ elim first_two [
        | inl both ↦ (λ i. atom_variables (atoms.Dist (both.0 i) (both.1 i) is.op d.most))
        | inr both ↦ (λ i. atom_variables (atoms.Dist (both.0 i) (both.1 i) is.op d.most))
      ]

  pub objects_there : (s : Contents) (one other : ℕ) → one < length s.objects → other < length s.objects →
      (v : ℕ) → atom_has v d.atom.now ≡ true → HasObject (one ∷ other ∷ []) s v
  objects_there s one other first second v has =
      elim (has_first_two v has) [
        | inl e ↦ subst (HasObject (one ∷ other ∷ []) s) (sym e) (record { few = omega arith; stored = first })
        | inr e ↦ subst (HasObject (one ∷ other ∷ []) s) (sym e) (record { few = omega arith; stored = second })
      ]

  -- it says the same of a key as of an assignment that gives the variables its objects
  pub key_says : (s : Contents) (regions : List Region) (b : ℕ → ℕ) (t : ℕ) →
      atom_at s regions d.atom.now (slice_index (b 0 ∷ b 1 ∷ [])) t ≡ atom_at s regions d.atom.now b t
  key_says s regions b t =
      atom_same regions (trace_of (history_of s) (slice_index (b 0 ∷ b 1 ∷ []))) (trace_of (history_of s) b) d.atom.now no_values t
      (λ v has.
      elim (has_first_two v has) [
        | inl e ↦ subst (λ u. cells_at (history_of s) (slice_index (b 0 ∷ b 1 ∷ []) u) t ≡ cells_at (history_of s) (b u) t) (sym e) refl
        | inr e ↦ subst (λ u. cells_at (history_of s) (slice_index (b 0 ∷ b 1 ∷ []) u) t ≡ cells_at (history_of s) (b u) t) (sym e) refl
      ])

-- ---- objects that are told apart
module _ (scene : Scene) (is : IsDistance scene.distance) (one other : Mover)
    (first : IsMover scene.world.store.now scene.w.lo scene.w.hi one) (second : IsMover scene.world.store.now scene.w.lo scene.w.hi other)
    (apart : AreApart scene.distance.most one other) where
  abbrev pub key : List ℕ
  key = one.id ∷ other.id ∷ []

  here : (t : ℕ) → scene.w.lo ≤ t → t ≤ scene.w.hi →
      atom_at scene.world.store.now scene.world.regions.now scene.distance.atom.now (slice_index key) t ≡ false
  here t from upto =
      let k = t - scene.w.lo in
      let s = scene.world.store.now in
      let p = position_after apart.p.line k in
      let q = position_after apart.q.line k in
      let at_one : position_in t (cells_at (history_of s) one.id t) ≡ Some p =
      subst (λ way. IfSome way (λ y. (u : ℕ) → scene.w.lo ≤ u → u ≤ scene.w.hi → position_in u (cells_at (history_of s) one.id u) ≡ Some (position_after y.line (u - scene.w.lo))))
      apart.first first.along t from upto in
      let at_other : position_in t (cells_at (history_of s) other.id t) ≡ Some q =
      subst (λ way. IfSome way (λ y. (u : ℕ) → scene.w.lo ≤ u → u ≤ scene.w.hi → position_in u (cells_at (history_of s) other.id u) ≡ Some (position_after y.line (u - scene.w.lo))))
      apart.second second.along t from upto in
      let soon : k ≤ scene.w.hi - scene.w.lo = omega arith in
      let in_first : IsReachedAt apart.p k = subst (λ way. IfSome way (λ y. (n : ℕ) → n ≤ scene.w.hi - scene.w.lo → IsReachedAt y n)) apart.first first.within k soon in
      let in_second : IsReachedAt apart.q k = subst (λ way. IfSome way (λ y. (n : ℕ) → n ≤ scene.w.hi - scene.w.lo → IsReachedAt y n)) apart.second second.within k soon in
      ap (λ (a : RAtom). atom_holds scene.world.regions.now (trace_of (history_of s) (slice_index key)) a no_values t) is.is
      ∙ held (trace_of (history_of s) (slice_index key)) t is.op scene.distance.most p q at_one at_other is.from is.to (first_two scene.distance is)
      ∙ far_never is.op scene.distance.most (squared_distance p q) is.near (λ positive. apart.far positive k in_first in_second)

  pub apart_never : (t : ℕ) → holds_in scene key t ≡ false
  apart_never t =
      elim (cases_Bool (within scene.w.lo scene.w.hi t)) [
        | inr outside ↦ ap (λ c. c && atom_at scene.world.store.now scene.world.regions.now scene.distance.atom.now (slice_index key) t) outside
        | inl inside ↦
            let parts = within_parts scene.w.lo scene.w.hi t inside in
            ap (λ c. within scene.w.lo scene.w.hi t && c) (here t parts.0 parts.1) ∙ never (within scene.w.lo scene.w.hi t)
      ]
    where
      never : (c : Bool) → (c && false) ≡ false
      never true = refl
      never false = refl

-- ---- rows and keys

-- where something is true at no tick, its key has no row
pub filled_false : {S : Type 0} (member : S → ℕ → Bool) (truth : List ℕ → ℕ → Bool) (key : List ℕ) (r : Table S) → ((t : ℕ) → truth key t ≡ false) →
    IsFilled member truth (key ∷ []) r r
filled_false member truth key r false_there = record {
  head = record { vars = refl; domains = refl; lo = refl; hi = refl };
  ticks = λ k t.
      none (has_at member r.rows k t) (bytes_eq key k) (truth k t)
      (λ e. subst (λ (z : List ℕ). truth z t ≡ false) ((bytes_eq-Decides key k).0 e) (false_there t));
  upto = λ p h l. h;
}
  where
    none : (x e y : Bool) → (e ≡ true → y ≡ false) → x ≡ (x || ((e || false) && y))
    none true e y f = refl
    none false true y f = sym (f refl)
    none false false y f = refl

-- the key of the object at a place
pub key_at : (movers : List Mover) (i : ℕ) (m : Mover) → i < length movers → m ≡ get_or movers i m → (m.id ∷ []) ≡ get_or (keys_of movers) i (m.id ∷ [])
key_at movers i m l is = ap (λ (n : Mover). n.id ∷ []) is ∙ sym (get_or-map (λ (n : Mover). n.id ∷ []) movers i m (m.id ∷ []) l)

pub as_many_keys : (movers : List Mover) → length (keys_of movers) ≡ length movers
as_many_keys [] = refl
as_many_keys (m ∷ movers) = ap suc (as_many_keys movers)

singles : (movers : List Mover) → flat_map (λ id. keys_behind id ([] ∷ [])) (map (λ (m : Mover). m.id) movers) ≡ keys_of movers
singles [] = refl
singles (m ∷ movers) = ap (λ (keys : List (List ℕ)). (m.id ∷ []) ∷ keys) (singles movers)

-- the objects of a variable are its keys
pub own_keys : (domains : List (List ℕ)) (ids : List ℕ) (movers : List Mover) → map (λ (m : Mover). m.id) movers ≡ ids → ids ≡ ids_of_variable domains 1 →
    IsStrictlyIncreasing ids → AreKeys domains (1 ∷ []) (keys_of movers)
own_keys domains ids movers are own up =
    subst (AreKeys domains (1 ∷ [])) (ap (λ (z : List ℕ). flat_map (λ id. keys_behind id ([] ∷ [])) z) (sym are) ∙ singles movers)
    (keys_more domains 1 [] ([] ∷ []) ids own up (keys_none domains))

-- ---- looks

pub each_twice : (start now next i : ℕ) → now ≤ start + i * 2 → next ≤ now + 2 → next ≤ start + (i + 1) * 2
each_twice start now next i most more = omega (arith, most, more)

pub one_round : (start before now next i n : ℕ) → before ≤ start + i * (1 + n * 2) → now ≡ before + 1 → next ≤ now + n * 2 → next ≤ start + (i + 1) * (1 + n * 2)
one_round start before now next i n most step more =
    let whole : (i + 1) * (1 + n * 2) ≡ i * (1 + n * 2) + (1 + n * 2) = grind arith in
    omega (arith, most, step, more, whole)

finished : (start first now i m n k : ℕ) → first ≤ start + n → now ≤ first + i * (1 + k * 2) → i ≤ m → k ≡ n → now ≤ start + (n + m * (1 + 2 * n))
finished start first now i m n k look most less same =
    let all = steps_within first now i m (1 + k * 2) most less in
    let whole : m * (1 + k * 2) ≡ m * (1 + 2 * n) = ap (λ z. m * (1 + z * 2)) same ∙ grind arith in
    omega (arith, look, all, whole)

as_many_ids : (movers : List Mover) → length movers ≡ length (map (λ (m : Mover). m.id) movers)
as_many_ids [] = refl
as_many_ids (m ∷ movers) = ap suc (as_many_ids movers)

same_length : (movers : List Mover) (ids : List ℕ) → map (λ (m : Mover). m.id) movers ≡ ids → length movers ≡ length ids
same_length movers ids are = as_many_ids movers ∙ ap length are

-- after some rounds, with the objects of both variables at hand
pub rounds_within : (domains : List (List ℕ)) (firsts seconds : List ℕ) (movers : List Mover) → firsts ≡ ids_of_variable domains 0 → seconds ≡ ids_of_variable domains 1 →
    map (λ (m : Mover). m.id) movers ≡ seconds → (start first now i : ℕ) → first ≤ start + length seconds → now ≤ first + i * (1 + length movers * 2) → i ≤ length firsts →
    now ≤ start + pair_reads (domain_size domains)
rounds_within domains firsts seconds movers e f are start first now i look most less =
    subst (λ z. now ≤ start + z) (λ j. length (f j) + length (e j) * (1 + 2 * length (f j)))
    (finished start first now i (length firsts) (length seconds) (length movers) look most less (same_length movers seconds are))

pub first_within : (domains : List (List ℕ)) (seconds : List ℕ) → seconds ≡ ids_of_variable domains 1 → (start first : ℕ) → first ≤ start + length seconds →
    first ≤ start + pair_reads (domain_size domains)
first_within domains seconds f start first look =
    let more : length seconds ≡ domain_size domains 1 = ap length f in
    omega (arith, look, more)
