-- Atoms where positions may be off, by what is asked of their objects.
use Rattle.std.proofs.Common.{◌≡◌, ℕ, ◌<◌, ◌≤◌, Bool, true, false, ◌&&◌, ◌||◌, ℤ, Ok, Err, List, length, refl, sym, ap, subst, ◌∙◌, arith}
use Rattle.std.specs.Prelude.{◌==◌, IfOk, Result, if◌then◌else◌}
use Rattle.std.specs.Option.{option_map_or}
use Rattle.std.proofs.lemmas.Bool.{false≢true, or_left, or_right}
use Rattle.std.proofs.lemmas.Bool.Decides.{nat_tests}
use Rattle.atoms.specs.Asked.{CanAskAtom}
use Rattle.case_table.specs.declared.compare.Op.{Op}
use Rattle.formula.specs.declared.tree.RAtom.{RAtom}
use Rattle.formula.specs.declared.tree.RAtom.TheVariants as atoms
use Rattle.formula.specs.declared.value.Env.{Env}
use Rattle.formula.specs.Variables.{atom_has, variables_in}
use Rattle.history.specs.History.{cells_at}
use Rattle.history.specs.World.{World}
use Rattle.meaning.specs.Atom.{position_in}
use Rattle.meaning.specs.Reads.{atom_variables}
use Rattle.object_store.specs.Contents.{Contents}
use Rattle.tick_set.specs.Runs.{spans_have}
use Rattle.tick_set.specs.Ticks.{within}
use Rattle.tick_set.specs.declared.spans.Span.{Span}
use Rattle.worlds.specs.Blurred.{blurred, distance_holds_by}
use Rattle.blur.specs.Asked.{comparison, is_on_side}
use Rattle.blur.proofs.ReadLemmas.{has_first, has_one, has_two}
use Rattle.exact.proofs.Naturals.{equals_itself}

-- the same ticks by another test
pub ticks_as : {E : Type 0} (r : Result (List Span) E) (lo hi : ℕ) (first second : ℕ → Bool) → ((t : ℕ) → first t ≡ second t)
    → IfOk r (λ s. (t : ℕ) → spans_have s t ≡ (within lo hi t && first t)) → IfOk r (λ s. (t : ℕ) → spans_have s t ≡ (within lo hi t && second t))
ticks_as (Ok s) lo hi first second same is = λ t. is t ∙ ap (λ b. within lo hi t && b) (same t)
ticks_as (Err e) lo hi first second same is = is

-- ---- a variable of an atom

pub in_inside : (v n : ℕ) (a : RAtom) → a ≡ atoms.Inside v n → atom_has v a ≡ true
in_inside v n a is = ap (atom_has v) is ∙ equals_itself v

pub in_outside : (v n : ℕ) (a : RAtom) → a ≡ atoms.Outside v n → atom_has v a ≡ true
in_outside v n a is = ap (atom_has v) is ∙ equals_itself v

pub in_first : (v u : ℕ) (op : Op) (k : ℤ) (a : RAtom) → a ≡ atoms.Dist v u op k → atom_has v a ≡ true
in_first v u op k a is = ap (atom_has v) is ∙ or_left (v == v) (u == v) (equals_itself v)

pub in_second : (v u : ℕ) (op : Op) (k : ℤ) (a : RAtom) → a ≡ atoms.Dist v u op k → atom_has u a ≡ true
in_second v u op k a is = ap (atom_has u) is ∙ or_right (v == u) (u == u) (equals_itself u)

pub is_stored : (s : Contents) (lo hi : ℕ) (b : ℕ → ℕ) (a : RAtom) (v id : ℕ) → CanAskAtom s lo hi b a → atom_has v a ≡ true → id ≡ b v → id < length s.objects
is_stored s lo hi b a v id can has e = let there = (can.objects v has).stored in omega (arith, there, e)

-- ---- looks

pub inside_looks : (s : Contents) (lo hi : ℕ) (b : ℕ → ℕ) (a : RAtom) (v n : ℕ) → CanAskAtom s lo hi b a → a ≡ atoms.Inside v n → 1 ≤ length (atom_variables a)
inside_looks s lo hi b a v n can is =
    let few : v < 4 = (can.objects v (in_inside v n a is)).few in
    subst (λ (x : RAtom). 1 ≤ length (atom_variables x)) (sym is) (has_one v few)

pub outside_looks : (s : Contents) (lo hi : ℕ) (b : ℕ → ℕ) (a : RAtom) (v n : ℕ) → CanAskAtom s lo hi b a → a ≡ atoms.Outside v n → 1 ≤ length (atom_variables a)
outside_looks s lo hi b a v n can is =
    let few : v < 4 = (can.objects v (in_outside v n a is)).few in
    subst (λ (x : RAtom). 1 ≤ length (atom_variables x)) (sym is) (has_one v few)

differ : (b : ℕ → ℕ) (v u : ℕ) → (b v == b u) ≡ false → (v == u) ≡ false
differ b v u other = of_either (v == u) refl
  where
    of_either : (same : Bool) → (v == u) ≡ same → (v == u) ≡ false
    of_either false e = e
    of_either true e =
        let is : v ≡ u = grind (arith, nat_tests) in
        let one : (b v == b u) ≡ true = ap (λ w. b v == b w) (sym is) ∙ equals_itself (b v) in
        absurd (false≢true (sym other ∙ one))

looks_of_pair : (v u : ℕ) (same : Bool) → v < 4 → u < 4 → (same ≡ false → (v == u) ≡ false) → (if same then 1 else 2) ≤ length (variables_in (λ w. v == w || u == w))
looks_of_pair v u true few less other = has_first v u few
looks_of_pair v u false few less other = has_two v u few less (other refl)

pub distance_looks : (s : Contents) (lo hi : ℕ) (b : ℕ → ℕ) (a : RAtom) (v u : ℕ) (op : Op) (k : ℤ) (first second : ℕ) → CanAskAtom s lo hi b a → a ≡ atoms.Dist v u op k
    → first ≡ b v → second ≡ b u → (if first == second then 1 else 2) ≤ length (atom_variables a)
distance_looks s lo hi b a v u op k first second can is e f =
    let few : v < 4 = (can.objects v (in_first v u op k a is)).few in
    let less : u < 4 = (can.objects u (in_second v u op k a is)).few in
    let looks = looks_of_pair v u (b v == b u) few less (differ b v u) in
    subst (λ (x : RAtom). (if first == second then 1 else 2) ≤ length (atom_variables x)) (sym is)
    (subst (λ (n : ℕ). (if n == second then 1 else 2) ≤ length (variables_in (λ w. v == w || u == w))) (sym e)
    (subst (λ (n : ℕ). (if b v == n then 1 else 2) ≤ length (variables_in (λ w. v == w || u == w))) (sym f) looks))

-- ---- ticks

inside_is : (sure : Bool) (error : ℕ) (w : World) (b : ℕ → ℕ) (v n : ℕ) (x : Env) (t : ℕ)
    → option_map_or (is_on_side true sure error w.regions n) (position_in t (cells_at w.history (b v) t)) false ≡ (blurred sure error w b).atom (atoms.Inside v n) x t
inside_is true error w b v n x t = refl
inside_is false error w b v n x t = refl

outside_is : (sure : Bool) (error : ℕ) (w : World) (b : ℕ → ℕ) (v n : ℕ) (x : Env) (t : ℕ)
    → option_map_or (is_on_side false sure error w.regions n) (position_in t (cells_at w.history (b v) t)) false ≡ (blurred sure error w b).atom (atoms.Outside v n) x t
outside_is true error w b v n x t = refl
outside_is false error w b v n x t = refl

apart_is : (sure : Bool) (error : ℕ) (w : World) (b : ℕ → ℕ) (v u : ℕ) (op : Op) (k : ℤ) (x : Env) (t : ℕ)
    → distance_holds_by (comparison sure) (if b v == b u then 0 else error) op k (position_in t (cells_at w.history (b v) t)) (position_in t (cells_at w.history (b u) t))
    ≡ (blurred sure error w b).atom (atoms.Dist v u op k) x t
apart_is true error w b v u op k x t = refl
apart_is false error w b v u op k x t = refl

pub inside_ticks : (sure : Bool) (error : ℕ) (w : World) (b : ℕ → ℕ) (a : RAtom) (v n : ℕ) (x : Env) (id : ℕ) → a ≡ atoms.Inside v n → id ≡ b v → (t : ℕ)
    → option_map_or (is_on_side true sure error w.regions n) (position_in t (cells_at w.history id t)) false ≡ (blurred sure error w b).atom a x t
inside_ticks sure error w b a v n x id is e t =
    ap (λ i. option_map_or (is_on_side true sure error w.regions n) (position_in t (cells_at w.history i t)) false) e
    ∙ inside_is sure error w b v n x t
    ∙ ap (λ (y : RAtom). (blurred sure error w b).atom y x t) (sym is)

pub outside_ticks : (sure : Bool) (error : ℕ) (w : World) (b : ℕ → ℕ) (a : RAtom) (v n : ℕ) (x : Env) (id : ℕ) → a ≡ atoms.Outside v n → id ≡ b v → (t : ℕ)
    → option_map_or (is_on_side false sure error w.regions n) (position_in t (cells_at w.history id t)) false ≡ (blurred sure error w b).atom a x t
outside_ticks sure error w b a v n x id is e t =
    ap (λ i. option_map_or (is_on_side false sure error w.regions n) (position_in t (cells_at w.history i t)) false) e
    ∙ outside_is sure error w b v n x t
    ∙ ap (λ (y : RAtom). (blurred sure error w b).atom y x t) (sym is)

pub apart_ticks : (sure : Bool) (error : ℕ) (w : World) (b : ℕ → ℕ) (a : RAtom) (v u : ℕ) (op : Op) (k : ℤ) (x : Env) (first second : ℕ) → a ≡ atoms.Dist v u op k → first ≡ b v → second ≡ b u → (t : ℕ)
    → distance_holds_by (comparison sure) (if first == second then 0 else error) op k (position_in t (cells_at w.history first t)) (position_in t (cells_at w.history second t)) ≡ (blurred sure error w b).atom a x t
apart_ticks sure error w b a v u op k x first second is e f t =
    (λ i. distance_holds_by (comparison sure) (if e i == f i then 0 else error) op k (position_in t (cells_at w.history (e i) t)) (position_in t (cells_at w.history (f i) t)))
    ∙ apart_is sure error w b v u op k x t
    ∙ ap (λ (y : RAtom). (blurred sure error w b).atom y x t) (sym is)
