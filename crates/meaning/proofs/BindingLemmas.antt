-- For this crate and for the crates above: the states of a binding's objects, and the values that assignments bind, are within their bounds.
use Rattle.std.proofs.Common.{◌≡◌, ℕ, zero, suc, ◌+◌, ◌≤◌, ℤ, pos, unsigned_abs, Bool, true, false, Option, None, Some, List, [], ◌∷◌, map, refl, sym, ap, ◌∙◌, inl, inr, arith, if◌then◌else◌}
use Rattle.std.specs.Prelude.{◌==◌, nat_le, option_and_then, slice_get, slice_index}
use Rattle.std.specs.List.{enumerate_from, filter, list_any}
use Rattle.std.specs.Ordering.{int_eq}
use Rattle.std.proofs.lemmas.Bool.{false≢true, or_cases}
use Rattle.std.proofs.lemmas.Bool.Decides.{Decides-int_eq, nat_tests}
use Rattle.std.proofs.lemmas.Option.{get_or_from_slice_get, slice_get_within}
use Rattle.tick_set.specs.declared.spans.TheConstants.{LAST_TICK}
use Rattle.history.specs.Catalog.{Catalog, ClassInfo, ObjectInfo, catalog, empty_catalog}
use Rattle.history.specs.History.{history}
use Rattle.history.specs.World.{world_of}
use Rattle.history.specs.Write.{Write}
use Rattle.geometry.specs.Region.{Region}
use Rattle.formula.specs.Bounds.{term_bound}
use Rattle.formula.specs.Resolved.{Scope, is_term, no_scope, with_bound}
use Rattle.formula.specs.Tree.{ResolvedQuery}
use Rattle.formula.specs.Value.{no_values, value_in, with_value}
use Rattle.formula.specs.declared.tree.RTerm.{RTerm}
use Rattle.formula.specs.declared.value.Env.{Env}
use Rattle.formula.specs.declared.value.Value.{Value}
use Rattle.formula.specs.declared.value.Value.TheVariants as values
use Rattle.formula.specs.declared.value.ValueKind.{ValueKind}
use Rattle.meaning.specs.Accepted.{are_accepted}
use Rattle.meaning.specs.Fits.{BindsItsClasses, term_kind}
use Rattle.meaning.specs.Reachable.{AreReachable, AreWithinBounds}
use Rattle.meaning.specs.Trace.{Trace, trace_of}
use Rattle.meaning.specs.Value.{term_value}
use Rattle.meaning.proofs.StateLemmas.{number_is_reachable}
use Rattle.meaning.proofs.TermLemmas.{term_near}
use Rattle.exact.proofs.Items.{no_value}

-- ---- the objects of a binding

-- an object of a class, so many places after the first
record Placed (class first id : ℕ) (objects : List ObjectInfo) : Type 0 where
  place : ℕ
  object : ObjectInfo
  at : slice_get objects place ≡ Some object
  counted : id ≡ first + place
  of_class : object.class ≡ class

placed_later : (class first id : ℕ) (x : ObjectInfo) (objects : List ObjectInfo) → Placed class (first + 1) id objects → Placed class first id (x ∷ objects)
placed_later class first id x objects p =
    record { place = suc p.place; object = p.object; at = p.at; counted = omega (arith, p.counted); of_class = p.of_class }

abbrev numbers : ℕ → ℕ → List ObjectInfo → List ℕ
numbers class first objects = map (λ (e : ℕ × ObjectInfo). e.0) (filter (λ (e : ℕ × ObjectInfo). e.1.class == class) (enumerate_from first objects))

placed_first : (class first id : ℕ) (x : ObjectInfo) (objects : List ObjectInfo) (its : Bool) → (x.class == class) ≡ its →
    (list_any (λ i. i == id) (numbers class (first + 1) objects) ≡ true → Placed class (first + 1) id objects) →
    list_any (λ i. i == id) (map (λ (e : ℕ × ObjectInfo). e.0) (if its then ((first, x) ∷ filter (λ (e : ℕ × ObjectInfo). e.1.class == class) (enumerate_from (first + 1) objects)) else filter (λ (e : ℕ × ObjectInfo). e.1.class == class) (enumerate_from (first + 1) objects))) ≡ true →
    Placed class first id (x ∷ objects)
placed_first class first id x objects false is later has = placed_later class first id x objects (later has)
placed_first class first id x objects true is later has =
    elim (or_cases (first == id) (list_any (λ i. i == id) (numbers class (first + 1) objects)) has) [
      | inl here ↦
          let same : first ≡ id = grind (arith, nat_tests, here) in
          let of : x.class ≡ class = grind (arith, nat_tests, is) in
          record { place = 0; object = x; at = refl; counted = omega (arith, same); of_class = of }
      | inr behind ↦ placed_later class first id x objects (later behind)
    ]

placed : (class first id : ℕ) (objects : List ObjectInfo) → list_any (λ i. i == id) (numbers class first objects) ≡ true → Placed class first id objects
placed class first id [] has = absurd (false≢true has)
placed class first id (x ∷ objects) has = placed_first class first id x objects (x.class == class) refl (placed class (first + 1) id objects) has

pub variable_class : (classes : List ClassInfo) (number : Option ℕ) (k : ClassInfo) → option_and_then (slice_get classes) number ≡ Some k →
    (m : ℕ) × (number ≡ Some m) × (slice_get classes m ≡ Some k)
variable_class classes None k is = no_value k is
variable_class classes (Some m) k is = (m, refl, is)

pub binding_is_reachable : (writes : List Write) (regions : List Region) (q : ResolvedQuery) (b : ℕ → ℕ) → are_accepted empty_catalog 0 writes ≡ true →
    BindsItsClasses (world_of writes regions) q b → (t : ℕ) → AreReachable (catalog writes) q.classes (trace_of (history writes) b) t
binding_is_reachable writes regions q b accepted binds t v k cells class at =
    let c = catalog writes in
    let number = variable_class c.classes (slice_get q.classes v) k class in
    let within = slice_get_within q.classes v number.0 number.1 in
    let is : slice_index q.classes v ≡ number.0 = get_or_from_slice_get q.classes v number.0 0 number.1 in
    let p = placed (slice_index q.classes v) 0 (b v) c.objects (binds v within) in
    let here : b v ≡ p.place = omega (arith, p.counted) in
    number_is_reachable writes accepted (b v) t p.object k cells
    (ap (slice_get c.objects) here ∙ p.at)
    (ap (slice_get c.classes) (p.of_class ∙ is) ∙ number.2) at

-- ---- the values that are bound

pub none_within : AreWithinBounds no_scope no_values
none_within d bound n scope value = absurd (false≢true scope)

value_there : (x : Env) (d : ℕ) (v w : Value) → value_in (with_value x d v) d ≡ Some w → v ≡ w
value_there x zero v w is = cc
value_there x (suc zero) v w is = cc
value_there x (suc (suc d)) v w is = no_value w is

value_beside : (x : Env) (d e : ℕ) (v : Value) → (e == d) ≡ false → value_in (with_value x d v) e ≡ value_in x e
value_beside x zero zero v other = absurd (false≢true (sym other))
value_beside x zero (suc zero) v other = refl
value_beside x zero (suc (suc e)) v other = refl
value_beside x (suc zero) zero v other = refl
value_beside x (suc zero) (suc zero) v other = absurd (false≢true (sym other))
value_beside x (suc zero) (suc (suc e)) v other = refl
value_beside x (suc (suc d)) e v other = refl

bound_within : (scope : Scope) (x : Env) (d limit : ℕ) (v : Value) → AreWithinBounds scope x →
    ((n : ℤ) → v ≡ values.Num n → unsigned_abs n ≤ limit) → (e : ℕ) (bound n : ℤ) (own : Bool) → (e == d) ≡ own →
    (if own then int_eq bound (pos limit) else scope e bound) ≡ true → value_in (with_value x d v) e ≡ Some (values.Num n) →
    nat_le (unsigned_abs n) (unsigned_abs bound) ≡ true
bound_within scope x d limit v within near e bound n true own has value =
    let same : e ≡ d = grind (arith, nat_tests, own) in
    let is : v ≡ values.Num n = value_there x d v (values.Num n) (ap (value_in (with_value x d v)) (sym same) ∙ value) in
    let beside : bound ≡ pos limit = (Decides-int_eq bound (pos limit)).0 has in
    let size : unsigned_abs bound ≡ limit = ap unsigned_abs beside in
    grind (arith, nat_tests, near n is, size)
bound_within scope x d limit v within near e bound n false own has value =
    within e bound n has (sym (value_beside x d e v own) ∙ value)

module _ (c : Catalog) (classes : List ℕ) (scope : Scope) (known : ℕ → Option ValueKind) (h : Trace) (x : Env) (t count : ℕ)
    (states : AreReachable c classes h t) (within : AreWithinBounds scope x) (tick : t ≤ LAST_TICK) where
  pub assigned_within : (q : RTerm) → is_term count scope q ≡ true → (k : ValueKind) → term_kind c classes known q ≡ Some k →
      (d : ℕ) (v : Value) → term_value h q x t ≡ Some v → AreWithinBounds (with_bound scope d (term_bound q)) (with_value x d v)
  assigned_within q right k kind d v value e bound n scoped at =
      bound_within scope x d (term_bound q) v within
      (λ m is. term_near c classes scope known h x t count states within tick q right k kind m (value ∙ ap Some is))
      e bound n (e == d) refl scoped at
