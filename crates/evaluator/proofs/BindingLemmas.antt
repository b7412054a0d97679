-- Bindings that have a key, and domains narrowed to it.
use Rattle.std.proofs.Common.{◌≡◌, ℕ, zero, suc, ◌<◌, ◌≤◌, Bool, true, false, ◌||◌, ◌==◌, nat_lt, if◌then◌else◌, Option, None, Some, unwrap_or, List, [], ◌∷◌, length, slice_index, map, refl, sym, ap, ◌∙◌, subst, inl, inr, arith}
use Rattle.std.specs.Option.{option_map_or}
use Rattle.std.proofs.lemmas.Bool.{and_from, and_parts, cases_Bool, cases_lt, eqb-true, eq-eqb, ltb-true, or_cases}
use Rattle.std.proofs.lemmas.List.{get_or_past}
use Rattle.std.proofs.lemmas.Slice.Eq.{bytes_eq-Decides}
use Rattle.formula.specs.Variables.{variables_in}
use Rattle.meaning.specs.Reads.{made_single}
use Rattle.relation.specs.Frames.{IsIn, IsWider, agrees, domain_size}
use Rattle.relation.specs.Key.{are_known, has_id, ids_of_variable, key_in}
use Rattle.evaluator.specs.Interpreting.{IsInFor}
use Rattle.evaluator.specs.Keys.{AreNarrowed, are_first, binding_of, narrowed_ids, object_in}
use Rattle.evaluator.proofs.VariableLemmas.{has_variables, known_one}

-- a key that an assignment gives has the assignment's objects
pub object_in-map : (b : ℕ → ℕ) (vars : List ℕ) (v : ℕ) → has_id vars v ≡ true → object_in vars (map b vars) v ≡ Some (b v)
object_in-map b [] v h = absurd (let f : false ≡ true = h in cc)
object_in-map b (u ∷ us) v h =
    elim (cases_Bool (u == v)) [
      | inl e ↦
          ap (λ (c : Bool). if c then Some (b u) else object_in us (map b us) v) e
          ∙ ap (λ (z : ℕ). Some (b z)) (let same : u ≡ v = eqb-true u v e in same)
      | inr e ↦
          ap (λ (c : Bool). if c then Some (b u) else object_in us (map b us) v) e
          ∙ object_in-map b us v (sym (ap (λ (c : Bool). c || has_id us v) e) ∙ h)
    ]

pub object_in-none : (vars key : List ℕ) (v : ℕ) → has_id vars v ≡ false → object_in vars key v ≡ None
object_in-none [] key v h = refl
object_in-none (u ∷ us) [] v h = refl
object_in-none (u ∷ us) (id ∷ key) v h =
    elim (cases_Bool (u == v)) [
      | inl e ↦ absurd (let f : true ≡ false = sym (ap (λ (c : Bool). c || has_id us v) e) ∙ h in cc)
      | inr e ↦
          ap (λ (c : Bool). if c then Some id else object_in us key v) e
          ∙ object_in-none us key v (sym (ap (λ (c : Bool). c || has_id us v) e) ∙ h)
    ]

-- the object of a variable is one of its domain
pub object_in-inside : (domains : List (List ℕ)) (vars key : List ℕ) (v id : ℕ) → key_in domains vars key ≡ true → object_in vars key v ≡ Some id →
    has_id (ids_of_variable domains v) id ≡ true
object_in-inside domains [] key v id h o = absurd (let f : None ≡ Some id = o in cc)
object_in-inside domains (u ∷ us) [] v id h o = absurd (let f : false ≡ true = h in cc)
object_in-inside domains (u ∷ us) (x ∷ key) v id h o =
    let parts : (has_id (ids_of_variable domains u) x ≡ true) × (key_in domains us key ≡ true) = and_parts _ _ h in
    elim (cases_Bool (u == v)) [
      | inl e ↦
          let same : u ≡ v = eqb-true u v e in
          let object : Some x ≡ Some id = sym (ap (λ (c : Bool). if c then Some x else object_in us key v) e) ∙ o in
          let is : x ≡ id = cc in
          subst (λ (z : ℕ). has_id (ids_of_variable domains v) z ≡ true) is (subst (λ (z : ℕ). has_id (ids_of_variable domains z) x ≡ true) same parts.0)
      | inr e ↦ object_in-inside domains us key v id parts.1 (sym (ap (λ (c : Bool). if c then Some x else object_in us key v) e) ∙ o)
    ]

-- each of the variables has an object
pub object_in-some : (domains : List (List ℕ)) (vars key : List ℕ) (v : ℕ) → key_in domains vars key ≡ true → has_id vars v ≡ true →
    object_in vars key v ≡ Some (unwrap_or (object_in vars key v) 0)
object_in-some domains [] key v h k = absurd (let f : false ≡ true = k in cc)
object_in-some domains (u ∷ us) [] v h k = absurd (let f : false ≡ true = h in cc)
object_in-some domains (u ∷ us) (x ∷ key) v h k =
    let parts : (has_id (ids_of_variable domains u) x ≡ true) × (key_in domains us key ≡ true) = and_parts _ _ h in
    elim (cases_Bool (u == v)) [
      | inl e ↦ chosen (u == v) x (object_in us key v) e
      | inr e ↦ other (u == v) x (object_in us key v) e (object_in-some domains us key v parts.1 (sym (ap (λ (c : Bool). c || has_id us v) e) ∙ k))
    ]
  where
    chosen : (c : Bool) (y : ℕ) (o : Option ℕ) → c ≡ true → (if c then Some y else o) ≡ Some (unwrap_or (if c then Some y else o) 0)
    chosen true y o e = refl
    chosen false y o e = absurd (let f : false ≡ true = e in cc)

    other : (c : Bool) (y : ℕ) (o : Option ℕ) → c ≡ false → o ≡ Some (unwrap_or o 0) → (if c then Some y else o) ≡ Some (unwrap_or (if c then Some y else o) 0)
    other true y o e s = absurd (let f : true ≡ false = e in cc)
    other false y o e s = s

-- what a binding has at the place of a variable
at_place : (vars key : List ℕ) (v : ℕ) → v < 4 → slice_index (binding_of vars key) v ≡ unwrap_or (object_in vars key v) 0
at_place vars key zero l = refl
at_place vars key (suc zero) l = refl
at_place vars key (suc (suc zero)) l = refl
at_place vars key (suc (suc (suc zero))) l = refl
at_place vars key (suc (suc (suc (suc v)))) l = absurd (omega (arith, l))

pub binding_of-map : (p : ℕ → Bool) (b : ℕ → ℕ) (v : ℕ) → v < 4 → p v ≡ true → slice_index (binding_of (variables_in p) (map b (variables_in p))) v ≡ b v
binding_of-map p b v l h =
    at_place (variables_in p) (map b (variables_in p)) v l
    ∙ ap (λ (o : Option ℕ). unwrap_or o 0) (object_in-map b (variables_in p) v (has_variables p v l ∙ h))

-- a binding of a key of the domains has objects of the domains
pub binding_inside : (domains : List (List ℕ)) (p : ℕ → Bool) (key : List ℕ) → ((v : ℕ) → p v ≡ true → v < 4) → key_in domains (variables_in p) key ≡ true →
    IsInFor domains p (slice_index (binding_of (variables_in p) key))
binding_inside domains p key few inside v h =
    ap (λ (id : ℕ). has_id (ids_of_variable domains v) id) (at_place (variables_in p) key v (few v h))
    ∙ object_in-inside domains (variables_in p) key v _ inside (object_in-some domains (variables_in p) key v inside (has_variables p v (few v h) ∙ h))

-- an assignment in the domains gives a list of variables a key
pub key_in-map : (domains : List (List ℕ)) (vars : List ℕ) (b : ℕ → ℕ) → IsIn domains b → are_known domains vars ≡ true → key_in domains vars (map b vars) ≡ true
key_in-map domains [] b is_in known = refl
key_in-map domains (v ∷ vs) b is_in known =
    let parts : (nat_lt v (length domains) ≡ true) × (are_known domains vs ≡ true) = and_parts _ _ known in
    and_from _ _ (is_in v (ltb-true _ _ parts.0)) (key_in-map domains vs b is_in parts.1)

pub in_for : (domains : List (List ℕ)) (p : ℕ → Bool) (b : ℕ → ℕ) → ((v : ℕ) → p v ≡ true → v < length domains) → IsIn domains b → IsInFor domains p b
in_for domains p b over is_in v h = is_in v (over v h)

pub agreeing_key : (vars key : List ℕ) (b : ℕ → ℕ) → agrees vars key b ≡ true → key ≡ map b vars
agreeing_key vars key b h = (bytes_eq-Decides key (map b vars)).0 h

-- ---- narrowed domains

module _ (old : List (List ℕ)) (vars key : List ℕ) (new : List (List ℕ)) (is : AreNarrowed old vars key new) where
  single : (ids : List ℕ) (o : Option ℕ) (id : ℕ) → o ≡ Some id → option_map_or (λ (i : ℕ). i ∷ []) o ids ≡ id ∷ []
  single ids o id e = ap (λ (z : Option ℕ). option_map_or (λ (i : ℕ). i ∷ []) z ids) e

  same_ids : (ids : List ℕ) (o : Option ℕ) → o ≡ None → option_map_or (λ (i : ℕ). i ∷ []) o ids ≡ ids
  same_ids ids o e = ap (λ (z : Option ℕ). option_map_or (λ (i : ℕ). i ∷ []) z ids) e

  own : (x : ℕ) → has_id (x ∷ []) x ≡ true
  own x = ap (λ (c : Bool). c || false) (eq-eqb x x refl)

  -- an assignment that gives the variables the objects of the key is in the narrowed domains
  pub narrowed_has : (b : ℕ → ℕ) → IsIn old b → agrees vars key b ≡ true → IsIn new b
  narrowed_has b is_in agree v l =
      let below : v < length old = subst (λ (n : ℕ). v < n) is.many l in
      ap (λ (ids : List ℕ). has_id ids (b v)) (is.ids v below)
      ∙ elim (cases_Bool (has_id vars v)) [
        | inl e ↦
            let o : object_in vars key v ≡ Some (b v) = ap (λ (k : List ℕ). object_in vars k v) (agreeing_key vars key b agree) ∙ object_in-map b vars v e in
            ap (λ (ids : List ℕ). has_id ids (b v)) (single (ids_of_variable old v) (object_in vars key v) (b v) o) ∙ own (b v)
        | inr e ↦ ap (λ (ids : List ℕ). has_id ids (b v)) (same_ids (ids_of_variable old v) (object_in vars key v) (object_in-none vars key v e)) ∙ is_in v below
      ]

  module _ (inside : key_in old vars key ≡ true) where
    -- the narrowed domains have nothing else
    pub narrowed_wider : IsWider new old
    narrowed_wider = record { many = sym is.many; all = all }
      where
        all : (v id : ℕ) → has_id (ids_of_variable new v) id ≡ true → has_id (ids_of_variable old v) id ≡ true
        all v id h =
            elim (cases_lt v (length old)) [
              | inl l ↦
                  let here : has_id (narrowed_ids old vars key v) id ≡ true = sym (ap (λ (ids : List ℕ). has_id ids id) (is.ids v l)) ∙ h in
                  elim (cases_Bool (has_id vars v)) [
                    | inl e ↦
                        let o : object_in vars key v ≡ Some (unwrap_or (object_in vars key v) 0) = object_in-some old vars key v inside e in
                        let one : has_id (unwrap_or (object_in vars key v) 0 ∷ []) id ≡ true = sym (ap (λ (ids : List ℕ). has_id ids id) (single (ids_of_variable old v) (object_in vars key v) (unwrap_or (object_in vars key v) 0) o)) ∙ here in
                        subst (λ (z : ℕ). has_id (ids_of_variable old v) z ≡ true) (only (unwrap_or (object_in vars key v) 0) id one) (object_in-inside old vars key v _ inside o)
                    | inr e ↦ sym (ap (λ (ids : List ℕ). has_id ids id) (same_ids (ids_of_variable old v) (object_in vars key v) (object_in-none vars key v e))) ∙ here
                  ]
              | inr g ↦
                  let past : ids_of_variable new v ≡ [] = get_or_past new v [] (subst (λ (n : ℕ). n ≤ v) (sym is.many) g) in
                  absurd (let f : false ≡ true = sym (ap (λ (ids : List ℕ). has_id ids id) past) ∙ h in cc)
            ]
          where
            only : (x y : ℕ) → has_id (x ∷ []) y ≡ true → x ≡ y
            only x y m = elim (or_cases _ _ m) [ inl e ↦ eqb-true x y e | inr e ↦ absurd (let f : false ≡ true = e in cc) ]

    -- the sizes are those with one object for each of the variables
    pub narrowed_sizes : are_known old vars ≡ true → domain_size new ≡ made_single (domain_size old) vars
    narrowed_sizes known = λ i v. at v i
      where
        at : (v : ℕ) → domain_size new v ≡ made_single (domain_size old) vars v
        at v =
            elim (cases_Bool (has_id vars v)) [
              | inl e ↦
                  ap length (is.ids v (known_one old vars v known e))
                  ∙ ap length (single (ids_of_variable old v) (object_in vars key v) (unwrap_or (object_in vars key v) 0) (object_in-some old vars key v inside e))
                  ∙ sym (ap (λ (c : Bool). if c then 1 else domain_size old v) e)
              | inr e ↦
                  rest e ∙ sym (ap (λ (c : Bool). if c then 1 else domain_size old v) e)
            ]
          where
            rest : has_id vars v ≡ false → domain_size new v ≡ domain_size old v
            rest e =
                elim (cases_lt v (length old)) [
                  | inl l ↦ ap length (is.ids v l) ∙ ap length (same_ids (ids_of_variable old v) (object_in vars key v) (object_in-none vars key v e))
                  | inr g ↦ ap length (get_or_past new v [] (subst (λ (n : ℕ). n ≤ v) (sym is.many) g)) ∙ sym (ap length (get_or_past old v [] g))
                ]

-- ---- keys of the first variables

nothing_past : (v : ℕ) → slice_index [] v ≡ slice_index (0 ∷ 0 ∷ 0 ∷ 0 ∷ []) v
nothing_past zero = refl
nothing_past (suc zero) = refl
nothing_past (suc (suc zero)) = refl
nothing_past (suc (suc (suc zero))) = refl
nothing_past (suc (suc (suc (suc v)))) = refl

one_first : (x v : ℕ) → slice_index (x ∷ []) v ≡ slice_index (x ∷ 0 ∷ 0 ∷ 0 ∷ []) v
one_first x zero = refl
one_first x (suc zero) = refl
one_first x (suc (suc zero)) = refl
one_first x (suc (suc (suc zero))) = refl
one_first x (suc (suc (suc (suc v)))) = refl

two_first : (x y v : ℕ) → slice_index (x ∷ y ∷ []) v ≡ slice_index (x ∷ y ∷ 0 ∷ 0 ∷ []) v
two_first x y zero = refl
two_first x y (suc zero) = refl
two_first x y (suc (suc zero)) = refl
two_first x y (suc (suc (suc zero))) = refl
two_first x y (suc (suc (suc (suc v)))) = refl

first_key : (vars key : List ℕ) → are_first vars ≡ true → length key ≡ length vars → (v : ℕ) → slice_index key v ≡ slice_index (binding_of vars key) v
first_key [] key first many v = absurd (let f : false ≡ true = first in cc)
first_key (a ∷ []) [] first many v = absurd (omega (arith, many))
first_key (a ∷ []) (x ∷ []) first many v =
    one_first x v ∙ (let e : a ≡ 0 = eqb-true a 0 first in λ i. slice_index (binding_of (sym e i ∷ []) (x ∷ [])) v)
first_key (a ∷ []) (x ∷ y ∷ key) first many v = absurd (omega (arith, many))
first_key (a ∷ b ∷ []) [] first many v = absurd (omega (arith, many))
first_key (a ∷ b ∷ []) (x ∷ []) first many v = absurd (omega (arith, many))
first_key (a ∷ b ∷ []) (x ∷ y ∷ []) first many v =
    let both = and_parts (a == 0) (b == 1) first in
    two_first x y v ∙ (let e : a ≡ 0 = eqb-true a 0 both.0 in let h : b ≡ 1 = eqb-true b 1 both.1 in λ i. slice_index (binding_of (sym e i ∷ sym h i ∷ []) (x ∷ y ∷ [])) v)
first_key (a ∷ b ∷ []) (x ∷ y ∷ z ∷ key) first many v = absurd (omega (arith, many))
first_key (a ∷ b ∷ c ∷ vars) key first many v = absurd (let f : false ≡ true = first in cc)

pub first_binding : (vars key : List ℕ) → are_first vars ≡ true → length key ≡ length vars → slice_index key ≡ slice_index (binding_of vars key)
first_binding vars key first many = λ i v. first_key vars key first many v i
