-- Terms and atoms where an object is absent, and the value of a term whose objects are present.
use Rattle.std.proofs.Common.{◌≡◌, ℕ, ◌⊎◌, Bool, true, false, Option, None, Some, List, [], ◌∷◌, map, ℤ, not, refl, sym, ap, ◌∙◌, inl, inr, arith, if◌then◌else◌}
use Rattle.std.specs.Prelude.{◌==◌, ◌↔◌, unwrap_or, option_map, option_and_then, slice_get}
use Rattle.std.specs.List.{fold, list_any, reduce}
use Rattle.std.specs.Option.{option_map_or}
use Rattle.std.proofs.lemmas.Bool.{false≢true, or_cases, or_left, or_right}
use Rattle.std.proofs.lemmas.Bool.Decides.{nat_tests}
use Rattle.std.proofs.lemmas.Option.{slice_get-map}
use Rattle.case_table.specs.declared.compare.Op.{Op}
use Rattle.fixed_point.specs.declared.number.Point.{Point}
use Rattle.fixed_point.specs.declared.variants.SubName.{SubName}
use Rattle.geometry.specs.Circle.{fits}
use Rattle.geometry.specs.Region.{Region}
use Rattle.motion.specs.declared.cell.Cell.{Cell}
use Rattle.motion.specs.declared.cell.Cell.TheVariants as cells
use Rattle.motion.specs.Cells.{kind_of}
use Rattle.history.specs.Catalog.{Catalog, ClassInfo}
use Rattle.history.specs.Write.{Attribute}
use Rattle.formula.specs.declared.tree.RAtom.{RAtom}
use Rattle.formula.specs.declared.tree.RAtom.TheVariants as atoms
use Rattle.formula.specs.declared.tree.RSigned.{RSigned}
use Rattle.formula.specs.declared.tree.RTerm.{RTerm}
use Rattle.formula.specs.declared.tree.RUnit.{RUnit}
use Rattle.formula.specs.declared.tree.RUnit.TheVariants as units
use Rattle.formula.specs.declared.value.Env.{Env}
use Rattle.formula.specs.declared.value.Value.{Value}
use Rattle.formula.specs.declared.value.Value.TheVariants as values
use Rattle.formula.specs.Variables.{unit_has, term_has, atom_has}
use Rattle.formula.specs.declared.value.ValueKind.{ValueKind}
use Rattle.meaning.specs.Atom.{atom_holds, distance_holds, is_in_region, position_in, positions_of}
use Rattle.meaning.specs.Fits.{BindsKinds, class_of_variable, factor_kind, kind_beside, kind_of_parts, kind_of_sum, kind_of_values, kind_with_sign, term_kind, unit_kind, value_kind}
use Rattle.meaning.specs.Reachable.{FitTheirClasses}
use Rattle.meaning.specs.Trace.{Trace}
use Rattle.meaning.specs.Value.{cell_in, cell_value, factor_value, part_value, plus, signed_value, term_value, unit_value, values_compare}
use Rattle.meaning.proofs.TermLemmas.{HaveKinds, all_have_kinds, kind_of_unit}
use Rattle.exact.proofs.Naturals.{equals_itself}
use Rattle.exact.proofs.Items.{no_value}

-- ---- a term of an absent object has no value

absent_too : (h : Trace) (t v o : ℕ) → h v t ≡ None → (o == v) ≡ true → h o t ≡ None
absent_too h t v o absent is =
    let same : o ≡ v = grind (arith, nat_tests, is) in ap (λ i. h i t) same ∙ absent

absent_unit : (h : Trace) (x : Env) (t v : ℕ) → h v t ≡ None → (u : RUnit) → unit_has v u ≡ true → unit_value h x u t ≡ None
absent_unit h x t v absent (units.Literal n) has = absurd (false≢true has)
absent_unit h x t v absent (units.Text s) has = absurd (false≢true has)
absent_unit h x t v absent (units.Var d bound) has = absurd (false≢true has)
absent_unit h x t v absent (units.Attr o a bound) has =
    ap (λ there. option_map (λ cell. cell_value cell t) (cell_in there a)) (absent_too h t v o absent has)
absent_unit h x t v absent (units.Sub o a part) has =
    ap (λ there. option_and_then (λ cell. part_value part cell t) (cell_in there a)) (absent_too h t v o absent has)
absent_unit h x t v absent units.Time has = absurd (false≢true has)

absent_factor : (h : Trace) (x : Env) (t v : ℕ) → h v t ≡ None → (s : RSigned) → unit_has v s.unit ≡ true → factor_value h x t s ≡ None
absent_factor h x t v absent s has = ap (option_and_then (signed_value s.minus s.times)) (absent_unit h x t v absent s.unit has)

plus_none : (value : Option Value) → plus value None ≡ None
plus_none None = refl
plus_none (Some (values.Num n)) = refl
plus_none (Some (values.Text s)) = refl

none_plus : (value : Option Value) → plus None value ≡ None
none_plus None = refl
none_plus (Some value) = refl

none_sums : (others : List (Option Value)) → fold plus None others ≡ None
none_sums [] = refl
none_sums (o ∷ others) = ap (λ so_far. fold plus so_far others) (none_plus o) ∙ none_sums others

absent_sum : (h : Trace) (x : Env) (t v : ℕ) → h v t ≡ None → (factors : List RSigned) (so_far : Option Value) →
    list_any (λ s. unit_has v s.unit) factors ≡ true → fold plus so_far (map (factor_value h x t) factors) ≡ None
absent_sum h x t v absent [] so_far has = absurd (false≢true has)
absent_sum h x t v absent (s ∷ factors) so_far has =
    elim (or_cases (unit_has v s.unit) (list_any (λ r. unit_has v r.unit) factors) has) [
      | inl here ↦
          ap (λ value. fold plus (plus so_far value) (map (factor_value h x t) factors)) (absent_factor h x t v absent s here)
          ∙ ap (λ sum. fold plus sum (map (factor_value h x t) factors)) (plus_none so_far)
          ∙ none_sums (map (factor_value h x t) factors)
      | inr later ↦ absent_sum h x t v absent factors (plus so_far (factor_value h x t s)) later
    ]

absent_factors : (h : Trace) (x : Env) (t v : ℕ) → h v t ≡ None → (factors : List RSigned) →
    list_any (λ s. unit_has v s.unit) factors ≡ true → unwrap_or (reduce plus (map (factor_value h x t) factors)) None ≡ None
absent_factors h x t v absent [] has = absurd (false≢true has)
absent_factors h x t v absent (s ∷ factors) has =
    elim (or_cases (unit_has v s.unit) (list_any (λ r. unit_has v r.unit) factors) has) [
      | inl here ↦
          ap (λ value. fold plus value (map (factor_value h x t) factors)) (absent_factor h x t v absent s here)
          ∙ none_sums (map (factor_value h x t) factors)
      | inr later ↦ absent_sum h x t v absent factors (factor_value h x t s) later
    ]

absent_term : (h : Trace) (x : Env) (t v : ℕ) → h v t ≡ None → (q : RTerm) → term_has v q ≡ true → term_value h q x t ≡ None
absent_term h x t v absent q has = absent_factors h x t v absent q.factors has

-- ---- an atom of an absent object is false

none_compares : (op : Op) (value : Option Value) → values_compare op None value ≡ false
none_compares op None = refl
none_compares op (Some (values.Num n)) = refl
none_compares op (Some (values.Text s)) = refl

compares_none : (op : Op) (value : Option Value) → values_compare op value None ≡ false
compares_none op None = refl
compares_none op (Some (values.Num n)) = refl
compares_none op (Some (values.Text s)) = refl

to_nowhere : (op : Op) (c : ℤ) (from : Option Point) → distance_holds op c from None ≡ false
to_nowhere op c None = refl
to_nowhere op c (Some p) = refl

with_nowhere : (first : Option Point) → option_and_then (λ p. option_map (λ (ps : List Point). p ∷ ps) None) first ≡ None
with_nowhere None = refl
with_nowhere (Some p) = refl

absent_positions : (h : Trace) (t v : ℕ) → h v t ≡ None → (vs : List ℕ) → list_any (λ u. u == v) vs ≡ true → positions_of h t vs ≡ None
absent_positions h t v absent [] has = absurd (false≢true has)
absent_positions h t v absent (u ∷ vs) has =
    elim (or_cases (u == v) (list_any (λ r. r == v) vs) has) [
      | inl here ↦
          ap (λ there. option_and_then (λ p. option_map (λ ps. p ∷ ps) (positions_of h t vs)) (position_in t there))
          (absent_too h t v u absent here)
      | inr later ↦
          ap (λ (ps : Option (List Point)). option_and_then (λ p. option_map (λ others. p ∷ others) ps) (position_in t (h u t)))
          (absent_positions h t v absent vs later)
          ∙ with_nowhere (position_in t (h u t))
    ]

pub absent_atom : (regions : List Region) (h : Trace) (a : RAtom) (x : Env) (t v : ℕ) → atom_has v a ≡ true → h v t ≡ None →
    atom_holds regions h a x t ≡ false
absent_atom regions h (atoms.Compare q op r) x t v has absent =
    elim (or_cases (term_has v q) (term_has v r) has) [
      | inl here ↦
          ap (λ value. values_compare op value (term_value h r x t)) (absent_term h x t v absent q here)
          ∙ none_compares op (term_value h r x t)
      | inr there ↦
          ap (λ value. values_compare op (term_value h q x t) value) (absent_term h x t v absent r there)
          ∙ compares_none op (term_value h q x t)
    ]
absent_atom regions h (atoms.Inside o n) x t v has absent =
    ap (λ there. option_map_or (is_in_region regions n) (position_in t there) false) (absent_too h t v o absent has)
absent_atom regions h (atoms.Outside o n) x t v has absent =
    ap (λ there. option_map_or (λ p. not (is_in_region regions n p)) (position_in t there) false) (absent_too h t v o absent has)
absent_atom regions h (atoms.Dist o u op c) x t v has absent =
    elim (or_cases (o == v) (u == v) has) [
      | inl here ↦ ap (λ there. distance_holds op c (position_in t there) (position_in t (h u t))) (absent_too h t v o absent here)
      | inr there ↦
          ap (λ state. distance_holds op c (position_in t (h o t)) (position_in t state)) (absent_too h t v u absent there)
          ∙ to_nowhere op c (position_in t (h o t))
    ]
absent_atom regions h (atoms.Sphere r vs) x t v has absent =
    ap (λ ps. option_map_or (fits r) ps false) (absent_positions h t v absent vs has)

-- ---- the kind of a value

kind_of_cell : (cell : Cell) (t : ℕ) → value_kind (cell_value cell t) ≡ kind_of_values (kind_of cell)
kind_of_cell (cells.Num n) t = refl
kind_of_cell (cells.Text s) t = refl
kind_of_cell (cells.Dyn v) t = refl

kind_of_part : (cell : Cell) (part : SubName) (t : ℕ) (k : ValueKind) → kind_of_parts (kind_of cell) ≡ Some k →
    option_map value_kind (part_value part cell t) ≡ Some k
kind_of_part (cells.Num n) part t k kind = no_value k kind
kind_of_part (cells.Text s) part t k kind = no_value k kind
kind_of_part (cells.Dyn v) part t k kind = kind

kind_chosen : (b : Bool) (kind k : ValueKind) → (if b then Some kind else None) ≡ Some k → kind ≡ k
kind_chosen true kind k is = cc
kind_chosen false kind k is = no_value k is

signed_kind : (minus : Bool) (times : Option ℕ) (value : Option Value) →
    option_map value_kind (option_and_then (signed_value minus times) value) ≡ option_and_then (kind_with_sign minus times) (option_map value_kind value)
signed_kind minus times None = refl
signed_kind minus times (Some (values.Num n)) = refl
signed_kind false None (Some (values.Text s)) = refl
signed_kind false (Some k) (Some (values.Text s)) = refl
signed_kind true times (Some (values.Text s)) = refl

plus_kind : (a b : Option Value) → option_map value_kind (plus a b) ≡ kind_of_sum (option_map value_kind a) (option_map value_kind b)
plus_kind None None = refl
plus_kind None (Some (values.Num n)) = refl
plus_kind None (Some (values.Text s)) = refl
plus_kind (Some (values.Num m)) None = refl
plus_kind (Some (values.Num m)) (Some (values.Num n)) = refl
plus_kind (Some (values.Num m)) (Some (values.Text s)) = refl
plus_kind (Some (values.Text s)) None = refl
plus_kind (Some (values.Text s)) (Some (values.Num n)) = refl
plus_kind (Some (values.Text s)) (Some (values.Text u)) = refl

fold_kind : (value : RSigned → Option Value) (factors : List RSigned) (so_far : Option Value) →
    option_map value_kind (fold plus so_far (map value factors))
    ≡ fold kind_of_sum (option_map value_kind so_far) (map (λ s. option_map value_kind (value s)) factors)
fold_kind value [] so_far = refl
fold_kind value (s ∷ factors) so_far =
    fold_kind value factors (plus so_far (value s))
    ∙ ap (λ sum. fold kind_of_sum sum (map (λ r. option_map value_kind (value r)) factors)) (plus_kind so_far (value s))

sum_kind : (value : RSigned → Option Value) (factors : List RSigned) →
    option_map value_kind (unwrap_or (reduce plus (map value factors)) None)
    ≡ unwrap_or (reduce kind_of_sum (map (λ s. option_map value_kind (value s)) factors)) None
sum_kind value [] = refl
sum_kind value (s ∷ factors) = fold_kind value factors (value s)

-- ---- a term has a value of its kind, or an object of it is absent

-- the states of a variable have the kinds of its class
abbrev OfClass : Option ClassInfo → Option (List Cell) → Type 0
OfClass class state = (k : ClassInfo) (there : List Cell) → class ≡ Some k → state ≡ Some there →
    map kind_of there ≡ map (λ attribute. attribute.kind) k.attributes

entry_kind : (entry : Option Attribute) (cell : Option Cell) (t : ℕ) (bound : ℤ) (k : ValueKind) →
    option_map kind_of cell ≡ option_map (λ (attribute : Attribute). attribute.kind) entry →
    option_and_then (kind_beside bound) (option_map (λ (attribute : Attribute). attribute.kind) entry) ≡ Some k →
    option_map value_kind (option_map (λ there. cell_value there t) cell) ≡ Some k
entry_kind None cell t bound k same beside = no_value k beside
entry_kind (Some attribute) None t bound k same beside = no_value attribute.kind same
entry_kind (Some attribute) (Some there) t bound k same beside =
    let kind : kind_of there ≡ attribute.kind = cc in
    let is : kind_of_values attribute.kind ≡ k = kind_chosen _ (kind_of_values attribute.kind) k beside in
    ap Some (kind_of_cell there t ∙ ap kind_of_values kind ∙ is)

part_kind : (entry : Option Attribute) (cell : Option Cell) (t : ℕ) (part : SubName) (k : ValueKind) →
    option_map kind_of cell ≡ option_map (λ (attribute : Attribute). attribute.kind) entry →
    option_and_then kind_of_parts (option_map (λ (attribute : Attribute). attribute.kind) entry) ≡ Some k →
    option_map value_kind (option_and_then (λ there. part_value part there t) cell) ≡ Some k
part_kind None cell t part k same kind = no_value k kind
part_kind (Some attribute) None t part k same kind = no_value attribute.kind same
part_kind (Some attribute) (Some there) t part k same kind =
    let its : kind_of there ≡ attribute.kind = cc in
    kind_of_part there part t k (ap kind_of_parts its ∙ kind)

entries_alike : (info : ClassInfo) (there : List Cell) (a : ℕ) → map kind_of there ≡ map (λ (attribute : Attribute). attribute.kind) info.attributes →
    option_map kind_of (slice_get there a) ≡ option_map (λ (attribute : Attribute). attribute.kind) (slice_get info.attributes a)
entries_alike info there a kinds =
    sym (slice_get-map kind_of there a)
    ∙ ap (λ of. slice_get of a) kinds
    ∙ slice_get-map (λ (attribute : Attribute). attribute.kind) info.attributes a

attribute_told : (class : Option ClassInfo) (state : Option (List Cell)) (a t : ℕ) (bound : ℤ) (k : ValueKind) → OfClass class state →
    option_and_then (kind_beside bound) (option_and_then (λ info. option_map (λ (attribute : Attribute). attribute.kind) (slice_get info.attributes a)) class) ≡ Some k →
    (option_map value_kind (option_map (λ cell. cell_value cell t) (cell_in state a)) ≡ Some k) ⊎ (state ≡ None)
attribute_told None state a t bound k states beside = no_value k beside
attribute_told (Some info) None a t bound k states beside = inr refl
attribute_told (Some info) (Some there) a t bound k states beside =
    inl
    (entry_kind (slice_get info.attributes a) (slice_get there a) t bound k (entries_alike info there a (states info there refl refl)) beside)

parts_told : (class : Option ClassInfo) (state : Option (List Cell)) (a t : ℕ) (part : SubName) (k : ValueKind) → OfClass class state →
    option_and_then kind_of_parts (option_and_then (λ info. option_map (λ (attribute : Attribute). attribute.kind) (slice_get info.attributes a)) class) ≡ Some k →
    (option_map value_kind (option_and_then (λ cell. part_value part cell t) (cell_in state a)) ≡ Some k) ⊎ (state ≡ None)
parts_told None state a t part k states kind = no_value k kind
parts_told (Some info) None a t part k states kind = inr refl
parts_told (Some info) (Some there) a t part k states kind =
    inl
    (part_kind (slice_get info.attributes a) (slice_get there a) t part k (entries_alike info there a (states info there refl refl)) kind)

-- one of the variables that pass a test has no state
abbrev IsAbsent : Trace → ℕ → (ℕ → Bool) → Type 0
IsAbsent h t has = (v : ℕ) × (has v ≡ true) × (h v t ≡ None)

of_variable : {A : Type 0} (h : Trace) (t v : ℕ) → A ⊎ (h v t ≡ None) → A ⊎ IsAbsent h t (λ u. v == u)
of_variable h t v told = elim told [ inl is ↦ inl is | inr absent ↦ inr (v, equals_itself v, absent) ]

module _ (c : Catalog) (classes : List ℕ) (known : ℕ → Option ValueKind) (h : Trace) (x : Env) (t : ℕ)
    (states : FitTheirClasses c classes h t) (bound : BindsKinds known x) where
  unit_told : (u : RUnit) (k : ValueKind) → unit_kind c classes known u ≡ Some k →
      (option_map value_kind (unit_value h x u t) ≡ Some k) ⊎ IsAbsent h t (λ v. unit_has v u)
  unit_told (units.Literal n) k kind = inl kind
  unit_told (units.Text s) k kind = inl kind
  unit_told (units.Var d beside) k kind = inl (bound d k kind)
  unit_told (units.Attr v a beside) k kind =
      of_variable h t v (attribute_told (class_of_variable c classes v) (h v t) a t beside k (states v) kind)
  unit_told (units.Sub v a part) k kind =
      of_variable h t v (parts_told (class_of_variable c classes v) (h v t) a t part k (states v) kind)
  unit_told units.Time k kind = inl kind

  factor_told : (s : RSigned) (k : ValueKind) → factor_kind c classes known s ≡ Some k →
      (option_map value_kind (factor_value h x t s) ≡ factor_kind c classes known s) ⊎ IsAbsent h t (λ v. unit_has v s.unit)
  factor_told s k kind =
      let of = kind_of_unit s.minus s.times (unit_kind c classes known s.unit) k kind in
      elim (unit_told s.unit of.0 of.1) [
        | inl is ↦
            inl
            (signed_kind s.minus s.times (unit_value h x s.unit t)
            ∙ ap (option_and_then (kind_with_sign s.minus s.times)) (is ∙ sym of.1))
        | inr absent ↦ inr absent
      ]

  factors_told : (factors : List RSigned) → HaveKinds (factor_kind c classes known) factors →
      (map (λ s. option_map value_kind (factor_value h x t s)) factors ≡ map (factor_kind c classes known) factors)
      ⊎ IsAbsent h t (λ v. list_any (λ s. unit_has v s.unit) factors)
  factors_told [] kinds = inl refl
  factors_told (s ∷ factors) kinds =
      elim (factor_told s kinds.0.0 kinds.0.1) [
        | inr absent ↦ inr (absent.0, or_left (unit_has absent.0 s.unit) _ absent.1, absent.2)
        | inl first ↦
            elim (factors_told factors kinds.1) [
              | inr absent ↦ inr (absent.0, or_right (unit_has absent.0 s.unit) _ absent.1, absent.2)
              | inl others ↦
                  inl
                  (ap (λ kind. kind ∷ map (λ r. option_map value_kind (factor_value h x t r)) factors) first
                  ∙ ap (λ (later : List (Option ValueKind)). factor_kind c classes known s ∷ later) others)
            ]
      ]

  term_told : (q : RTerm) (k : ValueKind) → term_kind c classes known q ≡ Some k →
      (option_map value_kind (term_value h q x t) ≡ Some k) ⊎ IsAbsent h t (λ v. term_has v q)
  term_told q k kind =
      elim (factors_told q.factors (all_have_kinds (factor_kind c classes known) q.factors k kind)) [
        | inl kinds ↦
            inl
            (sum_kind (factor_value h x t) q.factors
            ∙ ap (λ (kinds : List (Option ValueKind)). unwrap_or (reduce kind_of_sum kinds) None) kinds
            ∙ kind)
        | inr absent ↦ inr absent
      ]

  none_absent : (q : RTerm) (k : ValueKind) → term_kind c classes known q ≡ Some k → term_value h q x t ≡ None →
      (v : ℕ) × (term_has v q ≡ true) × (h v t ≡ None)
  none_absent q k kind none =
      elim (term_told q k kind) [
        | inl is ↦ no_value k (sym (ap (option_map value_kind) none) ∙ is)
        | inr absent ↦ absent
      ]

  pub no_value_where_absent : (q : RTerm) (k : ValueKind) → term_kind c classes known q ≡ Some k →
      (term_value h q x t ≡ None) ↔ ((v : ℕ) × (term_has v q ≡ true) × (h v t ≡ None))
  no_value_where_absent q k kind = (none_absent q k kind, λ absent. absent_term h x t absent.0 absent.2 q absent.1)

  pub value_has_kind : (q : RTerm) (k : ValueKind) → term_kind c classes known q ≡ Some k → (value : Value) →
      term_value h q x t ≡ Some value → value_kind value ≡ k
  value_has_kind q k kind value is =
      elim (term_told q k kind) [
        | inl told ↦ let same : Some (value_kind value) ≡ Some k = sym (ap (option_map value_kind) is) ∙ told in cc
        | inr absent ↦ no_value value (sym (absent_term h x t absent.0 absent.2 q absent.1) ∙ is)
      ]
