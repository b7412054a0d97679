-- The value of a term is within its bound: units, factors and sums.
use Rattle.std.proofs.Common.{◌≡◌, ℕ, zero, suc, ◌+◌, ◌*◌, ◌≤◌, ℤ, pos, ◌+ℤ◌, ◌*ℤ◌, neg_ℤ, unsigned_abs, Bool, true, false, Option, None, Some, List, [], ◌∷◌, map, refl, sym, ap, ◌∙◌, arith, if◌then◌else◌}
use Rattle.std.specs.Prelude.{nat_le, unwrap_or, slice_get, option_map, option_and_then}
use Rattle.std.specs.List.{fold, list_all, reduce}
use Rattle.std.specs.Ordering.{int_eq}
use Rattle.std.proofs.lemmas.Bool.{and_parts}
use Rattle.std.proofs.lemmas.Bool.Decides.{Decides-int_eq, nat_tests}
use Rattle.std.proofs.lemmas.Int.{ints, unsigned_abs-mul}
use Rattle.std.proofs.lemmas.Option.{slice_get-map}
use Rattle.std.proofs.Math.Nat.{mul-le-mul_left}
use Rattle.fixed_point.specs.declared.number.TheConstants.{FIX_LIMIT}
use Rattle.fixed_point.specs.declared.variants.SubName.{SubName}
use Rattle.tick_set.specs.declared.spans.TheConstants.{LAST_TICK}
use Rattle.motion.specs.declared.cell.Cell.{Cell}
use Rattle.motion.specs.declared.cell.Cell.TheVariants as cells
use Rattle.motion.specs.Cells.{kind_of}
use Rattle.history.specs.Catalog.{Catalog, ClassInfo}
use Rattle.history.specs.Write.{Attribute}
use Rattle.formula.specs.Bounds.{factor_bound, sub_bound, term_bound, unit_bound}
use Rattle.formula.specs.Resolved.{Scope, is_factor, is_term, is_unit}
use Rattle.formula.specs.declared.tree.RSigned.{RSigned}
use Rattle.formula.specs.declared.tree.RTerm.{RTerm}
use Rattle.formula.specs.declared.tree.RUnit.{RUnit}
use Rattle.formula.specs.declared.tree.RUnit.TheVariants as units
use Rattle.formula.specs.declared.value.Env.{Env}
use Rattle.formula.specs.declared.value.Value.{Value}
use Rattle.formula.specs.declared.value.Value.TheVariants as values
use Rattle.formula.specs.declared.value.ValueKind.{ValueKind}
use Rattle.formula.specs.declared.value.ValueKind.TheVariants.{Number, Text}
use Rattle.meaning.specs.Fits.{class_of_variable, factor_kind, kind_beside, kind_of_parts, kind_of_sum, kind_with_sign, term_kind, unit_kind}
use Rattle.meaning.specs.Reachable.{AreReachable, AreWithinBounds, IsReachable, is_reachable}
use Rattle.meaning.specs.Trace.{Trace}
use Rattle.meaning.specs.Value.{attribute_bound, cell_in, cell_value, factor_value, part_at, part_value, plus, signed_value, term_value, unit_value}
use Rattle.meaning.proofs.BoundLemmas.{cell_near, no_number, part_near}
use Rattle.exact.proofs.Items.{no_value}

-- each number that it may be is within the bound
abbrev IsNear : Option Value → ℕ → Type 0
IsNear value bound = (n : ℤ) → value ≡ Some (values.Num n) → unsigned_abs n ≤ bound

-- ---- units

pub passes_at : {A : Type 0} (p : A → Bool) (there : List A) (a : ℕ) (x : A) → list_all p there ≡ true → slice_get there a ≡ Some x → p x ≡ true
passes_at p [] a x all is = no_value x is
passes_at p (first ∷ there) zero x all is =
    let same : first ≡ x = cc in ap p (sym same) ∙ (and_parts (p first) (list_all p there) all).0
passes_at p (first ∷ there) (suc a) x all is = passes_at p there a x (and_parts (p first) (list_all p there) all).1 is

chosen_by : (b : Bool) (k : ValueKind) (o : Option ValueKind) → (if b then o else None) ≡ Some k → b ≡ true
chosen_by true k o is = refl
chosen_by false k o is = no_value k is

entry_near : (entry : Option Attribute) (cell : Option Cell) (t : ℕ) (bound : ℤ) (k : ValueKind) (n : ℤ) → t ≤ LAST_TICK →
    option_map kind_of cell ≡ option_map (λ (attribute : Attribute). attribute.kind) entry →
    ((there : Cell) → cell ≡ Some there → is_reachable t there ≡ true) →
    option_and_then (kind_beside bound) (option_map (λ (attribute : Attribute). attribute.kind) entry) ≡ Some k →
    option_map (λ there. cell_value there t) cell ≡ Some (values.Num n) → unsigned_abs n ≤ unsigned_abs bound
entry_near None cell t bound k n tick same reachable beside value = no_value k beside
entry_near (Some attribute) None t bound k n tick same reachable beside value = no_value (values.Num n) value
entry_near (Some attribute) (Some there) t bound k n tick same reachable beside value =
    let kind : kind_of there ≡ attribute.kind = cc in
    let equal : bound ≡ pos (attribute_bound attribute.kind) =
    (Decides-int_eq bound (pos (attribute_bound attribute.kind))).0
    (chosen_by (int_eq bound (pos (attribute_bound attribute.kind))) k _ beside) in
    let is : cell_value there t ≡ values.Num n = cc in
    rw (equal, sym kind) (cell_near t there n tick (reachable there refl) is)

part_of_cell : (cell : Option Cell) (t : ℕ) (part : SubName) (n : ℤ) → t ≤ LAST_TICK →
    ((there : Cell) → cell ≡ Some there → is_reachable t there ≡ true) →
    option_and_then (λ there. part_value part there t) cell ≡ Some (values.Num n) → unsigned_abs n ≤ sub_bound part
part_of_cell None t part n tick reachable value = no_value (values.Num n) value
part_of_cell (Some (cells.Num m)) t part n tick reachable value = no_value (values.Num n) value
part_of_cell (Some (cells.Text s)) t part n tick reachable value = no_value (values.Num n) value
part_of_cell (Some (cells.Dyn v)) t part n tick reachable value =
    let same : part_at part v t ≡ n = cc in
    rw (sym same) (part_near part t v tick (reachable (cells.Dyn v) refl))

-- the state of a variable, by its class
abbrev StateOf : Option ClassInfo → Option (List Cell) → ℕ → Type 0
StateOf class state t = (k : ClassInfo) (there : List Cell) → class ≡ Some k → state ≡ Some there → IsReachable k.attributes t there

attribute_near : (class : Option ClassInfo) (state : Option (List Cell)) (a t : ℕ) (bound : ℤ) (k : ValueKind) (n : ℤ) → StateOf class state t → t ≤ LAST_TICK →
    option_and_then (kind_beside bound) (option_and_then (λ info. option_map (λ (attribute : Attribute). attribute.kind) (slice_get info.attributes a)) class) ≡ Some k →
    option_map (λ cell. cell_value cell t) (cell_in state a) ≡ Some (values.Num n) → unsigned_abs n ≤ unsigned_abs bound
attribute_near None state a t bound k n states tick beside value = no_value k beside
attribute_near (Some info) None a t bound k n states tick beside value = no_value (values.Num n) value
attribute_near (Some info) (Some there) a t bound k n states tick beside value =
    let is = states info there refl refl in
    entry_near (slice_get info.attributes a) (slice_get there a) t bound k n tick
    (sym (slice_get-map kind_of there a)
    ∙ ap (λ kinds. slice_get kinds a) is.kinds
    ∙ slice_get-map (λ (attribute : Attribute). attribute.kind) info.attributes a)
    (λ cell at. passes_at (is_reachable t) there a cell is.each at) beside value

parts_near : (class : Option ClassInfo) (state : Option (List Cell)) (a t : ℕ) (part : SubName) (k : ValueKind) (n : ℤ) → StateOf class state t → t ≤ LAST_TICK →
    option_and_then kind_of_parts (option_and_then (λ info. option_map (λ (attribute : Attribute). attribute.kind) (slice_get info.attributes a)) class) ≡ Some k →
    option_and_then (λ cell. part_value part cell t) (cell_in state a) ≡ Some (values.Num n) → unsigned_abs n ≤ sub_bound part
parts_near None state a t part k n states tick kind value = no_value k kind
parts_near (Some info) None a t part k n states tick kind value = no_value (values.Num n) value
parts_near (Some info) (Some there) a t part k n states tick kind value =
    let is = states info there refl refl in
    part_of_cell (slice_get there a) t part n tick (λ cell at. passes_at (is_reachable t) there a cell is.each at) value

unit_near : (c : Catalog) (classes : List ℕ) (scope : Scope) (known : ℕ → Option ValueKind) (h : Trace) (x : Env) (t count : ℕ) →
    AreReachable c classes h t → AreWithinBounds scope x → t ≤ LAST_TICK → (u : RUnit) → is_unit count scope u ≡ true →
    (k : ValueKind) → unit_kind c classes known u ≡ Some k → IsNear (unit_value h x u t) (unit_bound u)
unit_near c classes scope known h x t count states bound tick (units.Literal m) right k kind n value =
    let same : m ≡ n = cc in rw same (omega arith)
unit_near c classes scope known h x t count states bound tick (units.Text s) right k kind n value =
    let is : values.Text s ≡ values.Num n = cc in absurd (no_number s n is)
unit_near c classes scope known h x t count states bound tick (units.Var d beside) right k kind n value =
    grind (arith, nat_tests, bound d beside n right value)
unit_near c classes scope known h x t count states bound tick (units.Attr v a beside) right k kind n value =
    attribute_near (class_of_variable c classes v) (h v t) a t beside k n (states v) tick kind value
unit_near c classes scope known h x t count states bound tick (units.Sub v a part) right k kind n value =
    parts_near (class_of_variable c classes v) (h v t) a t part k n (states v) tick kind value
unit_near c classes scope known h x t count states bound tick units.Time right k kind n value =
    let same : pos (1000 * t) ≡ n = cc in rw (sym same) (omega (arith, ints, tick))

-- ---- factors

multiple_near : (k : ℕ) (m : ℤ) (bound : ℕ) → unsigned_abs m ≤ bound → unsigned_abs (pos k *ℤ m) ≤ k * bound
multiple_near k m bound near = rw (unsigned_abs-mul (pos k) m) (mul-le-mul_left k near)

signed_near : (minus : Bool) (m : ℤ) (bound : ℕ) → unsigned_abs m ≤ bound → unsigned_abs (if minus then neg_ℤ m else m) ≤ bound
signed_near true m bound near = omega (arith, ints, near)
signed_near false m bound near = near

no_number_of : (o : Option Value) (s : List ℕ) (n : ℤ) → o ≡ Some (values.Text s) → o ≡ Some (values.Num n) → ⊥
no_number_of o s n text number = let is : values.Text s ≡ values.Num n = cc in no_number s n is

factor_near : (minus : Bool) (times : Option ℕ) (value : Option Value) (bound : ℕ) → IsNear value bound →
    IsNear (option_and_then (signed_value minus times) value) (unwrap_or times 1 * bound)
factor_near minus times None bound near n is = no_value (values.Num n) is
factor_near minus times (Some (values.Num m)) bound near n is =
    let same : (if minus then neg_ℤ (pos (unwrap_or times 1) *ℤ m) else pos (unwrap_or times 1) *ℤ m) ≡ n = cc in
    rw (sym same)
    (signed_near minus (pos (unwrap_or times 1) *ℤ m) (unwrap_or times 1 * bound) (multiple_near (unwrap_or times 1) m bound (near m refl)))
factor_near false None (Some (values.Text s)) bound near n is = absurd (no_number_of (Some (values.Text s)) s n refl is)
factor_near false (Some k) (Some (values.Text s)) bound near n is = no_value (values.Num n) is
factor_near true times (Some (values.Text s)) bound near n is = no_value (values.Num n) is

-- ---- sums

plus_near : (a b : Option Value) (first second : ℕ) → IsNear a first → IsNear b second → IsNear (plus a b) (first + second)
plus_near None None first second near other n is = no_value (values.Num n) is
plus_near None (Some b) first second near other n is = no_value (values.Num n) is
plus_near (Some (values.Num m)) None first second near other n is = no_value (values.Num n) is
plus_near (Some (values.Text s)) None first second near other n is = no_value (values.Num n) is
plus_near (Some (values.Num m)) (Some (values.Num k)) first second near other n is =
    let same : m +ℤ k ≡ n = cc in rw (sym same) (omega (arith, ints, near m refl, other k refl))
plus_near (Some (values.Num m)) (Some (values.Text s)) first second near other n is = no_value (values.Num n) is
plus_near (Some (values.Text s)) (Some (values.Num k)) first second near other n is = no_value (values.Num n) is
plus_near (Some (values.Text s)) (Some (values.Text u)) first second near other n is = no_value (values.Num n) is

-- each factor is near its bound
abbrev AreNear : (RSigned → Option Value) → List RSigned → Type 0
AreNear value [] = Unit {0}
AreNear value (s ∷ factors) = IsNear (value s) (factor_bound s) × AreNear value factors

-- the bound of what is added, past a bound
abbrev bound_after : ℕ → List RSigned → ℕ
bound_after bound factors = fold (λ sum s. sum + factor_bound s) bound factors

sum_near : (value : RSigned → Option Value) (factors : List RSigned) (so_far : Option Value) (bound : ℕ) → IsNear so_far bound →
    AreNear value factors → IsNear (fold plus so_far (map value factors)) (bound_after bound factors)
sum_near value [] so_far bound near each n is = near n is
sum_near value (s ∷ factors) so_far bound near each n is =
    sum_near value factors (plus so_far (value s)) (bound + factor_bound s)
    (plus_near so_far (value s) bound (factor_bound s) near each.0) each.1 n is

from_zero : (bound : ℕ) (value : Option Value) → IsNear value bound → IsNear value (0 + bound)
from_zero bound value near n is = omega (arith, near n is)

all_near : (value : RSigned → Option Value) (factors : List RSigned) → AreNear value factors →
    IsNear (unwrap_or (reduce plus (map value factors)) None) (bound_after 0 factors)
all_near value [] each n is = no_value (values.Num n) is
all_near value (s ∷ factors) each n is =
    sum_near value factors (value s) (0 + factor_bound s) (from_zero (factor_bound s) (value s) each.0) each.1 n is

-- ---- a term whose factors all have a kind

kind_none : (o : Option ValueKind) → kind_of_sum o None ≡ None
kind_none None = refl
kind_none (Some Number) = refl
kind_none (Some Text) = refl

none_kind : (o : Option ValueKind) → kind_of_sum None o ≡ None
none_kind None = refl
none_kind (Some k) = refl

fold_none : (others : List (Option ValueKind)) → fold kind_of_sum None others ≡ None
fold_none [] = refl
fold_none (o ∷ others) = ap (λ so_far. fold kind_of_sum so_far others) (none_kind o) ∙ fold_none others

-- the kinds of all that are added are there
abbrev pub HaveKinds : (RSigned → Option ValueKind) → List RSigned → Type 0
HaveKinds kind [] = Unit {0}
HaveKinds kind (s ∷ factors) = ((k : ValueKind) × (kind s ≡ Some k)) × HaveKinds kind factors

has_kind : (so_far o : Option ValueKind) (others : List (Option ValueKind)) (k : ValueKind) →
    fold kind_of_sum (kind_of_sum so_far o) others ≡ Some k → (l : ValueKind) × (o ≡ Some l)
has_kind so_far None others k is =
    no_value k (sym (ap (λ sum. fold kind_of_sum sum others) (kind_none so_far) ∙ fold_none others) ∙ is)
has_kind so_far (Some l) others k is = (l, refl)

have_kinds : (kind : RSigned → Option ValueKind) (factors : List RSigned) (so_far : Option ValueKind) (k : ValueKind) →
    fold kind_of_sum so_far (map kind factors) ≡ Some k → HaveKinds kind factors
have_kinds kind [] so_far k is = tt
have_kinds kind (s ∷ factors) so_far k is =
    (has_kind so_far (kind s) (map kind factors) k is, have_kinds kind factors (kind_of_sum so_far (kind s)) k is)

first_kind : (o : Option ValueKind) (others : List (Option ValueKind)) (k : ValueKind) →
    fold kind_of_sum o others ≡ Some k → (l : ValueKind) × (o ≡ Some l)
first_kind None others k is = no_value k (sym (fold_none others) ∙ is)
first_kind (Some l) others k is = (l, refl)

pub all_have_kinds : (kind : RSigned → Option ValueKind) (factors : List RSigned) (k : ValueKind) →
    unwrap_or (reduce kind_of_sum (map kind factors)) None ≡ Some k → HaveKinds kind factors
all_have_kinds kind [] k is = tt
all_have_kinds kind (s ∷ factors) k is = (first_kind (kind s) (map kind factors) k is, have_kinds kind factors (kind s) k is)

pub kind_of_unit : (minus : Bool) (times : Option ℕ) (o : Option ValueKind) (k : ValueKind) → option_and_then (kind_with_sign minus times) o ≡ Some k →
    (l : ValueKind) × (o ≡ Some l)
kind_of_unit minus times None k is = no_value k is
kind_of_unit minus times (Some l) k is = (l, refl)

-- ---- a term

module _ (c : Catalog) (classes : List ℕ) (scope : Scope) (known : ℕ → Option ValueKind) (h : Trace) (x : Env) (t count : ℕ)
    (states : AreReachable c classes h t) (bound : AreWithinBounds scope x) (tick : t ≤ LAST_TICK) where
  factors_near : (factors : List RSigned) → list_all (is_factor count scope) factors ≡ true → HaveKinds (factor_kind c classes known) factors →
      AreNear (factor_value h x t) factors
  factors_near [] right kinds = tt
  factors_near (s ∷ factors) right kinds =
      let parts = and_parts (is_factor count scope s) (list_all (is_factor count scope) factors) right in
      let unit = and_parts _ (is_unit count scope s.unit) parts.0 in
      let kind = kind_of_unit s.minus s.times (unit_kind c classes known s.unit) kinds.0.0 kinds.0.1 in (
        factor_near s.minus s.times (unit_value h x s.unit t) (unit_bound s.unit)
            (unit_near c classes scope known h x t count states bound tick s.unit unit.1 kind.0 kind.1),
        factors_near factors parts.1 kinds.1,
      )

  pub term_near : (q : RTerm) → is_term count scope q ≡ true → (k : ValueKind) → term_kind c classes known q ≡ Some k →
      (n : ℤ) → term_value h q x t ≡ Some (values.Num n) → unsigned_abs n ≤ term_bound q
  term_near q right k kind n value =
      let outer = and_parts _ (nat_le (term_bound q) FIX_LIMIT) right in
      let inner = and_parts _ (list_all (is_factor count scope) q.factors) outer.0 in
      all_near (factor_value h x t) q.factors
      (factors_near q.factors inner.1 (all_have_kinds (factor_kind c classes known) q.factors k kind)) n value
