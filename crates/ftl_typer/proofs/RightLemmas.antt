-- A query without a fault is right by number, and fits its classes.
use Rattle.std.proofs.Common.{◌≡◌, ℕ, ◌+◌, ◌<◌, ◌≤◌, ℤ, pos, negsuc, Bool, true, false, not, ◌&&◌, ◌||◌, eqb, List, [], ◌∷◌, ◌++◌, length, map, fold, Option, None, Some, refl, ap, subst, ◌∙◌, arith, length-append}
use Rattle.std.specs.Prelude.{int_le, is_none, nat_lt, nat_le, unsigned_abs, unwrap_or, option_and_then, if◌then◌else◌}
use Rattle.std.specs.List.{AllByRecursion, list_all, list_any, reduce}
use Rattle.std.specs.Option.{option_map_or}
use Rattle.std.specs.Str.{bytes_eq}
use Rattle.std.proofs.lemmas.Bool.{false≢true, true≢false, and_from, eq-eqb, le-leb, lt-ltb, not-false}
use Rattle.std.proofs.lemmas.Bool.Decides.{nat_tests}
use Rattle.std.proofs.lemmas.Int.{ints}
use Rattle.std.proofs.lemmas.List.{length-map}
use Rattle.case_table.specs.declared.compare.Op.{Op}
use Rattle.case_table.specs.declared.compare.Op.TheVariants as ops
use Rattle.fixed_point.specs.declared.number.TheConstants.{FIX_LIMIT, READ_LIMIT}
use Rattle.fixed_point.specs.declared.variants.UntilForm.{UntilForm}
use Rattle.fixed_point.specs.declared.variants.UntilForm.TheVariants as untils
use Rattle.geometry.specs.Region.{Region}
use Rattle.geometry.specs.declared.limits.TheConstants.{RADIUS_LIMIT}
use Rattle.tick_set.specs.declared.spans.TheConstants.{LAST_TICK}
use Rattle.motion.specs.declared.cell.AttrKind.{AttrKind}
use Rattle.motion.specs.declared.cell.AttrKind.TheVariants as attribute_kinds
use Rattle.history.specs.Catalog.{Catalog}
use Rattle.formula_shape.specs.Shape as shapes
use Rattle.formula_shape.specs.Sizes.{nesting}
use Rattle.formula.specs.Bounds.{term_bound}
use Rattle.formula.specs.Resolved.{is_atom, is_factor, is_formula, is_list_of, is_term, is_unit, is_until, is_within, with_bound}
use Rattle.formula_shape.specs.declared.limits.TheConstants as limits
use Rattle.meaning.specs.Fits as fits
use Rattle.meaning.specs.Value.{attribute_bound}
use Rattle.ftl_parser.specs.declared.tree.Atom as atom_type
use Rattle.ftl_parser.specs.declared.tree.Atom.TheVariants as atoms
use Rattle.ftl_parser.specs.declared.tree.FromPart.{FromPart}
use Rattle.ftl_parser.specs.declared.tree.Signed.{Signed}
use Rattle.ftl_parser.specs.declared.tree.Term.{Term}
use Rattle.ftl_parser.specs.declared.tree.Unit as unit_type
use Rattle.ftl_parser.specs.declared.tree.Unit.TheVariants as units
use Rattle.ftl_parser.specs.Lawful.{AreUntilTicks, IsAny, IsAtom, IsFactor, IsFormula, IsMultiple, IsTerm, IsUnit, IsUnsigned, OneOrMore}
use Rattle.ftl_parser.specs.Order.{formula_names, formula_terms, term_names, unit_names}
use Rattle.ftl_parser.specs.Sizes.{atom_factors, atom_objects, factors, objects}
use Rattle.ftl_parser.specs.Tree.{Tree}
use Rattle.ftl_typer.specs.declared.found.FaultKind.TheVariants.{UnknownName, WrongKind, TermRange}
use Rattle.ftl_typer.specs.declared.values.Assigned.{Assigned}
use Rattle.formula.specs.declared.value.ValueKind.{ValueKind}
use Rattle.formula.specs.declared.value.ValueKind.TheVariants.{Number, Text}
use Rattle.formula.specs.Kinds.{may_compare}
use Rattle.ftl_typer.specs.Faults.{assigned_faults, atom_faults, attribute_faults, factors_faults, formula_faults, object_faults, point_faults, points_faults, region_faults, term_faults, unit_faults}
use Rattle.ftl_typer.specs.Fault.{fault_if}
use Rattle.ftl_typer.specs.Resolved.{region_place, resolved_atom, resolved_formula}
use Rattle.ftl_typer.specs.Scope.{NameScope, assigned, bound_in_range, has_no_parts, has_text, is_bare, is_kind_of_text, is_misplaced_text, is_no_object, is_no_point, is_past_range, is_point, is_static, is_text_kind, is_text_unit, is_unknown, is_value, is_variable, lacks_attribute, named_attribute_kind, named_term_kind, resolved_factor, resolved_term, resolved_unit, scope_with, variable_number, with_assigned}
use Rattle.ftl_typer.proofs.FaultLemmas.{none_if, parts_of_none}
use Rattle.ftl_typer.proofs.PlaceLemmas.{AreThere, attribute_is, bounds_more, bounds_of, kind_where, kinds_more, kinds_of, numbers_of, place_below, point_is, some_there, value_bound_is, value_kind_is, variable_below}
use Rattle.exact.proofs.Truths.{both_false, second_false}

-- ---- tests

object_known : (a b : Bool) → (not a && not b) ≡ false → (not a && b) ≡ false → a ≡ true
object_known true b known object = refl
object_known false true known object = absurd (true≢false object)
object_known false false known object = absurd (true≢false known)

value_known : (a b : Bool) → (not a && not b) ≡ false → a ≡ false → b ≡ true
value_known true b known value = absurd (true≢false value)
value_known false true known value = refl
value_known false false known value = absurd (true≢false known)

one_of : (a : Bool) → (a || false) ≡ true → a ≡ true
one_of true h = refl
one_of false h = absurd (false≢true h)

listed : {A B : Type 0} (f : A → B) (limit : ℕ) (xs : List A) → 0 < length xs → length xs ≤ limit → is_list_of limit (map f xs) ≡ true
listed f limit xs some few =
    ap (λ (n : ℕ). nat_lt 0 n && nat_le n limit) (length-map xs f)
    ∙ and_from (nat_lt 0 (length xs)) (nat_le (length xs) limit) (lt-ltb 0 (length xs) some) (le-leb (length xs) limit few)

pub some_items : {X : Type 0} (P : X → Type 0) (xs : List X) → OneOrMore P xs → 0 < length xs
some_items P [] h = absurd h
some_items P (x ∷ xs) h = omega arith

pub all_items : {X : Type 0} (P : X → Type 0) (xs : List X) → OneOrMore P xs → AllByRecursion P xs
all_items P [] h = absurd h
all_items P (x ∷ xs) h = h

-- ---- kinds

abbrev number : Option ValueKind
number = Some Number

kind_of_attribute : (r : Option AttrKind) → is_none r ≡ false →
    option_and_then (fits.kind_beside (pos (option_map_or attribute_bound r 0))) r
    ≡ Some (kind_where (option_map_or is_text_kind r false))
kind_of_attribute None has = absurd (true≢false has)
kind_of_attribute (Some attribute_kinds.Num) has = refl
kind_of_attribute (Some attribute_kinds.Text) has = refl
kind_of_attribute (Some attribute_kinds.Dyn) has = refl

kind_of_part : (r : Option AttrKind) → is_none r ≡ false → option_map_or is_static r false ≡ false →
    option_and_then fits.kind_of_parts r ≡ number
kind_of_part None has moves = absurd (true≢false has)
kind_of_part (Some attribute_kinds.Num) has moves = absurd (true≢false moves)
kind_of_part (Some attribute_kinds.Text) has moves = absurd (true≢false moves)
kind_of_part (Some attribute_kinds.Dyn) has moves = refl

number_with_sign : (minus : Bool) (times : Option ℕ) → fits.kind_with_sign minus times Number ≡ number
number_with_sign true None = refl
number_with_sign true (Some k) = refl
number_with_sign false None = refl
number_with_sign false (Some k) = refl

text_without_sign : (minus : Bool) (times : Option ℕ) → (not minus && is_none times) ≡ true →
    fits.kind_with_sign minus times Text ≡ Some Text
text_without_sign true times bare = absurd (false≢true bare)
text_without_sign false None bare = refl
text_without_sign false (Some k) bare = absurd (false≢true bare)

compares : (left right : Bool) (op : Op) → may_compare (if left then Text else Number) op (if right then Text else Number) ≡ true →
    fits.kinds_compare op (Some (kind_where left)) (Some (kind_where right)) ≡ true
compares false false op may = refl
compares false true op may = absurd (false≢true may)
compares true false op may = absurd (false≢true may)
compares true true ops.Eq may = refl
compares true true ops.Ne may = refl
compares true true ops.Lt may = absurd (false≢true may)
compares true true ops.Le may = absurd (false≢true may)
compares true true ops.Ge may = absurd (false≢true may)
compares true true ops.Gt may = absurd (false≢true may)

text_of_kind : (text : Bool) → is_kind_of_text (if text then Text else Number) ≡ text
text_of_kind true = refl
text_of_kind false = refl

-- ---- factors

multiple_unit : (times : Option ℕ) (u : unit_type.Unit) → IsMultiple IsAny IsAny times u → IsUnit IsAny IsAny u
multiple_unit None u h = h
multiple_unit (Some k) (units.Literal n) h = absurd h.1
multiple_unit (Some k) (units.Text t) h = absurd h.1
multiple_unit (Some k) (units.Alone o) h = h.1
multiple_unit (Some k) (units.Attr o a) h = h.1
multiple_unit (Some k) (units.Sub o a part) h = h.1
multiple_unit (Some k) units.Time h = h.1

multiple_times : (times : Option ℕ) (u : unit_type.Unit) → IsMultiple IsAny IsAny times u →
    nat_le (unwrap_or times 1) limits.TIMES_LIMIT ≡ true
multiple_times None u h = refl
multiple_times (Some k) u h = le-leb k limits.TIMES_LIMIT h.0

small_literal : (n : ℤ) → IsUnsigned READ_LIMIT n → is_within READ_LIMIT n ≡ true
small_literal (pos n) small = le-leb n READ_LIMIT small
small_literal (negsuc n) small = absurd small

from_zero : (n : ℕ) → int_le (pos 0) (pos n) ≡ true
from_zero n = grind (arith, ints, nat_tests)

small_radius : (r : ℤ) → IsUnsigned RADIUS_LIMIT r → (int_le (pos 0) r ≡ true) × (is_within RADIUS_LIMIT r ≡ true)
small_radius (pos n) small = (from_zero n, le-leb n RADIUS_LIMIT small)
small_radius (negsuc n) small = absurd small

module _ (c : Catalog) (regions : List Region) (from : List FromPart) (there : AreThere c.classes from) where
  abbrev pub scope_over : List Assigned → NameScope
  scope_over = scope_with c.classes regions from

  abbrev pub numbers : List ℕ
  numbers = numbers_of c.classes from

  abbrev pub count : ℕ
  count = length numbers

  module _ (vs : List Assigned) where
    abbrev pub s : NameScope
    s = scope_over vs

    object_variable : (at : ℕ) (o : List ℕ) → object_faults s at o ≡ [] → is_variable s o ≡ true
    object_variable at o h =
        let parts = parts_of_none (fault_if (is_unknown s o) UnknownName at) (fault_if (is_no_object s o) WrongKind at) h in
        object_known (is_variable s o) (is_value s o)
        (none_if (is_unknown s o) UnknownName at parts.0) (none_if (is_no_object s o) WrongKind at parts.1)

    value_variable : (at : ℕ) (name : List ℕ) → unit_faults s at (units.Alone name) ≡ [] → is_value s name ≡ true
    value_variable at name h =
        let parts = parts_of_none (fault_if (is_unknown s name) UnknownName at) (fault_if (is_variable s name) WrongKind at) h in
        value_known (is_variable s name) (is_value s name)
        (none_if (is_unknown s name) UnknownName at parts.0) (none_if (is_variable s name) WrongKind at parts.1)

    has_attribute : (at : ℕ) (o a : List ℕ) → attribute_faults s at o a ≡ [] →
        (is_variable s o ≡ true) × (is_none (named_attribute_kind s o a) ≡ false)
    has_attribute at o a h =
        let parts = parts_of_none (object_faults s at o) (fault_if (lacks_attribute s o a) UnknownName (at + 1)) h in
        let known = object_variable at o parts.0 in (
          known,
          second_false (is_variable s o) (is_none (named_attribute_kind s o a)) known
              (none_if (lacks_attribute s o a) UnknownName (at + 1) parts.1),
        )

    part_parts : (at : ℕ) (o a : List ℕ) → attribute_faults s at o a ++ fault_if (has_no_parts s o a) WrongKind (at + 1) ≡ [] →
        (attribute_faults s at o a ≡ []) × (has_no_parts s o a ≡ false)
    part_parts at o a h =
        let parts = parts_of_none (attribute_faults s at o a) (fault_if (has_no_parts s o a) WrongKind (at + 1)) h in
        (parts.0, none_if (has_no_parts s o a) WrongKind (at + 1) parts.1)

    unit_kind_is : (at : ℕ) (u : unit_type.Unit) → unit_faults s at u ≡ [] →
        fits.unit_kind c numbers (kinds_of vs) (resolved_unit s u) ≡ Some (kind_where (is_text_unit s u))
    unit_kind_is at (units.Literal n) h = refl
    unit_kind_is at (units.Text t) h = refl
    unit_kind_is at (units.Alone name) h = value_kind_is s name (value_variable at name h)
    unit_kind_is at (units.Attr o a) h =
        let has = has_attribute at o a h in
        ap (option_and_then (fits.kind_beside (pos (option_map_or attribute_bound (named_attribute_kind s o a) 0))))
        (attribute_is c regions from there vs o a has.0 has.1)
        ∙ kind_of_attribute (named_attribute_kind s o a) has.1
    unit_kind_is at (units.Sub o a part) h =
        let parts = part_parts at o a h in
        let has = has_attribute at o a parts.0 in
        ap (option_and_then fits.kind_of_parts) (attribute_is c regions from there vs o a has.0 has.1)
        ∙ kind_of_part (named_attribute_kind s o a) has.1 parts.1
    unit_kind_is at units.Time h = refl

    unit_right : (at : ℕ) (u : unit_type.Unit) → unit_faults s at u ≡ [] → IsUnit IsAny IsAny u →
        is_unit count (bounds_of vs) (resolved_unit s u) ≡ true
    unit_right at (units.Literal n) h small = small_literal n small
    unit_right at (units.Text t) h small = refl
    unit_right at (units.Alone name) h small = value_bound_is s name (value_variable at name h)
    unit_right at (units.Attr o a) h small = variable_below c regions from there vs o (has_attribute at o a h).0
    unit_right at (units.Sub o a part) h small =
        variable_below c regions from there vs o (has_attribute at o a (part_parts at o a h).0).0
    unit_right at units.Time h small = refl

    factors_right : (at : ℕ) (fs : List Signed) → factors_faults s at fs ≡ [] → AllByRecursion (IsFactor IsAny IsAny) fs →
        list_all (is_factor count (bounds_of vs)) (map (resolved_factor s) fs) ≡ true
    factors_right at [] h small = refl
    factors_right at (f ∷ fs) h small =
        let behind = at + length (unit_names f.unit) in
        let parts = parts_of_none (unit_faults s at f.unit) (factors_faults s behind fs) h in
        and_from (is_factor count (bounds_of vs) (resolved_factor s f)) (list_all (is_factor count (bounds_of vs)) (map (resolved_factor s) fs))
        (and_from (nat_le (unwrap_or f.times 1) limits.TIMES_LIMIT) (is_unit count (bounds_of vs) (resolved_unit s f.unit))
        (multiple_times f.times f.unit small.0)
        (unit_right at f.unit parts.0 (multiple_unit f.times f.unit small.0)))
        (factors_right behind fs parts.1 small.1)

    factor_kind_is : (at : ℕ) (f : Signed) (text : Bool) → unit_faults s at f.unit ≡ [] → is_text_unit s f.unit ≡ text →
        fits.factor_kind c numbers (kinds_of vs) (resolved_factor s f) ≡ fits.kind_with_sign f.minus f.times (kind_where text)
    factor_kind_is at f text h is =
        ap (option_and_then (fits.kind_with_sign f.minus f.times)) (unit_kind_is at f.unit h)
        ∙ ap (λ (t : Bool). fits.kind_with_sign f.minus f.times (kind_where t)) is

    factor_number : (at : ℕ) (f : Signed) → unit_faults s at f.unit ≡ [] → is_text_unit s f.unit ≡ false →
        fits.factor_kind c numbers (kinds_of vs) (resolved_factor s f) ≡ number
    factor_number at f h is = factor_kind_is at f false h is ∙ number_with_sign f.minus f.times

    numbers_sum : (at : ℕ) (fs : List Signed) → factors_faults s at fs ≡ [] → list_any (λ (f : Signed). is_text_unit s f.unit) fs ≡ false →
        fold fits.kind_of_sum number (map (fits.factor_kind c numbers (kinds_of vs)) (map (resolved_factor s) fs)) ≡ number
    numbers_sum at [] h none = refl
    numbers_sum at (f ∷ fs) h none =
        let behind = at + length (unit_names f.unit) in
        let parts = parts_of_none (unit_faults s at f.unit) (factors_faults s behind fs) h in
        let texts = both_false (is_text_unit s f.unit) (list_any (λ (g : Signed). is_text_unit s g.unit) fs) none in
        ap (λ (k : Option ValueKind). fold fits.kind_of_sum (fits.kind_of_sum number k) (map (fits.factor_kind c numbers (kinds_of vs)) (map (resolved_factor s) fs)))
        (factor_number at f parts.0 texts.0)
        ∙ numbers_sum behind fs parts.1 texts.1

    abbrev kind_of_factors : List Signed → Option ValueKind
    kind_of_factors fs =
        unwrap_or (reduce fits.kind_of_sum (map (fits.factor_kind c numbers (kinds_of vs)) (map (resolved_factor s) fs))) None

    factors_kind_is : (at : ℕ) (fs : List Signed) (text : Bool) → factors_faults s at fs ≡ [] → 0 < length fs →
        list_any (λ (f : Signed). is_text_unit s f.unit) fs ≡ text → (text && not (is_bare fs)) ≡ false →
        kind_of_factors fs ≡ Some (kind_where text)
    factors_kind_is at [] text h some is bare = let never : ⊥ = omega arith in absurd never
    factors_kind_is at (f ∷ fs) false h some is bare =
        let behind = at + length (unit_names f.unit) in
        let parts = parts_of_none (unit_faults s at f.unit) (factors_faults s behind fs) h in
        let texts = both_false (is_text_unit s f.unit) (list_any (λ (g : Signed). is_text_unit s g.unit) fs) is in
        ap (λ (k : Option ValueKind). fold fits.kind_of_sum k (map (fits.factor_kind c numbers (kinds_of vs)) (map (resolved_factor s) fs)))
        (factor_number at f parts.0 texts.0)
        ∙ numbers_sum behind fs parts.1 texts.1
    factors_kind_is at (f ∷ []) true h some is bare =
        let parts = parts_of_none (unit_faults s at f.unit) [] h in
        factor_kind_is at f true parts.0 (one_of (is_text_unit s f.unit) is)
        ∙ text_without_sign f.minus f.times (not-false (not f.minus && is_none f.times) bare)
    factors_kind_is at (f ∷ (g ∷ fs)) true h some is bare = absurd (true≢false bare)

    term_parts : (at nth : ℕ) (t : Term) → term_faults s at nth t ≡ [] →
        (is_misplaced_text s t ≡ false) × (factors_faults s at t.factors ≡ []) × (is_past_range s t ≡ false)
    term_parts at nth t h =
        let outer = parts_of_none (fault_if (is_misplaced_text s t) WrongKind at) (factors_faults s at t.factors ++ fault_if (is_past_range s t) TermRange nth) h in
        let inner = parts_of_none (factors_faults s at t.factors) (fault_if (is_past_range s t) TermRange nth) outer.1 in
        (none_if (is_misplaced_text s t) WrongKind at outer.0, inner.0, none_if (is_past_range s t) TermRange nth inner.1)

    in_range : (at nth : ℕ) (t : Term) → term_faults s at nth t ≡ [] → nat_le (term_bound (resolved_term s t)) FIX_LIMIT ≡ true
    in_range at nth t h = not-false (nat_le (term_bound (resolved_term s t)) FIX_LIMIT) (term_parts at nth t h).2

    term_right : (at nth : ℕ) (t : Term) → term_faults s at nth t ≡ [] → IsTerm IsAny IsAny t → length t.factors ≤ limits.FACTOR_LIMIT →
        is_term count (bounds_of vs) (resolved_term s t) ≡ true
    term_right at nth t h small few =
        let parts = term_parts at nth t h in
        let size = listed (resolved_factor s) limits.FACTOR_LIMIT t.factors (some_items (IsFactor IsAny IsAny) t.factors small) few in
        let all = factors_right at t.factors parts.1 (all_items (IsFactor IsAny IsAny) t.factors small) in
        and_from _ (nat_le (term_bound (resolved_term s t)) FIX_LIMIT)
        (and_from (is_list_of limits.FACTOR_LIMIT (map (resolved_factor s) t.factors)) (list_all (is_factor count (bounds_of vs)) (map (resolved_factor s) t.factors)) size all)
        (in_range at nth t h)

    term_kind_is : (at nth : ℕ) (t : Term) → term_faults s at nth t ≡ [] → IsTerm IsAny IsAny t →
        fits.term_kind c numbers (kinds_of vs) (resolved_term s t) ≡ Some (kind_where (has_text s t))
    term_kind_is at nth t h small =
        let parts = term_parts at nth t h in
        factors_kind_is at t.factors (has_text s t) parts.1 (some_items (IsFactor IsAny IsAny) t.factors small) refl parts.0

    -- ---- atoms

    point_right : (at : ℕ) (o : List ℕ) → point_faults s at o ≡ [] →
        (nat_lt (variable_number s o) count ≡ true) × (fits.is_point_variable c numbers (variable_number s o) ≡ true)
    point_right at o h =
        let parts = parts_of_none (object_faults s at o) (fault_if (is_no_point s o) WrongKind at) h in
        let known = object_variable at o parts.0 in
        let point = second_false (is_variable s o) (not (is_point s o)) known (none_if (is_no_point s o) WrongKind at parts.1) in
        (variable_below c regions from there vs o known, point_is c regions from there vs o known ∙ not-false (is_point s o) point)

    points_right : (at : ℕ) (names : List (List ℕ)) → points_faults s at names ≡ [] →
        (list_all (λ (v : ℕ). nat_lt v count) (map (variable_number s) names) ≡ true)
        × (list_all (fits.is_point_variable c numbers) (map (variable_number s) names) ≡ true)
    points_right at [] h = (refl, refl)
    points_right at (name ∷ names) h =
        let parts = parts_of_none (point_faults s at name) (points_faults s (at + 1) names) h in
        let here = point_right at name parts.0 in
        let later = points_right (at + 1) names parts.1 in (
          and_from (nat_lt (variable_number s name) count) (list_all (λ (v : ℕ). nat_lt v count) (map (variable_number s) names)) here.0 later.0,
          and_from (fits.is_point_variable c numbers (variable_number s name)) (list_all (fits.is_point_variable c numbers) (map (variable_number s) names)) here.1 later.1,
        )

    region_right : (at : ℕ) (name : List ℕ) → region_faults s at name ≡ [] → nat_lt (region_place s name) (length regions) ≡ true
    region_right at name h =
        let known = some_there (s.region name) (none_if (is_none (s.region name)) UnknownName at h) in
        lt-ltb (region_place s name) (length regions) (place_below (λ (r : Region). bytes_eq name r.name) regions known)

    compare_right : (at nth : ℕ) (t u : Term) (op : Op) → atom_faults s at nth (atoms.Compare t op u) ≡ [] →
        IsTerm IsAny IsAny t → IsTerm IsAny IsAny u →
        length t.factors ≤ limits.FACTOR_LIMIT → length u.factors ≤ limits.FACTOR_LIMIT →
        (is_atom count (bounds_of vs) (resolved_atom s (atoms.Compare t op u)) ≡ true)
        × (fits.atom_fits c numbers (length regions) (kinds_of vs) (resolved_atom s (atoms.Compare t op u)) ≡ true)
    compare_right at nth t u op h left right few_left few_right =
        let behind = at + length (term_names t) in
        let may = may_compare (named_term_kind s t) op (named_term_kind s u) in
        let outer = parts_of_none (fault_if (not may) WrongKind at) (term_faults s at nth t ++ term_faults s behind (nth + 1) u) h in
        let inner = parts_of_none (term_faults s at nth t) (term_faults s behind (nth + 1) u) outer.1 in
        let fit = not-false may (none_if (not may) WrongKind at outer.0) in (
          and_from (is_term count (bounds_of vs) (resolved_term s t)) (is_term count (bounds_of vs) (resolved_term s u))
              (term_right at nth t inner.0 left few_left) (term_right behind (nth + 1) u inner.1 right few_right),
          ap (λ (k : Option ValueKind). fits.kinds_compare op k (fits.term_kind c numbers (kinds_of vs) (resolved_term s u))) (term_kind_is at nth t inner.0 left)
              ∙ ap (fits.kinds_compare op (Some (kind_where (has_text s t)))) (term_kind_is behind (nth + 1) u inner.1 right)
              ∙ compares (has_text s t) (has_text s u) op fit,
        )

    inside_right : (at : ℕ) (o region : List ℕ) → point_faults s at o ++ region_faults s (at + 1) region ≡ [] →
        (nat_lt (variable_number s o) count ≡ true)
        × ((fits.is_point_variable c numbers (variable_number s o) && nat_lt (region_place s region) (length regions)) ≡ true)
    inside_right at o region h =
        let parts = parts_of_none (point_faults s at o) (region_faults s (at + 1) region) h in
        let point = point_right at o parts.0 in (
          point.0,
          and_from (fits.is_point_variable c numbers (variable_number s o)) (nat_lt (region_place s region) (length regions))
              point.1 (region_right (at + 1) region parts.1),
        )

    atom_right : (at nth : ℕ) (a : atom_type.Atom) → atom_faults s at nth a ≡ [] → IsAtom IsAny IsAny a →
        atom_factors a ≤ limits.FACTOR_LIMIT → atom_objects a ≤ limits.OBJECT_LIMIT →
        (is_atom count (bounds_of vs) (resolved_atom s a) ≡ true)
        × (fits.atom_fits c numbers (length regions) (kinds_of vs) (resolved_atom s a) ≡ true)
    atom_right at nth (atoms.Compare t op u) h small few circle =
        compare_right at nth t u op h small.0 small.1 (omega arith) (omega arith)
    atom_right at nth (atoms.Inside o region) h small few circle = inside_right at o region h
    atom_right at nth (atoms.Outside o region) h small few circle = inside_right at o region h
    atom_right at nth (atoms.Dist o n op bound) h small few circle =
        let parts = parts_of_none (point_faults s at o) (point_faults s (at + 1) n) h in
        let left = point_right at o parts.0 in
        let right = point_right (at + 1) n parts.1 in (
          and_from _ (is_within READ_LIMIT bound)
              (and_from (nat_lt (variable_number s o) count) (nat_lt (variable_number s n) count) left.0 right.0)
              (le-leb (unsigned_abs bound) READ_LIMIT small.2),
          and_from (fits.is_point_variable c numbers (variable_number s o)) (fits.is_point_variable c numbers (variable_number s n)) left.1 right.1,
        )
    atom_right at nth (atoms.Sphere r names) h small few circle =
        let points = points_right at names h in
        let radius = small_radius r small.0 in
        let size = listed (variable_number s) limits.OBJECT_LIMIT names (some_items IsAny names small.1) circle in (
          and_from _ (is_within RADIUS_LIMIT r)
              (and_from _ (int_le (pos 0) r)
              (and_from (is_list_of limits.OBJECT_LIMIT (map (variable_number s) names)) (list_all (λ (v : ℕ). nat_lt v count) (map (variable_number s) names)) size points.0)
              radius.0) radius.1,
          points.1,
        )

  -- ---- formulas

  until_right : (form : UntilForm) (ticks : ℕ) → AreUntilTicks form ticks → is_until form ticks ≡ true
  until_right untils.Plain ticks h = eq-eqb ticks 0 h
  until_right untils.Within ticks h = le-leb ticks LAST_TICK h
  until_right untils.After ticks h = le-leb ticks LAST_TICK h

  range_kept : (n : ℕ) → nat_le n FIX_LIMIT ≡ true → bound_in_range n ≡ n
  range_kept n small = ap (λ (b : Bool). if b then n else 0) small

  abbrev pub IsRightIn : List Assigned → Tree → Type 0
  IsRightIn vs f =
      (is_formula count (length vs) (bounds_of vs) (resolved_formula (scope_over vs) f) ≡ true)
      × (fits.formula_fits c numbers (length regions) (kinds_of vs) (resolved_formula (scope_over vs) f) ≡ true)

  both_right : (vs : List Assigned) (f g : Tree) → IsRightIn vs f → IsRightIn vs g → IsRightIn vs (shapes.And f g)
  both_right vs f g left right = (
    and_from (is_formula count (length vs) (bounds_of vs) (resolved_formula (scope_over vs) f)) (is_formula count (length vs) (bounds_of vs) (resolved_formula (scope_over vs) g)) left.0 right.0,
    and_from (fits.formula_fits c numbers (length regions) (kinds_of vs) (resolved_formula (scope_over vs) f)) (fits.formula_fits c numbers (length regions) (kinds_of vs) (resolved_formula (scope_over vs) g)) left.1 right.1,
  )

  assigned_right : (vs : List Assigned) (name : List ℕ) (t : Term) (f : Tree) (at nth : ℕ) →
      term_faults (scope_over vs) at nth t ≡ [] → IsTerm IsAny IsAny t → length t.factors ≤ limits.FACTOR_LIMIT →
      length vs < limits.NESTING_LIMIT →
      IsRightIn (vs ++ assigned (scope_over vs) name t ∷ []) f → IsRightIn vs (shapes.Assign (name, t) f)
  assigned_right vs name t f at nth h small few room inner =
      let q = resolved_term (scope_over vs) t in
      let v = assigned (scope_over vs) name t in
      let text = has_text (scope_over vs) t in
      let tree = resolved_formula (scope_over (vs ++ v ∷ [])) f in
      let bounds = bounds_more vs v (term_bound q) (range_kept (term_bound q) (in_range vs at nth t h)) in
      let kinds = kinds_more vs v text (text_of_kind text) in
      let deeper = subst (λ (n : ℕ). is_formula count n (bounds_of (vs ++ v ∷ [])) tree ≡ true) (length-append vs (v ∷ [])) inner.0 in
      let formula = subst (λ (b : ℕ → ℤ → Bool). is_formula count (length vs + 1) b tree ≡ true) bounds deeper in
      let fitting = subst (λ (k : ℕ → Option ValueKind). fits.formula_fits c numbers (length regions) k tree ≡ true) kinds inner.1 in (
        and_from _ (is_formula count (length vs + 1) (with_bound (bounds_of vs) (length vs) (term_bound q)) tree)
            (and_from _ (is_term count (bounds_of vs) q)
            (and_from (eqb (length vs) (length vs)) (nat_lt (length vs) limits.NESTING_LIMIT) (eq-eqb (length vs) (length vs) refl) (lt-ltb (length vs) limits.NESTING_LIMIT room))
            (term_right vs at nth t h small few))
            formula,
        ap (λ (r : Option ValueKind). option_map_or (λ (k : ValueKind). fits.formula_fits c numbers (length regions) (fits.with_kind (kinds_of vs) (length vs) k) tree) r false)
            (term_kind_is vs at nth t h small)
            ∙ fitting,
      )

  pub formula_right : (vs : List Assigned) (at nth : ℕ) (f : Tree) → formula_faults (scope_over vs) at nth f ≡ [] → IsFormula IsAny IsAny f →
      factors f ≤ limits.FACTOR_LIMIT → objects f ≤ limits.OBJECT_LIMIT → length vs + nesting f ≤ limits.NESTING_LIMIT →
      IsRightIn vs f
  formula_right vs at nth (shapes.Truth b) h small few circle nested = (refl, refl)
  formula_right vs at nth (shapes.Atom a) h small few circle nested = atom_right vs at nth a h small few circle
  formula_right vs at nth (shapes.Not f) h small few circle nested = formula_right vs at nth f h small few circle nested
  formula_right vs at nth (shapes.And f g) h small few circle nested =
      let parts = parts_of_none (formula_faults (scope_over vs) at nth f) (formula_faults (scope_over vs) (at + length (formula_names f)) (nth + length (formula_terms f)) g) h in
      both_right vs f g
      (formula_right vs at nth f parts.0 small.0 (omega arith) (omega arith) (omega arith))
      (formula_right vs (at + length (formula_names f)) (nth + length (formula_terms f)) g parts.1 small.1 (omega arith) (omega arith) (omega arith))
  formula_right vs at nth (shapes.Or f g) h small few circle nested =
      let parts = parts_of_none (formula_faults (scope_over vs) at nth f) (formula_faults (scope_over vs) (at + length (formula_names f)) (nth + length (formula_terms f)) g) h in
      both_right vs f g
      (formula_right vs at nth f parts.0 small.0 (omega arith) (omega arith) (omega arith))
      (formula_right vs (at + length (formula_names f)) (nth + length (formula_terms f)) g parts.1 small.1 (omega arith) (omega arith) (omega arith))
  formula_right vs at nth (shapes.Next f) h small few circle nested = formula_right vs at nth f h small few circle nested
  formula_right vs at nth (shapes.Eventually f) h small few circle nested = formula_right vs at nth f h small few circle nested
  formula_right vs at nth (shapes.Always f) h small few circle nested = formula_right vs at nth f h small few circle nested
  formula_right vs at nth (shapes.Bounded form ticks f) h small few circle nested =
      let part = formula_right vs at nth f h small.1 few circle nested in
      (and_from (nat_le ticks LAST_TICK) (is_formula count (length vs) (bounds_of vs) (resolved_formula (scope_over vs) f)) (le-leb ticks LAST_TICK small.0) part.0, part.1)
  formula_right vs at nth (shapes.Until form ticks f g) h small few circle nested =
      let parts = parts_of_none (formula_faults (scope_over vs) at nth f) (formula_faults (scope_over vs) (at + length (formula_names f)) (nth + length (formula_terms f)) g) h in
      let left = formula_right vs at nth f parts.0 small.1 (omega arith) (omega arith) (omega arith) in
      let right = formula_right vs (at + length (formula_names f)) (nth + length (formula_terms f)) g parts.1 small.2 (omega arith) (omega arith) (omega arith) in (
        and_from _ (is_formula count (length vs) (bounds_of vs) (resolved_formula (scope_over vs) g))
            (and_from (is_until form ticks) (is_formula count (length vs) (bounds_of vs) (resolved_formula (scope_over vs) f)) (until_right form ticks small.0) left.0)
            right.0,
        (both_right vs f g left right).1,
      )
  formula_right vs at nth (shapes.Assign (name, t) f) h small few circle nested =
      let v = assigned (scope_over vs) name t in
      let behind = at + 1 + length (term_names t) in
      let outer = parts_of_none (assigned_faults (scope_over vs) at name) (term_faults (scope_over vs) (at + 1) nth t ++ formula_faults (with_assigned (scope_over vs) name t) behind (nth + 1) f) h in
      let inner = parts_of_none (term_faults (scope_over vs) (at + 1) nth t) (formula_faults (with_assigned (scope_over vs) name t) behind (nth + 1) f) outer.1 in
      assigned_right vs name t f (at + 1) nth inner.0 small.1 (omega arith) (omega arith)
      (formula_right (vs ++ v ∷ []) behind (nth + 1) f inner.1 small.2 (omega arith) (omega arith) (omega (arith, length-append vs (v ∷ []))))
