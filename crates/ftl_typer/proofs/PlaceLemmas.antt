-- What a name stands for by number is what it stands for by name.
use Rattle.std.proofs.Common.{◌≡◌, ℕ, zero, suc, ◌<◌, ℤ, pos, Bool, true, false, cond, eqb, List, [], ◌∷◌, ◌++◌, length, map, get_or, Option, None, Some, slice_get, refl, sym, ap, ◌∙◌, arith}
use Rattle.std.specs.Prelude.{is_none, is_some, nat_lt, unwrap_or, option_map, option_and_then, position, find}
use Rattle.std.specs.List.{AllByRecursion}
use Rattle.std.specs.Option.{option_map_or}
use Rattle.std.specs.Ordering.{int_eq}
use Rattle.std.specs.Str.{bytes_eq}
use Rattle.std.proofs.lemmas.Bool.{false≢true, true≢false, both_ways, lt-ltb}
use Rattle.std.proofs.lemmas.Bool.Decides.{Decides-int_eq, nat_tests}
use Rattle.std.proofs.lemmas.List.{length-map}
use Rattle.std.proofs.lemmas.List.Quantifiers.{position-Some}
use Rattle.exact.proofs.Lists.{bytes_eq_true}
use Rattle.exact.proofs.Naturals.{eqb-suc}
use Rattle.geometry.specs.Region.{Region}
use Rattle.motion.specs.declared.cell.AttrKind.{AttrKind}
use Rattle.history.specs.Catalog.{Catalog, ClassInfo, class_number}
use Rattle.history.specs.Write.{Attribute}
use Rattle.formula.specs.declared.value.ValueKind.{ValueKind}
use Rattle.formula.specs.declared.value.ValueKind.TheVariants.{Number, Text}
use Rattle.formula.specs.Resolved.{with_bound}
use Rattle.meaning.specs.Fits as fits
use Rattle.object_store.proofs.Lists.{find_is}
use Rattle.ftl_parser.specs.declared.tree.FromPart.{FromPart}
use Rattle.ftl_typer.specs.declared.values.Assigned.{Assigned}
use Rattle.ftl_typer.specs.Resolved.{class_place}
use Rattle.ftl_typer.specs.Scope.{NameScope, attribute_number, bound_of_value, class_named, is_kind_of_text, is_point, is_value, is_variable, named_attribute_kind, scope_with, value_named, value_of, variable_number}

-- ---- what is found has a place

pub some_there : (r : Option ℕ) → is_none r ≡ false → is_some r ≡ true
some_there None there = absurd (true≢false there)
some_there (Some n) there = refl

slice_found : {X : Type 0} (xs : List X) (r : Option ℕ) → is_some r ≡ true →
    slice_get xs (unwrap_or r 0) ≡ option_and_then (slice_get xs) r
slice_found xs None there = absurd (false≢true there)
slice_found xs (Some n) there = refl

found_below : {X : Type 0} (p : X → Bool) (xs : List X) (r : Option ℕ) → position p xs ≡ r → is_some r ≡ true →
    unwrap_or r 0 < length xs
found_below p xs None is there = absurd (false≢true there)
found_below p [] (Some n) is there = let never : ⊥ = cc in absurd never
found_below p (x ∷ xs) (Some n) is there = (position-Some p (x ∷ xs) n x is).0

pub place_below : {X : Type 0} (p : X → Bool) (xs : List X) → is_some (position p xs) ≡ true →
    unwrap_or (position p xs) 0 < length xs
place_below p xs there = found_below p xs (position p xs) refl there

slice_there : {X : Type 0} (xs : List X) (n : ℕ) → n < length xs → is_some (slice_get xs n) ≡ true
slice_there [] n below = let never : ⊥ = omega arith in absurd never
slice_there (x ∷ xs) zero below = refl
slice_there (x ∷ xs) (suc n) below = slice_there xs n (omega arith)

-- at its place stands what is found
pub at_place : {X : Type 0} (p : X → Bool) (xs : List X) → is_some (position p xs) ≡ true →
    slice_get xs (unwrap_or (position p xs) 0) ≡ find p xs
at_place p xs there = slice_found xs (position p xs) there ∙ sym (find_is p xs)

pub find_there : {X : Type 0} (p : X → Bool) (xs : List X) → is_some (position p xs) ≡ true → is_some (find p xs) ≡ true
find_there p xs there =
    ap is_some (sym (at_place p xs there)) ∙ slice_there xs (unwrap_or (position p xs) 0) (place_below p xs there)

-- ---- variables of FROM

abbrev pub numbers_of : List ClassInfo → List FromPart → List ℕ
numbers_of classes from = map (λ part. class_place classes part.class) from

abbrev pub AreThere : List ClassInfo → List FromPart → Type 0
AreThere classes = AllByRecursion (λ part. is_none (class_number classes part.class) ≡ false)

class_at : (classes : List ClassInfo) (from : List FromPart) → AreThere classes from → (v : ℕ) →
    option_and_then (slice_get classes) (slice_get (numbers_of classes from) v)
    ≡ option_and_then (λ (part : FromPart). class_named classes part.class) (slice_get from v)
class_at classes [] there v = refl
class_at classes (part ∷ from) there zero =
    slice_found classes (class_number classes part.class) (some_there (class_number classes part.class) there.0)
class_at classes (part ∷ from) there (suc v) = class_at classes from there.1 v

attribute_at : (attributes : List Attribute) (r : Option ℕ) (f : Option Attribute) → f ≡ option_and_then (slice_get attributes) r →
    is_none (option_map (λ (attribute : Attribute). attribute.kind) f) ≡ false →
    option_map (λ (attribute : Attribute). attribute.kind) (slice_get attributes (unwrap_or r 0))
    ≡ option_map (λ (attribute : Attribute). attribute.kind) f
attribute_at attributes None f is there =
    absurd (both_ways (is_none (option_map (λ (attribute : Attribute). attribute.kind) f)) there
    (ap (λ (g : Option Attribute). is_none (option_map (λ (attribute : Attribute). attribute.kind) g)) is))
attribute_at attributes (Some n) f is there = ap (option_map (λ (attribute : Attribute). attribute.kind)) (sym is)

abbrev kind_named : List ℕ → Option ClassInfo → Option AttrKind
kind_named a class =
    option_and_then
    (λ k. option_map (λ attribute. attribute.kind) (find (λ attribute. bytes_eq a attribute.name) k.attributes)) class

abbrev place_named : List ℕ → Option ClassInfo → Option ℕ
place_named a class = option_and_then (λ k. position (λ attribute. bytes_eq a attribute.name) k.attributes) class

abbrev kind_placed : ℕ → Option ClassInfo → Option AttrKind
kind_placed n class = option_and_then (λ k. option_map (λ attribute. attribute.kind) (slice_get k.attributes n)) class

attribute_in : (a : List ℕ) (class : Option ClassInfo) → is_none (kind_named a class) ≡ false →
    kind_placed (unwrap_or (place_named a class) 0) class ≡ kind_named a class
attribute_in a None there = absurd (true≢false there)
attribute_in a (Some k) there =
    attribute_at k.attributes (position (λ (attribute : Attribute). bytes_eq a attribute.name) k.attributes)
    (find (λ (attribute : Attribute). bytes_eq a attribute.name) k.attributes)
    (find_is (λ (attribute : Attribute). bytes_eq a attribute.name) k.attributes) there

module _ (c : Catalog) (regions : List Region) (from : List FromPart) (there : AreThere c.classes from) (vs : List Assigned) where
  abbrev pub s : NameScope
  s = scope_with c.classes regions from vs

  pub class_is : (o : List ℕ) → is_variable s o ≡ true →
      fits.class_of_variable c (numbers_of c.classes from) (variable_number s o) ≡ s.class o
  class_is o known =
      class_at c.classes from there (variable_number s o)
      ∙ ap (option_and_then (λ (part : FromPart). class_named c.classes part.class)) (at_place (λ (part : FromPart). bytes_eq o part.var) from known)

  pub variable_below : (o : List ℕ) → is_variable s o ≡ true → nat_lt (variable_number s o) (length (numbers_of c.classes from)) ≡ true
  variable_below o known =
      ap (nat_lt (variable_number s o)) (length-map from (λ (part : FromPart). class_place c.classes part.class))
      ∙ lt-ltb (variable_number s o) (length from) (place_below (λ (part : FromPart). bytes_eq o part.var) from known)

  pub point_is : (o : List ℕ) → is_variable s o ≡ true →
      fits.is_point_variable c (numbers_of c.classes from) (variable_number s o) ≡ is_point s o
  point_is o known = ap (λ (k : Option ClassInfo). option_map_or (λ (info : ClassInfo). info.point) k false) (class_is o known)

  pub attribute_is : (o a : List ℕ) → is_variable s o ≡ true → is_none (named_attribute_kind s o a) ≡ false →
      fits.attribute_kind c (numbers_of c.classes from) (variable_number s o) (attribute_number s o a) ≡ named_attribute_kind s o a
  attribute_is o a known has =
      ap (kind_placed (attribute_number s o a)) (class_is o known) ∙ attribute_in a (s.class o) has

-- ---- variables of one name

abbrev no_part : FromPart
no_part = record { class = []; var = [] }

name_at : (name : List ℕ) (from : List FromPart) (r : Option ℕ) → position (λ (part : FromPart). bytes_eq name part.var) from ≡ r →
    is_some r ≡ true → name ≡ (get_or from (unwrap_or r 0) no_part).var
name_at name from None is there = absurd (false≢true there)
name_at name from (Some n) is there =
    bytes_eq_true name (get_or from n no_part).var
    (position-Some (λ (part : FromPart). bytes_eq name part.var) from n no_part is).1

-- names with one number are one name
pub one_name : (from : List FromPart) (name other : List ℕ) →
    is_some (position (λ (part : FromPart). bytes_eq name part.var) from) ≡ true →
    is_some (position (λ (part : FromPart). bytes_eq other part.var) from) ≡ true →
    unwrap_or (position (λ (part : FromPart). bytes_eq name part.var) from) 0
    ≡ unwrap_or (position (λ (part : FromPart). bytes_eq other part.var) from) 0 →
    name ≡ other
one_name from name other first second same =
    name_at name from (position (λ (part : FromPart). bytes_eq name part.var) from) refl first
    ∙ ap (λ (n : ℕ). (get_or from n no_part).var) same
    ∙ sym (name_at other from (position (λ (part : FromPart). bytes_eq other part.var) from) refl second)

-- ---- value variables

abbrev pub kind_where : Bool → ValueKind
kind_where true = Text
kind_where false = Number

-- the kinds and the bounds of value variables, by depth
abbrev pub kinds_of : List Assigned → ℕ → Option ValueKind
kinds_of vs d = option_map (λ v. kind_where (is_kind_of_text v.kind)) (slice_get vs d)

abbrev pub bounds_of : List Assigned → ℕ → ℤ → Bool
bounds_of vs d bound = option_map_or (λ v. int_eq bound (pos v.bound)) (slice_get vs d) false

past_first : (n : ℕ) → eqb 0 (suc n) ≡ false
past_first n = grind (arith, nat_tests)

past_end : (m : ℕ) → eqb (suc m) 0 ≡ false
past_end m = grind (arith, nat_tests)

item_at_end : {X : Type 0} (vs : List X) (v : X) (e : ℕ) →
    slice_get (vs ++ v ∷ []) e ≡ cond (eqb e (length vs)) (Some v) (slice_get vs e)
item_at_end [] v zero = refl
item_at_end [] v (suc e) = sym (ap (λ (b : Bool). cond b (Some v) None) (past_end e))
item_at_end (x ∷ vs) v zero = sym (ap (λ (b : Bool). cond b (Some v) (Some x)) (past_first (length vs)))
item_at_end (x ∷ vs) v (suc e) =
    item_at_end vs v e ∙ sym (ap (λ (b : Bool). cond b (Some v) (slice_get vs e)) (eqb-suc e (length vs)))

kind_of_either : (b text : Bool) (v : Assigned) (r : Option Assigned) → is_kind_of_text v.kind ≡ text →
    option_map (λ (w : Assigned). kind_where (is_kind_of_text w.kind)) (cond b (Some v) r)
    ≡ cond b (Some (kind_where text)) (option_map (λ (w : Assigned). kind_where (is_kind_of_text w.kind)) r)
kind_of_either true text v r is = ap (λ (t : Bool). Some (kind_where t)) is
kind_of_either false text v r is = refl

bound_of_either : (b : Bool) (v : Assigned) (n : ℕ) (beside : ℤ) (r : Option Assigned) → v.bound ≡ n →
    option_map_or (λ (w : Assigned). int_eq beside (pos w.bound)) (cond b (Some v) r) false
    ≡ cond b (int_eq beside (pos n)) (option_map_or (λ (w : Assigned). int_eq beside (pos w.bound)) r false)
bound_of_either true v n beside r is = ap (λ (m : ℕ). int_eq beside (pos m)) is
bound_of_either false v n beside r is = refl

pub kinds_more : (vs : List Assigned) (v : Assigned) (text : Bool) → is_kind_of_text v.kind ≡ text →
    kinds_of (vs ++ v ∷ []) ≡ fits.with_kind (kinds_of vs) (length vs) (kind_where text)
kinds_more vs v text is = λ i e.
    (ap (option_map (λ (w : Assigned). kind_where (is_kind_of_text w.kind))) (item_at_end vs v e)
    ∙ kind_of_either (eqb e (length vs)) text v (slice_get vs e) is) i

pub bounds_more : (vs : List Assigned) (v : Assigned) (n : ℕ) → v.bound ≡ n →
    bounds_of (vs ++ v ∷ []) ≡ with_bound (bounds_of vs) (length vs) n
bounds_more vs v n is = λ i e beside.
    (ap (λ (r : Option Assigned). option_map_or (λ (w : Assigned). int_eq beside (pos w.bound)) r false) (item_at_end vs v e)
    ∙ bound_of_either (eqb e (length vs)) v n beside (slice_get vs e) is) i

kind_of_found : (r : Option Assigned) → is_some r ≡ true →
    option_map (λ (v : Assigned). kind_where (is_kind_of_text v.kind)) r
    ≡ Some (kind_where (option_map_or (λ (v : Assigned). is_kind_of_text v.kind) r false))
kind_of_found None there = absurd (false≢true there)
kind_of_found (Some v) there = refl

bound_of_found : (r : Option Assigned) → is_some r ≡ true →
    option_map_or (λ (v : Assigned). int_eq (pos (option_map_or (λ (w : Assigned). w.bound) r 0)) (pos v.bound)) r false ≡ true
bound_of_found None there = absurd (false≢true there)
bound_of_found (Some v) there = (Decides-int_eq (pos v.bound) (pos v.bound)).1 refl

module _ (s : NameScope) (name : List ℕ) (known : is_value s name ≡ true) where
  pub value_kind_is :
      kinds_of s.values (unwrap_or (value_of s name) 0)
      ≡ Some (kind_where (option_map_or (λ (v : Assigned). is_kind_of_text v.kind) (value_named s name) false))
  value_kind_is =
      ap (option_map (λ (v : Assigned). kind_where (is_kind_of_text v.kind))) (at_place (λ (v : Assigned). bytes_eq name v.name) s.values known)
      ∙ kind_of_found (value_named s name) (find_there (λ (v : Assigned). bytes_eq name v.name) s.values known)

  pub value_bound_is : bounds_of s.values (unwrap_or (value_of s name) 0) (pos (bound_of_value s name)) ≡ true
  value_bound_is =
      ap (λ (r : Option Assigned). option_map_or (λ (v : Assigned). int_eq (pos (bound_of_value s name)) (pos v.bound)) r false)
      (at_place (λ (v : Assigned). bytes_eq name v.name) s.values known)
      ∙ bound_of_found (value_named s name) (find_there (λ (v : Assigned). bytes_eq name v.name) s.values known)
