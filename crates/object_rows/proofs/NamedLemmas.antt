-- What the columns and the settings of rows are named, and how many settings there are.
use Rattle.std.proofs.Common.{◌≡◌, ℕ, ◌≤◌, ◌∙◌, ◌&&◌, ◌||◌, not, Bool, true, false, cond, Option, Some, None, List, [], ◌∷◌, length, map, refl, ap, sym, subst}
use Rattle.std.specs.List.{AllByRecursion, IsDistinct, find, fold, list_any}
use Rattle.std.specs.Option.{option_map}
use Rattle.std.specs.Str.{bytes_eq}
use Rattle.std.specs.Cmp.Lexicographic.{nat_list_eq_equiv}
use Rattle.std.proofs.lemmas.List.{length-map}
use Rattle.std.proofs.lemmas.Map.Made.{length-le_from_is_member}
use Rattle.exact.proofs.Lists.{bytes_eq_refl, bytes_eq_true}
use Rattle.exact.specs.Options.{◌>>=◌}
use Rattle.exact.proofs.Truths.{or_second}
use Rattle.motion.specs.declared.cell.Given.{Given}
use Rattle.motion.specs.declared.cell.NamedSet.{NamedSet}
use Rattle.history.specs.Write.{Attribute}
use Rattle.object_store.specs.Faults.{attribute_named, repeats}
use Rattle.object_rows.specs.declared.columns.Column.{Column}
use Rattle.object_rows.specs.declared.columns.Form.{Form}
use Rattle.object_rows.specs.declared.columns.Form.TheVariants as forms
use Rattle.object_rows.specs.declared.rows.ObjectRow.{ObjectRow}
use Rattle.object_rows.specs.Columns.{column_of, columns_of, each_column, is_rate_of, name_field, value_form}
use Rattle.object_rows.specs.Fields.{given_by, is_object_name}
use Rattle.object_rows.specs.Rows.{is_set_of, joined_setting, part_of, parts_of, row_of, settings_of, with_part}

-- ---- Options and lists

pub record Begins {X : Type 0} (first : Option X) (rest : Option (List X)) (whole : List X) : Type 0 where
  pub item : X
  pub later : List X
  pub first_is : first ≡ Some item
  pub rest_is : rest ≡ Some later
  pub whole_is : item ∷ later ≡ whole

pub begins : {X : Type 0} (first : Option X) (rest : Option (List X)) (whole : List X) → (first >>= (λ x. rest >>= (λ xs. Some (x ∷ xs)))) ≡ Some whole
    → Begins first rest whole
begins None rest whole h = absurd (cc h)
begins (Some x) None whole h = absurd (cc h)
begins (Some x) (Some xs) whole h = record { item = x; later = xs; first_is = refl; rest_is = refl; whole_is = cc h }

found_first : {X : Type 0} (P : X → Type 0) (p : X → Bool) (y : X) (ys : List X) (x : X) (b : Bool) → p y ≡ b → P y → (find p ys ≡ Some x → P x)
    → find p (y ∷ ys) ≡ Some x → P x
found_first P p y ys x true e first later h = let same : y ≡ x = cc (rw e at h) in subst P same first
found_first P p y ys x false e first later h = later (rw e at h)

all_found : {X : Type 0} (P : X → Type 0) (p : X → Bool) (xs : List X) (x : X) → AllByRecursion P xs → find p xs ≡ Some x → P x
all_found P p [] x all h = absurd (cc h)
all_found P p (y ∷ ys) x all h = found_first P p y ys x (p y) refl all.0 (λ later. all_found P p ys x all.1 later) h

abbrev pub column_for : List ℕ → Form → Column
column_for name form = record { attribute = name; form = form }

abbrev pub setting_for : List ℕ → Given → NamedSet
setting_for name given = record { name = name; given = given }

abbrev pub row_for : List ℕ → List NamedSet → ObjectRow
row_for name sets = record { name = name; sets = sets }

-- ---- Columns are named as attributes are

-- each attribute has a name of which this is true
abbrev pub AreNamed : (List ℕ → Type 0) → List Attribute → Type 0
AreNamed P attributes = AllByRecursion (λ (a : Attribute). P a.name) attributes

abbrev pub IsNamed : (List ℕ → Type 0) → Column → Type 0
IsNamed P column = P column.attribute

pub column_named : (P : List ℕ → Type 0) (attributes : List Attribute) (field : List ℕ) (column : Column) → AreNamed P attributes → column_of attributes field ≡ Some column
    → IsNamed P column
column_named P attributes field column named h = by (attribute_named attributes field) refl
  where
    by_rate : (o : Option Attribute) → find (is_rate_of field) attributes ≡ o
        → option_map {U = Column} (λ (a : Attribute). record { attribute = a.name; form = forms.Rate }) o ≡ Some column → IsNamed P column
    by_rate None e k = absurd (cc k)
    by_rate (Some a) e k =
        let same : column_for a.name forms.Rate ≡ column = cc k in
        subst (IsNamed P) same (all_found (λ (a : Attribute). P a.name) (is_rate_of field) attributes a named e)

    by : (o : Option Attribute) → attribute_named attributes field ≡ o → IsNamed P column
    by None e = by_rate (find (is_rate_of field) attributes) refl (rw e at h)
    by (Some a) e =
        let same : column_for a.name (value_form a.kind) ≡ column = cc (rw e at h) in
        subst (IsNamed P) same (all_found (λ (a : Attribute). P a.name) (λ (a : Attribute). bytes_eq field a.name) attributes a named e)

pub each_named : (P : List ℕ → Type 0) (attributes : List Attribute) (fields : List (List ℕ)) (columns : List Column) → AreNamed P attributes
    → each_column attributes fields ≡ Some columns → AllByRecursion (IsNamed P) columns
each_named P attributes [] columns named h = let same : [] ≡ columns = cc h in subst (AllByRecursion (IsNamed P)) same tt
each_named P attributes (f ∷ fs) columns named h =
    let b = begins (column_of attributes f) (each_column attributes fs) columns h in
    subst (AllByRecursion (IsNamed P)) b.whole_is (column_named P attributes f b.item named b.first_is, each_named P attributes fs b.later named b.rest_is)

pub columns_named : (P : List ℕ → Type 0) (attributes : List Attribute) (header : List (List ℕ)) (columns : List Column) → AreNamed P attributes
    → columns_of attributes header ≡ Some columns → AllByRecursion (IsNamed P) columns
columns_named P attributes [] columns named h = absurd (cc h)
columns_named P attributes (first ∷ fields) columns named h = by (bytes_eq first name_field && not (repeats (λ (field : List ℕ). field) fields)) refl
  where
    by : (b : Bool) → (bytes_eq first name_field && not (repeats (λ (field : List ℕ). field) fields)) ≡ b → AllByRecursion (IsNamed P) columns
    by true e = each_named P attributes fields columns named (rw e at h)
    by false e = absurd (cc (rw e at h))

-- ---- Settings are named as columns are

abbrev AllNamed : (List ℕ → Type 0) → List NamedSet → Type 0
AllNamed P sets = AllByRecursion (λ (set : NamedSet). P set.name) sets

part_named : (P : List ℕ → Type 0) (column : Column) (field : List ℕ) (part : NamedSet) → IsNamed P column → part_of column field ≡ Some part → P part.name
part_named P column field part named h = by (given_by column.form field) refl
  where
    by : (o : Option Given) → given_by column.form field ≡ o → P part.name
    by None e = absurd (cc (rw e at h))
    by (Some given) e =
        let same : setting_for column.attribute given ≡ part = cc (rw e at h) in
        subst (λ (set : NamedSet). P set.name) same named

parts_named : (P : List ℕ → Type 0) (columns : List Column) (fields : List (List ℕ)) (parts : List NamedSet) → AllByRecursion (IsNamed P) columns
    → parts_of columns fields ≡ Some parts → AllNamed P parts
parts_named P [] [] parts named h = let same : [] ≡ parts = cc h in subst (AllNamed P) same tt
parts_named P [] (f ∷ fs) parts named h = absurd (cc h)
parts_named P (c ∷ cs) [] parts named h = absurd (cc h)
parts_named P (c ∷ cs) (f ∷ fs) parts named h =
    let b = begins (part_of c f) (parts_of cs fs) parts h in
    subst (AllNamed P) b.whole_is (part_named P c f b.item named.0 b.first_is, parts_named P cs fs b.later named.1 b.rest_is)

put_first_named : (P : List ℕ → Type 0) (part s : NamedSet) (sets : List NamedSet) (b : Bool) → AllNamed P (s ∷ sets) → AllNamed P (with_part sets part)
    → AllNamed P (cond b (joined_setting s part ∷ sets) (s ∷ with_part sets part))
put_first_named P part s sets true all later = all
put_first_named P part s sets false all later = (all.0, later)

put_named : (P : List ℕ → Type 0) (sets : List NamedSet) (part : NamedSet) → AllNamed P sets → P part.name → AllNamed P (with_part sets part)
put_named P [] part all is = (is, tt)
put_named P (s ∷ sets) part all is = put_first_named P part s sets (is_set_of part s) all (put_named P sets part all.1 is)

-- ---- No two settings are of one name

abbrev AreApart : List NamedSet → Type 0
AreApart [] = Unit {0}
AreApart (set ∷ sets) = AllNamed (λ name. bytes_eq set.name name ≡ false) sets × AreApart sets

put_first_apart : (part s : NamedSet) (sets : List NamedSet) (b : Bool) → is_set_of part s ≡ b → AreApart (s ∷ sets) → AreApart (with_part sets part)
    → AreApart (cond b (joined_setting s part ∷ sets) (s ∷ with_part sets part))
put_first_apart part s sets true e apart later = apart
put_first_apart part s sets false e apart later =
    (put_named (λ name. bytes_eq s.name name ≡ false) sets part apart.0 (nat_list_eq_equiv.symm s.name part.name ∙ e), later)

put_apart : (sets : List NamedSet) (part : NamedSet) → AreApart sets → AreApart (with_part sets part)
put_apart [] part apart = (tt, tt)
put_apart (s ∷ sets) part apart = put_first_apart part s sets (is_set_of part s) refl apart (put_apart sets part apart.1)

-- ---- So there are at most as many as names that they can have

abbrev names : List NamedSet → List (List ℕ)
names sets = map (λ (set : NamedSet). set.name) sets

-- a name is one of these
abbrev pub IsAmong : List (List ℕ) → List ℕ → Type 0
IsAmong all name = list_any (λ other. bytes_eq name other) all ≡ true

names_all : (P : List ℕ → Type 0) (sets : List NamedSet) → AllNamed P sets → AllByRecursion P (names sets)
names_all P [] all = tt
names_all P (s ∷ sets) all = (all.0, names_all P sets all.1)

names_distinct : (sets : List NamedSet) → AreApart sets → IsDistinct bytes_eq (names sets)
unfolding IsDistinct
names_distinct [] apart = tt
names_distinct (s ∷ sets) apart = (names_all (λ name. bytes_eq s.name name ≡ false) sets apart.0, names_distinct sets apart.1)

among_by : (all : List (List ℕ)) (name other : List ℕ) (later b : Bool) → bytes_eq name other ≡ b → IsAmong all other → (later ≡ true → IsAmong all name)
    → (bytes_eq name other || later) ≡ true → IsAmong all name
among_by all name other later true e first rest h = subst (IsAmong all) (sym (bytes_eq_true name other e)) first
among_by all name other later false e first rest h = rest (rw e at h)

among : (all some : List (List ℕ)) (name : List ℕ) → AllByRecursion (IsAmong all) some → IsAmong some name → IsAmong all name
among all [] name are h = absurd (cc h)
among all (n ∷ some) name are h =
    among_by all name n (list_any (λ other. bytes_eq name other) some) (bytes_eq name n) refl are.0 (λ later. among all some name are.1 later) h

sets_few : (all : List (List ℕ)) (sets : List NamedSet) → AllNamed (IsAmong all) sets → AreApart sets → length sets ≤ length all
sets_few all sets are apart =
    subst (λ (n : ℕ). n ≤ length all) (length-map sets (λ (set : NamedSet). set.name))
    (length-le_from_is_member nat_list_eq_equiv (names sets) all (names_distinct sets apart) (λ name h. among all (names sets) name (names_all (IsAmong all) sets are) h))

settings_few : (all : List (List ℕ)) (parts sets : List NamedSet) → AllNamed (IsAmong all) parts → AllNamed (IsAmong all) sets → AreApart sets
    → length (fold with_part sets parts) ≤ length all
settings_few all [] sets parts_are are apart = sets_few all sets are apart
settings_few all (p ∷ parts) sets parts_are are apart =
    settings_few all parts (with_part sets p) parts_are.1 (put_named (IsAmong all) sets p are parts_are.0) (put_apart sets p apart)

-- ---- A row has at most one setting for each attribute

abbrev pub attribute_names : List Attribute → List (List ℕ)
attribute_names attributes = map (λ (a : Attribute). a.name) attributes

all_more : (P Q : List ℕ → Type 0) (attributes : List Attribute) → ((name : List ℕ) → P name → Q name) → AreNamed P attributes → AreNamed Q attributes
all_more P Q [] f are = tt
all_more P Q (a ∷ attributes) f are = (f a.name are.0, all_more P Q attributes f are.1)

each_among : (attributes : List Attribute) → AreNamed (IsAmong (attribute_names attributes)) attributes
each_among [] = tt
each_among (a ∷ attributes) = (
  ap (λ b. b || list_any (λ other. bytes_eq a.name other) (attribute_names attributes)) (bytes_eq_refl a.name),
  all_more (IsAmong (attribute_names attributes)) (IsAmong (attribute_names (a ∷ attributes))) attributes
      (λ name h. or_second (bytes_eq name a.name) (list_any (λ other. bytes_eq name other) (attribute_names attributes)) h) (each_among attributes),
)

pub columns_among : (attributes : List Attribute) (header : List (List ℕ)) (columns : List Column) → columns_of attributes header ≡ Some columns
    → AllByRecursion (IsNamed (IsAmong (attribute_names attributes))) columns
columns_among attributes header columns h = columns_named (IsAmong (attribute_names attributes)) attributes header columns (each_among attributes) h

pub row_few : (all : List (List ℕ)) (columns : List Column) (fields : List (List ℕ)) (row : ObjectRow) → AllByRecursion (IsNamed (IsAmong all)) columns
    → row_of columns fields ≡ Some row → length row.sets ≤ length all
row_few all columns [] row named h = absurd (cc h)
row_few all columns (name ∷ fields) row named h = by (is_object_name name) refl
  where
    by_parts : (o : Option (List NamedSet)) → parts_of columns fields ≡ o
        → option_map {U = ObjectRow} (λ (parts : List NamedSet). record { name = name; sets = settings_of parts }) o ≡ Some row → length row.sets ≤ length all
    by_parts None e k = absurd (cc k)
    by_parts (Some parts) e k =
        let same : row_for name (settings_of parts) ≡ row = cc k in
        subst (λ (r : ObjectRow). length r.sets ≤ length all) same
        (settings_few all parts [] (parts_named (IsAmong all) columns fields parts named e) tt tt)

    by : (b : Bool) → is_object_name name ≡ b → length row.sets ≤ length all
    by true e = by_parts (parts_of columns fields) refl (rw e at h)
    by false e = absurd (cc (rw e at h))
