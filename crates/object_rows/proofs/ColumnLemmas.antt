-- The columns of a first row.
use Rattle.std.proofs.Common.{◌≡◌, ℕ, ◌+◌, ◌∙◌, ◌&&◌, ◌||◌, not, Bool, true, false, cond, Option, Some, None, is_some, List, [], ◌∷◌, ◌++◌, length, take, drop, refl, ap, sym, codes, nat_eq}
use Rattle.std.specs.List.{list_any}
use Rattle.std.specs.Option.{option_map}
use Rattle.std.specs.Str.{bytes_eq}
use Rattle.csv.specs.Records.{field_at}
use Rattle.exact.specs.Options.{◌>>=◌}
use Rattle.history.specs.Write.{Attribute}
use Rattle.object_store.specs.Faults.{repeats}
use Rattle.object_rows.specs.declared.columns.Column.{Column}
use Rattle.object_rows.specs.Columns.{column_of, columns_of, each_column, name_field, rate_name}
use Rattle.object_rows.proofs.FieldLemmas.{field_left, one_more}

-- ---- The name of a rate

both_first : (a b c d : Bool) → c ≡ (b && d) → (a && c) ≡ ((a && b) && d)
both_first true b c d h = h
both_first false b c d h = refl

eq_by_parts : (field name rest : List ℕ)
    → bytes_eq field (name ++ rest) ≡ (bytes_eq (take (length name) field) name && bytes_eq (drop (length name) field) rest)
eq_by_parts field [] rest = refl
eq_by_parts [] (n ∷ name) rest = refl
eq_by_parts (f ∷ field) (n ∷ name) rest = both_first (nat_eq f n) _ _ _ (eq_by_parts field name rest)

pub rate_after : (field name rest : List ℕ) → bytes_eq (take (length name) field) name ≡ true → rest ≡ drop (length name) field
    → bytes_eq rest (codes ".rate") ≡ bytes_eq field (rate_name name)
rate_after field name rest begins is =
    ap (λ r. bytes_eq r (codes ".rate")) is
    ∙ sym (eq_by_parts field name (codes ".rate") ∙ ap (λ b. b && bytes_eq (drop (length name) field) (codes ".rate")) begins)

pub no_rate : (field name : List ℕ) → bytes_eq (take (length name) field) name ≡ false → false ≡ bytes_eq field (rate_name name)
no_rate field name begins = sym (eq_by_parts field name (codes ".rate") ∙ ap (λ b. b && bytes_eq (drop (length name) field) (codes ".rate")) begins)

pub ruleset rate_steps = (rate_after, no_rate)

-- ---- Fields that are gone through one by one

abbrev repeated : List (List ℕ) → Bool
repeated fields = repeats (λ (field : List ℕ). field) fields

abbrev has : List ℕ → List (List ℕ) → Bool
has field fields = list_any (λ (other : List ℕ). bytes_eq field other) fields

first_of : (fields : List (List ℕ)) (i : ℕ) (field other : List ℕ) (b : Bool) → Some other ≡ field_at fields i → bytes_eq field other ≡ b
    → has field (drop i fields) ≡ (b || has field (drop (i + 1) fields))
first_of fields i field other b at is = ap (has field) (field_left fields i other at) ∙ ap (λ x. x || has field (drop (i + 1) fields)) is

pub has_here : (fields : List (List ℕ)) (i : ℕ) (field other : List ℕ) (whole : Bool) → Some other ≡ field_at fields i → bytes_eq field other ≡ true
    → has field (drop i fields) ≡ whole → true ≡ whole
has_here fields i field other whole at is all = sym (first_of fields i field other true at is) ∙ all

pub has_later : (fields : List (List ℕ)) (i : ℕ) (field other : List ℕ) → Some other ≡ field_at fields i → bytes_eq field other ≡ false
    → has field (drop (i + 1) fields) ≡ has field (drop i fields)
has_later fields i field other at is = sym (first_of fields i field other false at is)

repeats_by_first : (fields : List (List ℕ)) (i : ℕ) (field : List ℕ) (b : Bool) → Some field ≡ field_at fields i → b ≡ has field (drop (i + 1) fields)
    → repeated (drop i fields) ≡ (b || repeated (drop (i + 1) fields))
repeats_by_first fields i field b at is = ap repeated (field_left fields i field at) ∙ ap (λ x. x || repeated (drop (i + 1) fields)) (sym is)

pub repeats_here : (fields : List (List ℕ)) (i : ℕ) (field : List ℕ) (whole : Bool) → Some field ≡ field_at fields i → true ≡ has field (drop (i + 1) fields)
    → repeated (drop i fields) ≡ whole → true ≡ whole
repeats_here fields i field whole at is all = sym (repeats_by_first fields i field true at is) ∙ all

pub repeats_later : (fields : List (List ℕ)) (i : ℕ) (field : List ℕ) → Some field ≡ field_at fields i → false ≡ has field (drop (i + 1) fields)
    → repeated (drop (i + 1) fields) ≡ repeated (drop i fields)
repeats_later fields i field at is = sym (repeats_by_first fields i field false at is)

-- ---- Columns that are found one by one

column_first : (attributes : List Attribute) (fields : List (List ℕ)) (i : ℕ) (field : List ℕ) (o : Option Column) → Some field ≡ field_at fields i
    → o ≡ column_of attributes field
    → each_column attributes (drop i fields) ≡ (o >>= (λ column. each_column attributes (drop (i + 1) fields) >>= (λ later. Some (column ∷ later))))
column_first attributes fields i field o at is =
    ap (each_column attributes) (field_left fields i field at)
    ∙ ap (λ found. found >>= (λ column. each_column attributes (drop (i + 1) fields) >>= (λ later. Some (column ∷ later)))) (sym is)

there_later : (column : Column) (later : Option (List Column)) → is_some later ≡ is_some (later >>= (λ rest. Some (column ∷ rest)))
there_later column None = refl
there_later column (Some rest) = refl

pub no_column : (attributes : List Attribute) (fields : List (List ℕ)) (i : ℕ) (field : List ℕ) (o : Option Column) (whole : Bool)
    → Some field ≡ field_at fields i → o ≡ column_of attributes field → is_some o ≡ false
    → is_some (each_column attributes (drop i fields)) ≡ whole → false ≡ whole
no_column attributes fields i field None whole at is none all = sym (ap is_some (column_first attributes fields i field None at is)) ∙ all
no_column attributes fields i field (Some column) whole at is none all = absurd (cc none)

pub more_columns : (attributes : List Attribute) (fields : List (List ℕ)) (i : ℕ) (field : List ℕ) (o : Option Column)
    → Some field ≡ field_at fields i → o ≡ column_of attributes field → is_some o ≡ true
    → is_some (each_column attributes (drop (i + 1) fields)) ≡ is_some (each_column attributes (drop i fields))
more_columns attributes fields i field None at is some = absurd (cc some)
more_columns attributes fields i field (Some column) at is some =
    there_later column (each_column attributes (drop (i + 1) fields)) ∙ sym (ap is_some (column_first attributes fields i field (Some column) at is))

-- those so far, and those of the fields from the next place on
abbrev pub columns_left : List Attribute → List (List ℕ) → ℕ → List Column → Option (List Column)
columns_left attributes fields i made = option_map (λ (later : List Column). made ++ later) (each_column attributes (drop (i + 1) fields))

pub column_next : (attributes : List Attribute) (fields : List (List ℕ)) (i : ℕ) (field : List ℕ) (column : Column) (made : List Column)
    (whole : Option (List Column)) → Some field ≡ field_at fields i → Some column ≡ column_of attributes field
    → whole ≡ option_map (λ (later : List Column). made ++ later) (each_column attributes (drop i fields))
    → whole ≡ columns_left attributes fields i (made ++ column ∷ [])
column_next attributes fields i field column made whole at is all =
    all
    ∙ ap (option_map (λ (later : List Column). made ++ later)) (column_first attributes fields i field (Some column) at is)
    ∙ one_more made column (each_column attributes (drop (i + 1) fields))

pub column_stop : (attributes : List Attribute) (fields : List (List ℕ)) (i : ℕ) (field : List ℕ) (made : List Column)
    (whole : Option (List Column)) → Some field ≡ field_at fields i → None ≡ column_of attributes field
    → whole ≡ option_map (λ (later : List Column). made ++ later) (each_column attributes (drop i fields)) → None ≡ whole
column_stop attributes fields i field made whole at is all =
    sym (all ∙ ap (option_map (λ (later : List Column). made ++ later)) (column_first attributes fields i field None at is))

-- ---- The first row

tests_of : (named have repeat : Bool) (o : Option (List Column)) → is_some o ≡ have
    → (named && (have && not repeat)) ≡ is_some (cond (named && not repeat) o None)
tests_of true true false o h = sym h
tests_of true true true o h = refl
tests_of true false false o h = sym h
tests_of true false true o h = refl
tests_of false have repeat o h = refl

pub first_row : (attributes : List Attribute) (fields : List (List ℕ)) (first : List ℕ) (named have repeat : Bool)
    → Some first ≡ field_at fields 0 → bytes_eq first name_field ≡ named
    → have ≡ is_some (each_column attributes (drop 1 fields)) → repeat ≡ repeated (drop 1 fields)
    → (named && (have && not repeat)) ≡ is_some (columns_of attributes fields)
first_row attributes fields first named have repeat at is columns twice =
    tests_of named have repeat (each_column attributes (drop 1 fields)) (sym columns)
    ∙ ap (λ b. is_some (cond (b && not repeat) (each_column attributes (drop 1 fields)) None)) (sym is)
    ∙ ap (λ b. is_some (cond (bytes_eq first name_field && not b) (each_column attributes (drop 1 fields)) None)) twice
    ∙ sym (ap (λ fs. is_some (columns_of attributes fs)) (field_left fields 0 first at))

pub no_first : (attributes : List Attribute) (fields : List (List ℕ)) → None ≡ field_at fields 0 → false ≡ is_some (columns_of attributes fields)
unfolding field_at
no_first attributes [] h = refl
no_first attributes (f ∷ fs) h = absurd (cc h)
