-- The settings of a row.
use Rattle.std.proofs.Common.{◌≡◌, ℕ, zero, suc, ◌+◌, ◌<◌, ◌≤◌, ◌∙◌, nat_lt, Bool, true, false, cond, Option, Some, None, is_some, List, [], ◌∷◌, ◌++◌, length, drop, get_or, refl, ap, sym, arith, if◌then◌else◌}
use Rattle.std.specs.Prelude.{slice_set, Result, Ok, Err, OnErr, IsSome}
use Rattle.std.specs.List.{fold, position, position_or_len}
use Rattle.std.specs.Option.{option_and_then, option_map}
use Rattle.std.proofs.lemmas.Bool.Decides.{nat_tests}
use Rattle.std.proofs.lemmas.List.Quantifiers.{position-Some}
use Rattle.std.proofs.lemmas.List.{drop_all}
use Rattle.csv.specs.Records.{field_at}
use Rattle.exact.specs.Options.{◌>>=◌}
use Rattle.exact.proofs.Items.{untrue_where_none}
use Rattle.motion.specs.declared.cell.NamedSet.{NamedSet}
use Rattle.object_rows.specs.declared.columns.Column.{Column}
use Rattle.object_rows.specs.declared.rows.ObjectRow.{ObjectRow}
use Rattle.object_rows.specs.Fields.{is_object_name}
use Rattle.object_rows.specs.Rows.{each_row, is_set_of, joined_setting, part_of, parts_of, row_of, settings_of, with_part}
use Rattle.object_rows.proofs.FieldLemmas.{drop_at, field_left, field_past, none_left, none_made, one_more}

-- ---- A part joins the setting of its attribute

joins_at : (part : NamedSet) (sets : List NamedSet) (i : ℕ) (d : NamedSet) → i < length sets → is_set_of part (get_or sets i d) ≡ true
    → ((k : ℕ) → k < i → is_set_of part (get_or sets k d) ≡ false) → with_part sets part ≡ slice_set sets i (joined_setting (get_or sets i d) part)
joins_at part [] i d within is none = absurd (omega (arith, within))
joins_at part (s ∷ sets) zero d within is none = ap (λ b. cond b (joined_setting s part ∷ sets) (s ∷ with_part sets part)) is
joins_at part (s ∷ sets) (suc i) d within is none =
    ap (λ b. cond b (joined_setting s part ∷ sets) (s ∷ with_part sets part)) (none zero (omega arith))
    ∙ ap (λ later. s ∷ later) (joins_at part sets i d (omega (arith, within)) is (λ k h. none (suc k) (omega (arith, h))))

pub part_joins : (part : NamedSet) (sets : List NamedSet) (i : ℕ) (set new : NamedSet) → position (is_set_of part) sets ≡ Some i
    → set ≡ get_or sets i set → new ≡ joined_setting set part → slice_set sets i new ≡ with_part sets part
part_joins part sets i set new at is made =
    let found = position-Some (is_set_of part) sets i set at in
    ap (slice_set sets i) (made ∙ ap (λ s. joined_setting s part) is) ∙ sym (joins_at part sets i set found.0 found.1 found.2)

none_before : (p : NamedSet → Bool) (sets : List NamedSet) → position p sets ≡ None → length sets ≤ position_or_len p sets
none_before p sets h =
    let past : nat_lt (position_or_len p sets) (length sets) ≡ false = untrue_where_none (nat_lt (position_or_len p sets) (length sets)) (position_or_len p sets) h in
    grind (arith, nat_tests, past)

-- the first setting is no such one, so the others decide
new_after : (part s : NamedSet) (sets : List NamedSet) (b : Bool) → is_set_of part s ≡ b → length (s ∷ sets) ≤ position_or_len (is_set_of part) (s ∷ sets)
    → (length sets ≤ position_or_len (is_set_of part) sets → sets ++ part ∷ [] ≡ with_part sets part) → (s ∷ sets) ++ part ∷ [] ≡ with_part (s ∷ sets) part
new_after part s sets true e h later = absurd (omega (arith, rw e at h))
new_after part s sets false e h later = rw e (ap (λ more. s ∷ more) (later (omega (arith, rw e at h))))

new_at : (part : NamedSet) (sets : List NamedSet) → length sets ≤ position_or_len (is_set_of part) sets → sets ++ part ∷ [] ≡ with_part sets part
new_at part [] h = refl
new_at part (s ∷ sets) h = new_after part s sets (is_set_of part s) refl h (λ none. new_at part sets none)

pub part_is_new : (part : NamedSet) (sets : List NamedSet) → position (is_set_of part) sets ≡ None → sets ++ part ∷ [] ≡ with_part sets part
part_is_new part sets h = new_at part sets (none_before (is_set_of part) sets h)

-- ---- The fields of a row

no_parts : (first : Option NamedSet) (later : Option (List NamedSet)) → later ≡ None → (first >>= (λ part. later >>= (λ rest. Some (part ∷ rest)))) ≡ None
no_parts None later none = refl
no_parts (Some part) later none = ap (λ o. o >>= (λ rest. Some (part ∷ rest))) none

parts_uneven : (columns : List Column) (fields : List (List ℕ)) → (length fields ≡ length columns → ⊥) → parts_of columns fields ≡ None
parts_uneven [] [] differ = absurd (differ refl)
parts_uneven [] (f ∷ fs) differ = refl
parts_uneven (c ∷ cs) [] differ = refl
parts_uneven (c ∷ cs) (f ∷ fs) differ = no_parts (part_of c f) (parts_of cs fs) (parts_uneven cs fs (λ e. differ (omega (arith, e))))

pub uneven_row : (columns : List Column) (fields : List (List ℕ)) → 0 < length fields → (length fields ≡ length columns + 1 → ⊥)
    → None ≡ option_map settings_of (parts_of columns (drop 1 fields))
uneven_row columns [] named differ = absurd (omega (arith, named))
uneven_row columns (f ∷ fs) named differ = sym (ap (option_map settings_of) (parts_uneven columns fs (λ e. differ (omega (arith, e)))))

-- one more part
pub settings_more : (sets : List NamedSet) (part : NamedSet) (later : Option (List NamedSet))
    → option_map (fold with_part sets) (later >>= (λ rest. Some (part ∷ rest))) ≡ option_map (fold with_part (with_part sets part)) later
settings_more sets part None = refl
settings_more sets part (Some rest) = refl

-- ---- Settings that are made part by part

abbrev left : List NamedSet → List Column → List (List ℕ) → Option (List NamedSet)
left sets columns fields = option_map (fold with_part sets) (parts_of columns fields)

abbrev part_then : List Column → List (List ℕ) → Option NamedSet → Option (List NamedSet)
part_then columns fields first = first >>= (λ part. parts_of columns fields >>= (λ later. Some (part ∷ later)))

pub settings_next : (columns : List Column) (fields : List (List ℕ)) (sets : List NamedSet) (i : ℕ) (column : Column) (part : NamedSet)
    (new : List NamedSet) (whole : Option (List NamedSet))
    → column ≡ get_or columns i column → i < length columns → option_and_then (part_of column) (field_at fields (i + 1)) ≡ Some part → new ≡ with_part sets part
    → whole ≡ left sets (drop i columns) (drop (i + 1) fields) → whole ≡ left new (drop (i + 1) columns) (drop (i + 1 + 1) fields)
settings_next columns fields sets i column part new whole is within found put all = by (field_at fields (i + 1)) refl
  where
    by : (o : Option (List ℕ)) → field_at fields (i + 1) ≡ o → whole ≡ left new (drop (i + 1) columns) (drop (i + 1 + 1) fields)
    by None e = absurd (cc (rw e at found))
    by (Some field) e =
        all
        ∙ ap (λ cs. left sets cs (drop (i + 1) fields)) (drop_at columns i column is within)
        ∙ ap (λ fs. left sets (column ∷ drop (i + 1) columns) fs) (field_left fields (i + 1) field (sym e))
        ∙ ap (λ o. option_map (fold with_part sets) (part_then (drop (i + 1) columns) (drop (i + 1 + 1) fields) o)) (rw e at found)
        ∙ settings_more sets part (parts_of (drop (i + 1) columns) (drop (i + 1 + 1) fields))
        ∙ ap (λ s. left s (drop (i + 1) columns) (drop (i + 1 + 1) fields)) (sym put)

pub settings_stop : (columns : List Column) (fields : List (List ℕ)) (sets : List NamedSet) (i : ℕ) (column : Column) (whole : Option (List NamedSet))
    → column ≡ get_or columns i column → i < length columns → length fields ≡ length columns + 1
    → option_and_then (part_of column) (field_at fields (i + 1)) ≡ None
    → whole ≡ left sets (drop i columns) (drop (i + 1) fields) → None ≡ whole
settings_stop columns fields sets i column whole is within full none all = by (field_at fields (i + 1)) refl
  where
    by : (o : Option (List ℕ)) → field_at fields (i + 1) ≡ o → None ≡ whole
    by None e = absurd (omega (arith, field_past fields (i + 1) (sym e), within, full))
    by (Some field) e = sym (
        all
        ∙ ap (λ cs. left sets cs (drop (i + 1) fields)) (drop_at columns i column is within)
        ∙ ap (λ fs. left sets (column ∷ drop (i + 1) columns) fs) (field_left fields (i + 1) field (sym e))
        ∙ ap (λ o. option_map (fold with_part sets) (part_then (drop (i + 1) columns) (drop (i + 1 + 1) fields) o)) (rw e at none))

pub settings_end : (columns : List Column) (fields : List (List ℕ)) (sets : List NamedSet) (i : ℕ) (whole : Option (List NamedSet))
    → length columns ≤ i → length fields ≡ length columns + 1 → whole ≡ left sets (drop i columns) (drop (i + 1) fields) → Some sets ≡ whole
settings_end columns fields sets i whole past full all =
    sym (
    all
    ∙ ap (λ cs. left sets cs (drop (i + 1) fields)) (drop_all i columns past)
    ∙ ap (λ fs. left sets [] fs) (drop_all (i + 1) fields (omega (arith, past, full))))

pub settings_begin : (columns : List Column) (fields : List (List ℕ)) → option_map settings_of (parts_of columns fields) ≡ left [] columns fields
settings_begin columns fields = refl

-- ---- Rows that are read one by one

abbrev pub rows_left : List Column → List ObjectRow → List (List (List ℕ)) → Option (List ObjectRow)
rows_left columns made left = option_map (λ (later : List ObjectRow). made ++ later) (each_row columns left)

pub row_next : (columns : List Column) (made : List ObjectRow) (fields : List (List ℕ)) (object : ObjectRow) (before after : List (List (List ℕ)))
    (whole : Option (List ObjectRow))
    → Some object ≡ row_of columns fields → before ≡ fields ∷ after → whole ≡ rows_left columns made before
    → whole ≡ rows_left columns (made ++ object ∷ []) after
row_next columns made fields object before after whole is taken all =
    all
    ∙ ap (rows_left columns made) taken
    ∙ ap (λ o. option_map (λ (later : List ObjectRow). made ++ later) (o >>= (λ first. each_row columns after >>= (λ later. Some (first ∷ later))))) (sym is)
    ∙ one_more made object (each_row columns after)

pub row_stop : (columns : List Column) (made : List ObjectRow) (fields : List (List ℕ)) (before after : List (List (List ℕ))) (whole : Option (List ObjectRow))
    → None ≡ row_of columns fields → before ≡ fields ∷ after → whole ≡ rows_left columns made before → whole ≡ None
row_stop columns made fields before after whole is taken all =
    all
    ∙ ap (rows_left columns made) taken
    ∙ ap (λ o. option_map (λ (later : List ObjectRow). made ++ later) (o >>= (λ first. each_row columns after >>= (λ later. Some (first ∷ later))))) (sym is)

pub row_end : (columns : List Column) (made : List ObjectRow) (before : List (List (List ℕ))) (whole : Option (List ObjectRow))
    → before ≡ [] → whole ≡ rows_left columns made before → whole ≡ Some made
row_end columns made before whole none all = all ∙ ap (rows_left columns made) none ∙ none_left made

pub row_start : (columns : List Column) (before : List (List (List ℕ))) → each_row columns before ≡ rows_left columns [] before
row_start columns before = none_made (each_row columns before)

-- ---- The first field and the others

pub row_by_parts : (columns : List Column) (fields : List (List ℕ)) (field name : List ℕ) (sets : List NamedSet)
    → Some field ≡ field_at fields 0 → Some name ≡ (if is_object_name field then Some field else None)
    → Some sets ≡ option_map settings_of (parts_of columns (drop 1 fields))
    → Some (record { name = name; sets = sets }) ≡ row_of columns fields
row_by_parts columns fields field name sets first named given = sym (
    ap (row_of columns) (field_left fields 0 field first)
    ∙ by (is_object_name field) (parts_of columns (drop 1 fields)) named given)
  where
    by : (b : Bool) (o : Option (List NamedSet)) → Some name ≡ cond b (Some field) None → Some sets ≡ option_map settings_of o
        → cond b (option_map {U = ObjectRow} (λ (parts : List NamedSet). record { name = field; sets = settings_of parts }) o) None
        ≡ Some (record { name = name; sets = sets })
    by true (Some parts) h k = let n : field ≡ name = cc h in let s : settings_of parts ≡ sets = cc k in λ i. Some (record { name = n i; sets = s i })
    by true None h k = absurd (cc k)
    by false o h k = absurd (cc h)

pub row_there : {E : Type 0} → (columns : List Column) (fields : List (List ℕ)) (field name : List ℕ) (sets : List NamedSet) (r : Result (Option ObjectRow) E)
    → Some field ≡ field_at fields 0 → Some name ≡ (if is_object_name field then Some field else None)
    → Some sets ≡ option_map settings_of (parts_of columns (drop 1 fields))
    → OnErr r (IsSome (row_of columns fields))
row_there columns fields field name sets (Ok found) first named given = tt
row_there columns fields field name sets (Err fault) first named given = sym (ap is_some (row_by_parts columns fields field name sets first named given))

pub row_unnamed : (columns : List Column) (fields : List (List ℕ)) (field : List ℕ) → Some field ≡ field_at fields 0
    → None ≡ (if is_object_name field then Some field else None)
    → None ≡ row_of columns fields
row_unnamed columns fields field first named = sym (ap (row_of columns) (field_left fields 0 field first) ∙ by (is_object_name field) named)
  where
    by : (b : Bool) → None ≡ cond b (Some field) None
        → cond b (option_map {U = ObjectRow} (λ (parts : List NamedSet). record { name = field; sets = settings_of parts })
        (parts_of columns (drop 1 fields))) None ≡ None
    by true h = absurd (cc h)
    by false h = refl

pub row_misfit : (columns : List Column) (fields : List (List ℕ)) (field : List ℕ) → Some field ≡ field_at fields 0
    → None ≡ option_map settings_of (parts_of columns (drop 1 fields))
    → None ≡ row_of columns fields
row_misfit columns fields field first given =
    sym (ap (row_of columns) (field_left fields 0 field first) ∙ by (is_object_name field) (parts_of columns (drop 1 fields)) given)
  where
    by : (b : Bool) (o : Option (List NamedSet)) → None ≡ option_map settings_of o
        → cond b (option_map {U = ObjectRow} (λ (parts : List NamedSet). record { name = field; sets = settings_of parts }) o) None ≡ None
    by true None h = refl
    by true (Some parts) h = absurd (cc h)
    by false o h = refl

pub row_empty : (columns : List Column) (fields : List (List ℕ)) → None ≡ field_at fields 0 → None ≡ row_of columns fields
unfolding field_at
row_empty columns [] h = refl
row_empty columns (f ∷ fs) h = absurd (cc h)
