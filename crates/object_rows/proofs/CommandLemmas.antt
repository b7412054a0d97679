-- The commands of rows are as if they had been read from lines.
use Rattle.std.proofs.Common.{◌≡◌, ℕ, ℤ, ◌∙◌, ◌&&◌, not, nat_le, is_none, Bool, true, false, cond, Option, Some, None, List, [], ◌∷◌, length, refl, ap, subst, arith}
use Rattle.std.proofs.lemmas.Bool.Decides.{nat_tests}
use Rattle.std.specs.List.{AllByRecursion, fold, list_all}
use Rattle.std.specs.Option.{option_map}
use Rattle.csv.specs.Reading.{default_config, records, strip_bom}
use Rattle.case_table.specs.Rows.{code_of}
use Rattle.case_table.specs.Language.{reserved_words}
use Rattle.fixed_point.specs.Decimal.{thousandths_of}
use Rattle.fixed_point.specs.Laws.{ReadsEachDecimal}
use Rattle.fixed_point.specs.declared.number.TheConstants.{READ_LIMIT, SLOPE_LIMIT}
use Rattle.fixed_point.specs.declared.short_text.TheConstants.{WORD_LIMIT}
use Rattle.ftl_lexer.specs.Cut.{has_no_quote, is_word}
use Rattle.ftl_lexer.specs.Forms.{is_quote}
use Rattle.motion.specs.declared.cell.Given.{Given}
use Rattle.motion.specs.declared.cell.Given.TheVariants as givens
use Rattle.motion.specs.declared.cell.NamedSet.{NamedSet}
use Rattle.history.specs.Write.{Attribute}
use Rattle.command_text.specs.Line.{has_other_byte, is_ascii}
use Rattle.command_text.specs.Shape.{IsPrintable, IsPrintableGiven, IsSetting, IsShortName, IsShortText}
use Rattle.object_rows.specs.declared.columns.Column.{Column}
use Rattle.object_rows.specs.declared.columns.Form.{Form}
use Rattle.object_rows.specs.declared.columns.Form.TheVariants as forms
use Rattle.object_rows.specs.declared.rows.ObjectRow.{ObjectRow}
use Rattle.object_rows.specs.Columns.{columns_of}
use Rattle.object_rows.specs.Commands.{GivesPrintableCommands, IsPrintableRow, command_of_row}
use Rattle.object_rows.specs.Fields.{given_by, is_object_name, is_text_byte, is_text_field, one_leg}
use Rattle.object_rows.proofs.NamedLemmas.{AreNamed, IsNamed, begins, columns_named, row_for, setting_for}
use Rattle.object_rows.specs.Rows.{both, each_row, is_set_of, joined_setting, part_of, parts_of, row_of, rows_in, rows_of, settings_of, with_part}
use Rattle.exact.proofs.Truths.{both_true, or_of_false}

-- ---- Settings

byte_is : (b : ℕ) → is_text_byte b ≡ true → (not (is_quote b) ≡ true) × (not (is_ascii b) ≡ false)
byte_is b h = (grind (arith, nat_tests, h), grind (arith, nat_tests, h))

text_bytes : (bytes : List ℕ) → list_all is_text_byte bytes ≡ true → (has_no_quote bytes ≡ true) × (has_other_byte bytes ≡ false)
text_bytes [] h = (refl, refl)
text_bytes (b ∷ bytes) h =
    let parts = both_true (is_text_byte b) (list_all is_text_byte bytes) h in
    let first = byte_is b parts.0 in
    let later = text_bytes bytes parts.1 in
    (ap (λ x. x && has_no_quote bytes) first.0 ∙ later.0, or_of_false (not (is_ascii b)) (has_other_byte bytes) first.1 later.1)

short_text : (field : List ℕ) → is_text_field field ≡ true → IsShortText field
short_text field h =
    let parts = both_true (nat_le (length field) WORD_LIMIT) (list_all is_text_byte field) h in
    let bytes = text_bytes field parts.1 in
    (bytes.0, bytes.1, grind (arith, nat_tests, parts.0))

given_printable : ReadsEachDecimal → (form : Form) (field : List ℕ) (given : Given) → given_by form field ≡ Some given → IsPrintableGiven given
given_printable decimal forms.Number field given h = by (thousandths_of READ_LIMIT field) refl
  where
    by : (o : Option ℤ) → thousandths_of READ_LIMIT field ≡ o → IsPrintableGiven given
    by None e = absurd (cc (rw e at h))
    by (Some n) e = let same : givens.Num n ≡ given = cc (rw e at h) in subst IsPrintableGiven same ((decimal READ_LIMIT field n).0 e).1
given_printable decimal forms.Text field given h = by (is_text_field field) refl
  where
    by : (b : Bool) → is_text_field field ≡ b → IsPrintableGiven given
    by true e = let same : givens.Text field ≡ given = cc (rw e at h) in subst IsPrintableGiven same (short_text field e)
    by false e = absurd (cc (rw e at h))
given_printable decimal forms.Rate field given h = by (thousandths_of SLOPE_LIMIT field) refl
  where
    by : (o : Option ℤ) → thousandths_of SLOPE_LIMIT field ≡ o → IsPrintableGiven given
    by None e = absurd (cc (rw e at h))
    by (Some a) e =
        let same : givens.Rate (one_leg a) ≡ given = cc (rw e at h) in
        subst IsPrintableGiven same (record { few = omega arith; firsts = tt; last = ((decimal SLOPE_LIMIT field a).0 e).1 })

part_set : ReadsEachDecimal → (column : Column) (field : List ℕ) (part : NamedSet) → IsNamed IsShortName column → part_of column field ≡ Some part → IsSetting part
part_set decimal column field part named h = by (given_by column.form field) refl
  where
    by : (o : Option Given) → given_by column.form field ≡ o → IsSetting part
    by None e = absurd (cc (rw e at h))
    by (Some given) e =
        let same : setting_for column.attribute given ≡ part = cc (rw e at h) in
        subst IsSetting same (named, given_printable decimal column.form field given e)

parts_set : ReadsEachDecimal → (columns : List Column) (fields : List (List ℕ)) (parts : List NamedSet) → AllByRecursion (IsNamed IsShortName) columns
    → parts_of columns fields ≡ Some parts → AllByRecursion IsSetting parts
parts_set decimal [] [] parts named h = let same : [] ≡ parts = cc h in subst (AllByRecursion IsSetting) same tt
parts_set decimal [] (f ∷ fs) parts named h = absurd (cc h)
parts_set decimal (c ∷ cs) [] parts named h = absurd (cc h)
parts_set decimal (c ∷ cs) (f ∷ fs) parts named h =
    let b = begins (part_of c f) (parts_of cs fs) parts h in
    subst (AllByRecursion IsSetting) b.whole_is (part_set decimal c f b.item named.0 b.first_is, parts_set decimal cs fs b.later named.1 b.rest_is)

both_printable : (first second : Given) → IsPrintableGiven first → IsPrintableGiven second → IsPrintableGiven (both first second)
both_printable (givens.Num n) (givens.Num m) p q = p
both_printable (givens.Num n) (givens.Text t) p q = p
both_printable (givens.Num n) (givens.Rate f) p q = (p, q)
both_printable (givens.Num n) (givens.Both m f) p q = p
both_printable (givens.Text t) second p q = p
both_printable (givens.Rate f) (givens.Num m) p q = (q, p)
both_printable (givens.Rate f) (givens.Text t) p q = p
both_printable (givens.Rate f) (givens.Rate g) p q = p
both_printable (givens.Rate f) (givens.Both m g) p q = p
both_printable (givens.Both n f) second p q = p

put_first : (part s : NamedSet) (sets : List NamedSet) (b : Bool) → AllByRecursion IsSetting (s ∷ sets) → IsSetting part
    → AllByRecursion IsSetting (with_part sets part)
    → AllByRecursion IsSetting (cond b (joined_setting s part ∷ sets) (s ∷ with_part sets part))
put_first part s sets true all is later = ((all.0.0, both_printable s.given part.given all.0.1 is.1), all.1)
put_first part s sets false all is later = (all.0, later)

put_set : (sets : List NamedSet) (part : NamedSet) → AllByRecursion IsSetting sets → IsSetting part → AllByRecursion IsSetting (with_part sets part)
put_set [] part all is = (is, tt)
put_set (s ∷ sets) part all is = put_first part s sets (is_set_of part s) all is (put_set sets part all.1 is)

settings_set : (parts sets : List NamedSet) → AllByRecursion IsSetting parts → AllByRecursion IsSetting sets
    → AllByRecursion IsSetting (fold with_part sets parts)
settings_set [] sets are all = all
settings_set (p ∷ parts) sets are all = settings_set parts (with_part sets p) are.1 (put_set sets p all are.0)

-- ---- Rows

name_is : (field : List ℕ) → is_object_name field ≡ true → IsShortName field
name_is field h =
    let parts = both_true (nat_le (length field) WORD_LIMIT && is_word field) (is_none (code_of reserved_words field)) h in
    let word = both_true (nat_le (length field) WORD_LIMIT) (is_word field) parts.0 in
    ((word.1, none (code_of reserved_words field) parts.1), grind (arith, nat_tests, word.0))
  where
    none : (o : Option ℕ) → is_none o ≡ true → o ≡ None
    none None k = refl
    none (Some code) k = absurd (cc k)

row_printable : (class name : List ℕ) (sets : List NamedSet) (present : Bool) → IsShortName class → IsShortName name → AllByRecursion IsSetting sets
    → IsPrintable (command_of_row class present (record { name = name; sets = sets }))
unfolding reserved_words
row_printable class name sets true short is all = (refl, (is, record { at = tt; moving = tt; settings = all }))
row_printable class name sets false short is all = (refl, (short, (is, record { at = tt; moving = tt; settings = all })))

row_is : ReadsEachDecimal → (class : List ℕ) (columns : List Column) (fields : List (List ℕ)) (row : ObjectRow) → IsShortName class
    → AllByRecursion (IsNamed IsShortName) columns
    → row_of columns fields ≡ Some row → IsPrintableRow class row
row_is decimal class columns [] row short named h = absurd (cc h)
row_is decimal class columns (name ∷ fields) row short named h = by (is_object_name name) refl
  where
    by_parts : is_object_name name ≡ true → (o : Option (List NamedSet)) → parts_of columns fields ≡ o
        → option_map {U = ObjectRow} (λ (parts : List NamedSet). record { name = name; sets = settings_of parts }) o ≡ Some row → IsPrintableRow class row
    by_parts is None e k = absurd (cc k)
    by_parts is (Some parts) e k =
        let same : row_for name (settings_of parts) ≡ row = cc k in
        let sets = settings_set parts [] (parts_set decimal columns fields parts named e) tt in
        subst (IsPrintableRow class) same (λ present. row_printable class name (settings_of parts) present short (name_is name is) sets)

    by : (b : Bool) → is_object_name name ≡ b → IsPrintableRow class row
    by true e = by_parts e (parts_of columns fields) refl (rw e at h)
    by false e = absurd (cc (rw e at h))

rows_are : ReadsEachDecimal → (class : List ℕ) (columns : List Column) (records : List (List (List ℕ))) (rows : List ObjectRow) → IsShortName class
    → AllByRecursion (IsNamed IsShortName) columns
    → each_row columns records ≡ Some rows → AllByRecursion (IsPrintableRow class) rows
rows_are decimal class columns [] rows short named h = let same : [] ≡ rows = cc h in subst (AllByRecursion (IsPrintableRow class)) same tt
rows_are decimal class columns (r ∷ rs) rows short named h =
    let b = begins (row_of columns r) (each_row columns rs) rows h in
    let first = row_is decimal class columns r b.item short named b.first_is in
    subst (AllByRecursion (IsPrintableRow class)) b.whole_is (first, rows_are decimal class columns rs b.later short named b.rest_is)

all_are : ReadsEachDecimal → (class : List ℕ) (attributes : List Attribute) (read : List (List (List ℕ))) (rows : List ObjectRow) → IsShortName class
    → AreNamed IsShortName attributes
    → rows_of attributes read ≡ Some rows → AllByRecursion (IsPrintableRow class) rows
all_are decimal class attributes [] rows short named h = absurd (cc h)
all_are decimal class attributes (header ∷ read) rows short named h = by (columns_of attributes header) refl
  where
    by : (o : Option (List Column)) → columns_of attributes header ≡ o → AllByRecursion (IsPrintableRow class) rows
    by None e = absurd (cc (rw e at h))
    by (Some columns) e = rows_are decimal class columns read rows short (columns_named IsShortName attributes header columns named e) (rw e at h)

pub commands_printable : ReadsEachDecimal → GivesPrintableCommands
unfolding rows_in
commands_printable decimal class attributes text rows short named h =
    all_are decimal class attributes (records default_config (strip_bom text)) rows short named h
