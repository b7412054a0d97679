-- For this crate and for the crates above: the rows of an import into a journal that steps lead to. Their commands are as if
-- they had been read from lines, and the journal after those that are taken is one that steps lead to.
use Rattle.std.proofs.Common.{◌≡◌, ℕ, ◌+◌, ◌<◌, ◌≤◌, suc, zero, Bool, true, false, Option, None, Some, List, [], ◌∷◌, ◌++◌, length, get_or, refl, sym, ap, subst, ◌∙◌, arith, if◌then◌else◌}
use Rattle.std.specs.Prelude.{is_none, nat_le, map}
use Rattle.std.specs.List.{AllByRecursion, find, fold}
use Rattle.std.specs.Str.{bytes_eq}
use Rattle.std.proofs.lemmas.Bool.{and_parts}
use Rattle.std.proofs.lemmas.Bool.Decides.{nat_tests}
use Rattle.std.proofs.lemmas.List.{append_assoc, length-map}
use Rattle.std.proofs.lemmas.List.Quantifiers.{position-Some}
use Rattle.std.proofs.lemmas.List.Sums.{fold-append}
use Rattle.std.proofs.lemmas.Slice.Eq.{bytes_eq-Decides}
use Rattle.case_table.specs.Language.{reserved_words}
use Rattle.motion.specs.declared.cell.AttrKind.{AttrKind}
use Rattle.motion.specs.declared.limits.TheConstants.{ATTRIBUTE_LIMIT}
use Rattle.history.specs.Catalog.{Catalog, ClassInfo, attributes_of_class, catalog_after, class_of, coordinates, empty_catalog, has_object, number_of_class, with_coordinates, with_new_object}
use Rattle.history.specs.Write.{Attribute}
use Rattle.object_rows.specs.declared.rows.ObjectRow.{ObjectRow}
use Rattle.object_rows.specs.Commands.{GivesPrintableCommands, GivesShortLines, HasShortLine, IsPrintableRow}
use Rattle.command_text.specs.declared.refusal.Refusal.{Refusal}
use Rattle.command_text.specs.Journal.{Accepted, clock, is_kept}
use Rattle.command_text.specs.Shape.{IsAttribute, IsPrintable, IsShortName}
use Rattle.command_text.specs.Text.{text_of}
use Rattle.command_text.specs.Tree
use Rattle.command_text.specs.Tree.{CommandTree}
use Rattle.session_file.specs.declared.kept.TheConstants.{SESSION_LINE_LIMIT}
use Rattle.line_meaning.specs.Fault.{is_present}
use Rattle.line_meaning.specs.Import.{MayBeLoaded, entry_lines, is_taken, journal_after_rows, lines_of_rows, row_command, rows_for, with_entry}
use Rattle.line_meaning.specs.Journal.{attribute_of, world, writes, writes_of}
use Rattle.line_meaning.specs.Judging.{fault_of, held}
use Rattle.line_meaning.specs.Looks.{looks_of_rows}
use Rattle.line_meaning.specs.Reached.{AreReached}
use Rattle.line_meaning.proofs.ReachedLemmas.{command_is_reached}
use Rattle.exact.proofs.Items.{all_joined}

-- ---- the classes of such a journal and their attributes have short names, and the attributes are few

abbrev IsNamed : Attribute → Type 0
IsNamed a = IsShortName a.name

abbrev IsShortClass : ClassInfo → Type 0
IsShortClass k = IsShortName k.name × AllByRecursion IsNamed k.attributes × (length k.attributes ≤ ATTRIBUTE_LIMIT + 2)

coordinates_named : AllByRecursion IsNamed coordinates
unfolding reserved_words
coordinates_named = (((refl, refl), omega arith), (((refl, refl), omega arith), tt))

attributes_named : (attributes : List (List ℕ × AttrKind)) → AllByRecursion IsAttribute attributes →
    AllByRecursion IsNamed (map attribute_of attributes)
attributes_named [] each = tt
attributes_named (a ∷ attributes) each = (each.0, attributes_named attributes each.1)

with_coordinates_named : (point : Bool) (attributes : List Attribute) → AllByRecursion IsNamed attributes →
    AllByRecursion IsNamed (with_coordinates point attributes)
with_coordinates_named true attributes named = all_joined IsNamed coordinates attributes coordinates_named named
with_coordinates_named false attributes named = named

with_coordinates_few : (point : Bool) (attributes : List (List ℕ × AttrKind)) → length attributes ≤ ATTRIBUTE_LIMIT →
    length (with_coordinates point (map attribute_of attributes)) ≤ ATTRIBUTE_LIMIT + 2
with_coordinates_few true attributes few = omega (arith, few, length-map attributes attribute_of)
with_coordinates_few false attributes few = omega (arith, few, length-map attributes attribute_of)

pub classes_kept : (known : Bool) (class : Option ℕ) (c : Catalog) (name : List ℕ) →
    (if known then c else with_new_object c class name).classes ≡ c.classes
classes_kept true class c name = refl
classes_kept false None c name = refl
classes_kept false (Some number) c name = refl

entry_short : (now : ℕ) (command : CommandTree) (c : Catalog) → IsPrintable command → AllByRecursion IsShortClass c.classes →
    AllByRecursion IsShortClass (fold catalog_after c (writes_of now command)).classes
entry_short now (Tree.Class name capacity point attributes) c printable short =
    let named = with_coordinates_named point (map attribute_of attributes) (attributes_named attributes printable.1.1.1.1.each) in
    let few = with_coordinates_few point attributes printable.1.1.1.1.few in
    all_joined IsShortClass c.classes
    (record { name = name; capacity = capacity; point = point; attributes = with_coordinates point (map attribute_of attributes) } ∷ [])
    short ((printable.1.0, named, few), tt)
entry_short now (Tree.Insert class name place sets) c printable short =
    subst (AllByRecursion IsShortClass) (sym (classes_kept (has_object c name) (number_of_class c class) c name)) short
entry_short now command c printable short = short

classes_short : (before journal : List Accepted) (c : Catalog) → AreReached before journal → AllByRecursion IsShortClass c.classes →
    AllByRecursion IsShortClass (fold catalog_after c (writes journal)).classes
classes_short before [] c reached short = short
classes_short before ((now, command) ∷ journal) c reached short =
    let is = reached.0 in
    subst (λ (k : Catalog). AllByRecursion IsShortClass k.classes) (sym (fold-append catalog_after c (writes_of now command) (writes journal)))
    (classes_short (before ++ (now, command) ∷ []) journal (fold catalog_after c (writes_of now command)) reached.1
    (entry_short now command c is.printable short))

classes_are_short : (journal : List Accepted) → AreReached [] journal → AllByRecursion IsShortClass (world journal).history.catalog.classes
classes_are_short journal reached = classes_short [] journal empty_catalog reached tt

-- ---- a class by its name

chosen_attributes : (is : Bool) (k : ClassInfo) (later : Option ClassInfo) → AllByRecursion IsNamed k.attributes →
    AllByRecursion IsNamed (attributes_of_class later) → AllByRecursion IsNamed (attributes_of_class (if is then Some k else later))
chosen_attributes true k later first rest = first
chosen_attributes false k later first rest = rest

attributes_found : (class : List ℕ) (classes : List ClassInfo) → AllByRecursion IsShortClass classes →
    AllByRecursion IsNamed (attributes_of_class (find (λ (k : ClassInfo). bytes_eq class k.name) classes))
attributes_found class [] short = tt
attributes_found class (k ∷ classes) short =
    chosen_attributes (bytes_eq class k.name) k (find (λ (k : ClassInfo). bytes_eq class k.name) classes) short.0.1
    (attributes_found class classes short.1)

-- the attributes of a class that isn't there are none
pub attributes_are_short : (journal : List Accepted) (class : List ℕ) → AreReached [] journal →
    AllByRecursion (λ (a : Attribute). IsShortName a.name) (attributes_of_class (class_of (world journal).history.catalog class))
attributes_are_short journal class reached =
    attributes_found class (world journal).history.catalog.classes (classes_are_short journal reached)

chosen_few : (is : Bool) (k : ClassInfo) (later : Option ClassInfo) → length k.attributes ≤ ATTRIBUTE_LIMIT + 2 →
    length (attributes_of_class later) ≤ ATTRIBUTE_LIMIT + 2 → length (attributes_of_class (if is then Some k else later)) ≤ ATTRIBUTE_LIMIT + 2
chosen_few true k later first rest = first
chosen_few false k later first rest = rest

few_found : (class : List ℕ) (classes : List ClassInfo) → AllByRecursion IsShortClass classes →
    length (attributes_of_class (find (λ (k : ClassInfo). bytes_eq class k.name) classes)) ≤ ATTRIBUTE_LIMIT + 2
few_found class [] short = omega arith
few_found class (k ∷ classes) short =
    chosen_few (bytes_eq class k.name) k (find (λ (k : ClassInfo). bytes_eq class k.name) classes) short.0.2 (few_found class classes short.1)

class_at : (classes : List ClassInfo) (number : ℕ) (d : ClassInfo) → number < length classes → AllByRecursion IsShortClass classes →
    IsShortName (get_or classes number d).name
class_at [] number d within short = absurd (omega arith)
class_at (k ∷ classes) zero d within short = short.0.0
class_at (k ∷ classes) (suc number) d within short = class_at classes number d (omega arith) short.1

-- a class that is there has a short name
pub class_is_short : (journal : List Accepted) (class : List ℕ) (number : ℕ) → AreReached [] journal →
    number_of_class (world journal).history.catalog class ≡ Some number → IsShortName class
class_is_short journal class number reached there =
    let classes = (world journal).history.catalog.classes in
    let none : ClassInfo = record { name = []; capacity = 0; point = false; attributes = [] } in
    let at = position-Some (λ (k : ClassInfo). bytes_eq class k.name) classes number none there in
    subst IsShortName (sym ((bytes_eq-Decides class (get_or classes number none).name).0 at.1))
    (class_at classes number none at.0 (classes_are_short journal reached))

-- ---- the commands of rows

module _ (prints : GivesPrintableCommands) where
  -- for a class of a short name, whether it is there or not
  pub named_rows_are_printable : (journal : List Accepted) (class text : List ℕ) (rows : List ObjectRow) → AreReached [] journal →
      IsShortName class → rows_for journal class text ≡ Some rows → AllByRecursion (IsPrintableRow class) rows
  named_rows_are_printable journal class text rows reached short is =
      prints class (attributes_of_class (class_of (world journal).history.catalog class)) text rows short
      (attributes_are_short journal class reached) is

  -- for a class that is there
  pub rows_are_printable : (journal : List Accepted) (class text : List ℕ) (rows : List ObjectRow) (number : ℕ) → AreReached [] journal →
      number_of_class (world journal).history.catalog class ≡ Some number → rows_for journal class text ≡ Some rows →
      AllByRecursion (IsPrintableRow class) rows
  rows_are_printable journal class text rows number reached there is =
      named_rows_are_printable journal class text rows reached (class_is_short journal class number reached there) is

-- ---- they may be lines of a session's text

row_may : (class : List ℕ) (row : ObjectRow) → HasShortLine class row → MayBeLoaded class row
row_may class row short true = let line = short true in grind (arith, nat_tests, line)
row_may class row short false = let line = short false in grind (arith, nat_tests, line)

rows_may : (class : List ℕ) (rows : List ObjectRow) → AllByRecursion (HasShortLine class) rows → AllByRecursion (MayBeLoaded class) rows
rows_may class [] short = tt
rows_may class (row ∷ rows) short = (row_may class row short.0, rows_may class rows short.1)

pub rows_may_be_loaded : GivesShortLines → (journal : List Accepted) (class text : List ℕ) (rows : List ObjectRow) → AreReached [] journal →
    IsShortName class → rows_for journal class text ≡ Some rows → AllByRecursion (MayBeLoaded class) rows
rows_may_be_loaded lines journal class text rows reached short is =
    rows_may class rows (lines class (attributes_of_class (class_of (world journal).history.catalog class)) text rows short
    (attributes_are_short journal class reached) (few_found class (world journal).history.catalog.classes (classes_are_short journal reached)) is)

-- ---- the journal after rows

pub none_is : (o : Option Refusal) → is_none o ≡ true → o ≡ None
none_is None is = refl
none_is (Some r) is = absurd (cc is)

short_is : (n : ℕ) → nat_le n SESSION_LINE_LIMIT ≡ true → n ≤ SESSION_LINE_LIMIT
short_is n is = grind (arith, nat_tests, is)

-- a row that is taken leads on
pub row_is_reached : (journal : List Accepted) (class : List ℕ) (row : ObjectRow) → AreReached [] journal → IsPrintableRow class row → MayBeLoaded class row →
    is_taken journal (row_command journal class row) ≡ true → AreReached [] (with_entry journal (row_command journal class row))
row_is_reached journal class row reached printable may taken =
    let c = row_command journal class row in
    let present = is_present (world journal).history row.name (clock journal) in
    let short = (and_parts (is_kept c) (nat_le (length (text_of c)) SESSION_LINE_LIMIT) (may present)).1 in
    command_is_reached (held journal) c (printable present) (short_is (length (text_of c)) short) (none_is (fault_of (held journal) c) taken) reached

-- the first of some rows is taken where all of them are
first_row : (class : List ℕ) (next : List Accepted) (rows : List ObjectRow) (after : List Accepted) (taken : Bool) →
    (taken ≡ true → AreReached [] next) → (AreReached [] next → journal_after_rows class next rows ≡ Some after → AreReached [] after) →
    (if taken then journal_after_rows class next rows else None) ≡ Some after → AreReached [] after
first_row class next rows after true first later is = later (first refl) is
first_row class next rows after false first later is = absurd (cc is)

pub rows_are_reached : (class : List ℕ) (journal : List Accepted) (rows : List ObjectRow) (after : List Accepted) → AreReached [] journal →
    AllByRecursion (IsPrintableRow class) rows → AllByRecursion (MayBeLoaded class) rows → journal_after_rows class journal rows ≡ Some after →
    AreReached [] after
rows_are_reached class journal [] after reached printable may is =
    let same : journal ≡ after = cc is in
    subst (AreReached []) same reached
rows_are_reached class journal (row ∷ rows) after reached printable may is =
    let c = row_command journal class row in
    first_row class (with_entry journal c) rows after (is_taken journal c)
    (row_is_reached journal class row reached printable.0 may.0)
    (λ next rest. rows_are_reached class (with_entry journal c) rows after next printable.1 may.1 rest) is

-- ---- some rows and then others

-- all rows are taken where some are
taken_on : (taken : Bool) (next : Option (List Accepted)) (after : List Accepted) → (if taken then next else None) ≡ Some after → next ≡ Some after
taken_on true next after is = is
taken_on false next after is = absurd (cc is)

both_on : (taken : Bool) (next whole rest : Option (List Accepted)) (after : List Accepted) → (next ≡ Some after → whole ≡ rest) →
    (if taken then next else None) ≡ Some after → (if taken then whole else None) ≡ rest
both_on true next whole rest after same is = same is
both_on false next whole rest after same is = absurd (cc is)

pub rows_more : (class : List ℕ) (journal : List Accepted) (first later : List ObjectRow) (after : List Accepted) →
    journal_after_rows class journal first ≡ Some after →
    journal_after_rows class journal (first ++ later) ≡ journal_after_rows class after later
rows_more class journal [] later after is =
    let same : journal ≡ after = cc is in
    ap (λ (j : List Accepted). journal_after_rows class j later) same
rows_more class journal (row ∷ first) later after is =
    let c = row_command journal class row in
    let next = with_entry journal c in
    both_on (is_taken journal c) (journal_after_rows class next first) (journal_after_rows class next (first ++ later))
    (journal_after_rows class after later) after (λ rest. rows_more class next first later after rest) is

pub lines_more : (class : List ℕ) (journal : List Accepted) (first later : List ObjectRow) (after : List Accepted) →
    journal_after_rows class journal first ≡ Some after →
    lines_of_rows class journal (first ++ later) ≡ lines_of_rows class journal first ++ lines_of_rows class after later
lines_more class journal [] later after is =
    let same : journal ≡ after = cc is in
    ap (λ (j : List Accepted). lines_of_rows class j later) same
lines_more class journal (row ∷ first) later after is =
    let c = row_command journal class row in
    let next = with_entry journal c in
    let rest = taken_on (is_taken journal c) (journal_after_rows class next first) after is in
    ap (λ lines. entry_lines journal c ++ lines) (lines_more class next first later after rest)
    ∙ sym (append_assoc (entry_lines journal c) (lines_of_rows class next first) (lines_of_rows class after later))

pub looks_more : (class : List ℕ) (journal : List Accepted) (first later : List ObjectRow) (after : List Accepted) →
    journal_after_rows class journal first ≡ Some after →
    looks_of_rows class journal (first ++ later) ≡ looks_of_rows class journal first + looks_of_rows class after later
looks_more class journal [] later after is =
    let same : journal ≡ after = cc is in
    let looks = ap (λ (j : List Accepted). looks_of_rows class j later) same in
    omega (arith, looks)
looks_more class journal (row ∷ first) later after is =
    let c = row_command journal class row in
    let next = with_entry journal c in
    let rest = taken_on (is_taken journal c) (journal_after_rows class next first) after is in
    let more = looks_more class next first later after rest in
    omega (arith, more)
