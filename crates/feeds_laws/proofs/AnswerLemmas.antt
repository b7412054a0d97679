-- The lines of an answer: after the start of the query they are its rows, and elsewhere they say nothing.
use Rattle.std.proofs.Common.{◌≡◌, ◌∙◌, ℕ, zero, suc, ◌≤◌, Bool, true, false, ◌&&◌, ◌||◌, cond, List, [], ◌∷◌, ◌++◌, map, codes, Option, Some, None, refl, ap, sym, append_assoc}
use Rattle.std.specs.Fmt.{decimal}
use Rattle.std.specs.Prelude.{if◌then◌else◌, nat_le, nat_lt, slice_get}
use Rattle.std.specs.List.{AllByRecursion, flat_map, list_any}
use Rattle.std.specs.Option.{option_map_or}
use Rattle.std.specs.Str.{bytes_eq}
use Rattle.formula.specs.declared.kind.QueryKind.{QueryKind}
use Rattle.formula.specs.declared.kind.QueryKind.TheVariants.{Watch, Keep}
use Rattle.formula.specs.Kinds.{kind_word}
use Rattle.tick_set.specs.Runs.{runs_of}
use Rattle.tick_set.specs.Ticks.{listed, within}
use Rattle.tick_set.specs.declared.operation.SetOperation.TheVariants.{Union}
use Rattle.tick_set.specs.declared.spans.TheConstants.{LAST_TICK}
use Rattle.history.specs.Catalog.{Catalog, ObjectInfo, name_of}
use Rattle.meaning.specs.Answer.{Row, has_ticks, row_where, rows_where}
use Rattle.line_meaning.specs.Reply.{name_text, row_line, row_text, rows_text, run_text, time_word}
use Rattle.feeds_meaning.specs.Lines.{start_line, stop_line}
use Rattle.replica.specs.Line.{ToldLine, Answers, Nothing, Starts, Stops, told_by_line, row_in_text}
use Rattle.replica.specs.Printed.{IsTellable, answer_row_text, start_text}
use Rattle.replica.specs.Rows as copies
use Rattle.replica.specs.Text.{is_free_name}
use Rattle.replica.specs.Ticks.{AreRuns}
use Rattle.replica.specs.declared.copied.Copied.{Copied}
use Rattle.replica.proofs.CallerLemmas.{later_line, now_line, past_line, reads}
use Rattle.feeds_laws.specs.Targets.{target_of, target_text}
use Rattle.feeds_laws.proofs.ChangeLemmas.{HasTargets, copy_of}
use Rattle.feeds_laws.proofs.KeyLemmas.{IsNamed}
use Rattle.feeds_laws.proofs.ReadingLemmas.{Following, Leads, both_lead, has_no_feed, line_leads, nothing_leads}
use Rattle.feeds_laws.proofs.RowLemmas.{changed_if, changed_if_at, has_at, have_listed, union_keeps, with_rows}
use Rattle.feeds_laws.proofs.RunLemmas.{listed_runs, ticks_there}
use Rattle.feeds_laws.proofs.TextLemmas.{AreTargets, decimal_free, free_both, is_told_target, name_free, names_free, runs_free, spaced_target}
use Rattle.feeds_laws.proofs.TurningLemmas.{is_some_now}

-- ---- The start and the end of a query

start_shape : (query kind clock : List ℕ) →
    ((codes "start" ++ 32 ∷ query) ++ 32 ∷ kind) ++ 32 ∷ clock ≡ codes "start" ++ 32 ∷ (query ++ 32 ∷ (kind ++ 32 ∷ clock))
start_shape query kind clock =
    append_assoc (codes "start" ++ 32 ∷ query) (32 ∷ kind) (32 ∷ clock) ∙ append_assoc (codes "start") (32 ∷ query) (32 ∷ (kind ++ 32 ∷ clock))

start_is : (kind : QueryKind) (query : List ℕ) (clock : ℕ) →
    ((codes "start" ++ 32 ∷ query) ++ 32 ∷ kind_word kind) ++ 32 ∷ decimal clock ≡ start_text query kind clock
start_is Watch query clock = start_shape query (codes "watch") (decimal clock)
start_is Keep query clock = start_shape query (codes "keep") (decimal clock)

kind_free : (kind : QueryKind) → has_no_feed (kind_word kind) ≡ true
kind_free Watch = refl
kind_free Keep = refl

start_free : (kind : QueryKind) (query : List ℕ) (clock : ℕ) → is_free_name query ≡ true →
    has_no_feed (((codes "start" ++ 32 ∷ query) ++ 32 ∷ kind_word kind) ++ 32 ∷ decimal clock) ≡ true
start_free kind query clock is =
    free_both ((codes "start" ++ 32 ∷ query) ++ 32 ∷ kind_word kind) (32 ∷ decimal clock)
    (free_both (codes "start" ++ 32 ∷ query) (32 ∷ kind_word kind) (free_both (codes "start") (32 ∷ query) refl (name_free query is)) (kind_free kind))
    (decimal_free clock)

module _ (name : List ℕ) (is : is_free_name name ≡ true) where
  pub start_leads : (kind : QueryKind) (clock : ℕ) → clock ≤ LAST_TICK → (s : Following) → Leads name (start_line kind name clock) s (copy_of kind clock [], true)
  start_leads kind clock within s =
      line_leads name (((codes "start" ++ 32 ∷ name) ++ 32 ∷ kind_word kind) ++ 32 ∷ decimal clock) (Starts kind clock) s (start_free kind name clock is)
      (ap (told_by_line name) (start_is kind name clock) ∙ (reads name is).starts kind clock within) refl

  pub stop_leads : (s : Following) → Leads name (stop_line name) s (None, false)
  stop_leads s = line_leads name (codes "stop" ++ 32 ∷ name) Stops s (free_both (codes "stop") (32 ∷ name) refl (name_free name is)) (reads name is).stops refl

  module _ (other : List ℕ) (other_is : is_free_name other ≡ true) (differs : bytes_eq other name ≡ false) (copy : Option Copied) where
    pub other_start : (kind : QueryKind) (clock : ℕ) → Leads name (start_line kind other clock) (copy, false) (copy, false)
    other_start kind clock =
        line_leads name (((codes "start" ++ 32 ∷ other) ++ 32 ∷ kind_word kind) ++ 32 ∷ decimal clock) Nothing (copy, false) (start_free kind other clock other_is)
        (ap (told_by_line name) (start_is kind other clock) ∙ (reads name is).others_start other kind clock other_is differs) refl

    pub other_stop : Leads name (stop_line other) (copy, false) (copy, false)
    other_stop =
        line_leads name (codes "stop" ++ 32 ∷ other) Nothing (copy, false) (free_both (codes "stop") (32 ∷ other) refl (name_free other other_is))
        ((reads name is).others_stop other other_is differs) refl

-- ---- Rows

-- a row's line without its line feed
abbrev row_front : List ℕ → List ℕ → List (ℕ × ℕ) → List ℕ
row_front word names runs = ((word ++ names) ++ codes " :") ++ flat_map run_text runs

front_shape : (word names spans : List ℕ) → ((word ++ names) ++ codes " :") ++ spans ≡ word ++ (names ++ (codes " :" ++ spans))
front_shape word names spans = append_assoc (word ++ names) (codes " :") spans ∙ append_assoc word names (codes " :" ++ spans)

front_free : (word names : List ℕ) (runs : List (ℕ × ℕ)) → has_no_feed word ≡ true → has_no_feed names ≡ true → has_no_feed (row_front word names runs) ≡ true
front_free word names runs h k = free_both ((word ++ names) ++ codes " :") (flat_map run_text runs) (free_both (word ++ names) (codes " :") (free_both word names h k) refl) (runs_free runs)

-- each word of a time
by_word : (P : List ℕ → Type 0) → P (codes "now") → P (codes "later") → P (codes "past") → (now : ℕ) (runs : List (ℕ × ℕ)) → P (time_word now runs)
by_word P first second third now runs =
    by (list_any (λ (run : ℕ × ℕ). nat_le run.0 now && nat_le now run.1) runs) (list_any (λ (run : ℕ × ℕ). nat_lt now run.1) runs)
  where
    by : (here later : Bool) → P (if here then codes "now" else (if later then codes "later" else codes "past"))
    by true later = first
    by false true = second
    by false false = third

module _ (name : List ℕ) (is : is_free_name name ≡ true) where
  row_leads : (kind : QueryKind) (clock : ℕ) (rows : List copies.TargetRow) (now : ℕ) (names : List (List ℕ)) → AreTargets names → (runs : List (ℕ × ℕ)) → AreRuns 0 runs → has_ticks runs ≡ true →
      Leads name (row_line now names runs) (copy_of kind clock rows, true) (copy_of kind clock (copies.rows_after_told Union (target_text names, runs) rows), true)
  row_leads kind clock rows now names are runs fit there =
      let row : copies.TargetRow = (target_text names, runs) in
      let told : IsTellable row = record { names = is_told_target names are; runs = fit; some = ticks_there runs there } in
      let shape : (word : List ℕ) → row_front word (flat_map name_text names) runs ≡ answer_row_text word row =
      λ word. front_shape word (flat_map name_text names) (flat_map run_text runs) ∙ ap (λ ns. word ++ (ns ++ (codes " :" ++ flat_map run_text runs))) (spaced_target names are.some) in
      let line : (word : List ℕ) → has_no_feed word ≡ true → told_by_line name (answer_row_text word row) ≡ Answers row →
      Leads name (row_front word (flat_map name_text names) runs ++ 10 ∷ []) (copy_of kind clock rows, true) (copy_of kind clock (copies.rows_after_told Union row rows), true) =
      λ word free says. line_leads name (row_front word (flat_map name_text names) runs) (Answers row) (copy_of kind clock rows, true)
      (front_free word (flat_map name_text names) runs free (names_free names are.each)) (ap (told_by_line name) (shape word) ∙ says) refl in
      by_word (λ word. Leads name (row_front word (flat_map name_text names) runs ++ 10 ∷ []) (copy_of kind clock rows, true) (copy_of kind clock (copies.rows_after_told Union row rows), true))
      (line (codes "now") refl ((reads name is).nows row told)) (line (codes "later") refl ((reads name is).laters row told)) (line (codes "past") refl ((reads name is).pasts row told)) now runs

  -- the rows of an answer, after the start of the query
  pub rows_lead : (c : Catalog) (holds : List ℕ → ℕ → Bool) (now from e : ℕ) → e ≤ LAST_TICK → (kind : QueryKind) (clock : ℕ) (keys : List (List ℕ)) → AllByRecursion (HasTargets c) keys → (rows : List copies.TargetRow) →
      Leads name (rows_text c now (rows_where keys holds from e)) (copy_of kind clock rows, true)
      (copy_of kind clock (with_rows (target_of c) (λ key. runs_of (listed (holds key) from e)) keys rows), true)
  rows_lead c holds now from e last kind clock [] all rows = nothing_leads name (copy_of kind clock rows, true)
  rows_lead c holds now from e last kind clock (key ∷ keys) all rows =
      by (λ rows. rows_lead c holds now from e last kind clock keys all.1 rows) (has_ticks (runs_of (listed (holds key) from e))) refl
    where
      by : ((rows : List copies.TargetRow) → Leads name (rows_text c now (rows_where keys holds from e)) (copy_of kind clock rows, true)
          (copy_of kind clock (with_rows (target_of c) (λ key. runs_of (listed (holds key) from e)) keys rows), true)) →
          (b : Bool) → has_ticks (runs_of (listed (holds key) from e)) ≡ b →
          Leads name (rows_text c now (if b then row_where holds from e key ∷ rows_where keys holds from e else rows_where keys holds from e)) (copy_of kind clock rows, true) (
            copy_of kind clock (with_rows (target_of c) (λ key. runs_of (listed (holds key) from e)) keys
                (if b then copies.rows_after_told Union (target_of c key, runs_of (listed (holds key) from e)) rows else rows)),
            true,
          )
      by later true there =
          let runs : List (ℕ × ℕ) = runs_of (listed (holds key) from e) in
          let next : List copies.TargetRow = copies.rows_after_told Union (target_of c key, runs) rows in
          both_lead name (row_text c now (row_where holds from e key)) (rows_text c now (rows_where keys holds from e)) (copy_of kind clock rows, true) (copy_of kind clock next, true)
          (copy_of kind clock (with_rows (target_of c) (λ key. runs_of (listed (holds key) from e)) keys next), true)
          (row_leads kind clock rows now (map (name_of c) key) all.0 runs (listed_runs (holds key) from e last) there) (later next)
      by later false none = later rows

-- ---- Rows that say nothing

rest_of : (names : List (List ℕ)) (spans : List ℕ) → List ℕ
rest_of [] spans = 58 ∷ spans
rest_of (name ∷ names) spans = (name ++ flat_map name_text names) ++ (32 ∷ 58 ∷ spans)

rest_is : (names : List (List ℕ)) (spans : List ℕ) → flat_map name_text names ++ (codes " :" ++ spans) ≡ 32 ∷ rest_of names spans
unfolding rest_of
rest_is [] spans = refl
rest_is (name ∷ names) spans = refl

object_free : (objects : List ObjectInfo) (id : ℕ) → AllByRecursion IsNamed objects → has_no_feed (option_map_or (λ (o : ObjectInfo). o.name) (slice_get objects id) []) ≡ true
object_free objects id named = by (slice_get objects id) refl
  where
    there : (objects : List ObjectInfo) (id : ℕ) → AllByRecursion IsNamed objects → (o : ObjectInfo) → slice_get objects id ≡ Some o → is_free_name o.name ≡ true
    there [] id named o is = absurd (cc)
    there (x ∷ objects) zero named o is = let same : x ≡ o = cc in ap (λ (o : ObjectInfo). is_free_name o.name) (sym same) ∙ named.0
    there (x ∷ objects) (suc id) named o is = there objects id named.1 o is

    by : (o : Option ObjectInfo) → slice_get objects id ≡ o → has_no_feed (option_map_or (λ (o : ObjectInfo). o.name) o []) ≡ true
    by None is = refl
    by (Some o) is = name_free o.name (there objects id named o is)

pub key_free : (c : Catalog) → AllByRecursion IsNamed c.objects → (key : List ℕ) → has_no_feed (flat_map name_text (map (name_of c) key)) ≡ true
key_free c named [] = refl
key_free c named (id ∷ key) = free_both (name_text (name_of c id)) (flat_map name_text (map (name_of c) key)) (object_free c.objects id named) (key_free c named key)

abbrev says : List ℕ → ToldLine
says text = option_map_or Answers (row_in_text text) Nothing

module _ (name : List ℕ) (copy : Option Copied) where
  stays_by : (text line : List ℕ) → has_no_feed line ≡ true → told_by_line name line ≡ says text → Leads name (line ++ 10 ∷ []) (copy, false) (copy, false)
  stays_by text line free is = by (row_in_text text) (told_by_line name line) is refl
    where
      by : (o : Option copies.TargetRow) (told : ToldLine) → told ≡ option_map_or Answers o Nothing → told_by_line name line ≡ told → Leads name (line ++ 10 ∷ []) (copy, false) (copy, false)
      by None told e told_is = line_leads name line Nothing (copy, false) free (told_is ∙ e) refl
      by (Some row) told e told_is = line_leads name line (Answers row) (copy, false) free (told_is ∙ e) refl

  row_stays : (now : ℕ) (names : List (List ℕ)) (runs : List (ℕ × ℕ)) → has_no_feed (flat_map name_text names) ≡ true → Leads name (row_line now names runs) (copy, false) (copy, false)
  row_stays now names runs free =
      let spans : List ℕ = flat_map run_text runs in
      let shape : (word : List ℕ) → row_front word (flat_map name_text names) runs ≡ word ++ 32 ∷ rest_of names spans =
      λ word. front_shape word (flat_map name_text names) spans ∙ ap (λ rest. word ++ rest) (rest_is names spans) in
      let line : (word : List ℕ) → has_no_feed word ≡ true → told_by_line name (word ++ 32 ∷ rest_of names spans) ≡ says (rest_of names spans) →
      Leads name (row_front word (flat_map name_text names) runs ++ 10 ∷ []) (copy, false) (copy, false) =
      λ word word_free is. stays_by (rest_of names spans) (row_front word (flat_map name_text names) runs) (front_free word (flat_map name_text names) runs word_free free) (ap (told_by_line name) (shape word) ∙ is) in
      by_word (λ word. Leads name (row_front word (flat_map name_text names) runs ++ 10 ∷ []) (copy, false) (copy, false))
      (line (codes "now") refl (now_line name (rest_of names spans))) (line (codes "later") refl (later_line name (rest_of names spans))) (line (codes "past") refl (past_line name (rest_of names spans))) now runs

  pub rows_stay : (c : Catalog) → AllByRecursion IsNamed c.objects → (now : ℕ) (rows : List Row) → Leads name (rows_text c now rows) (copy, false) (copy, false)
  rows_stay c named now [] = nothing_leads name (copy, false)
  rows_stay c named now (row ∷ rows) =
      both_lead name (row_text c now row) (rows_text c now rows) (copy, false) (copy, false) (copy, false)
      (row_stays now (map (name_of c) row.key) row.runs (key_free c named row.key)) (rows_stay c named now rows)

-- ---- The ticks of the rows of an answer

with_one : (same had here : Bool) (later : Bool) → (cond same (had || here) had || later) ≡ (had || (same && here || later))
with_one true true here later = refl
with_one true false here later = refl
with_one false true here later = refl
with_one false false here later = refl

pub with_rows_at : (text : List ℕ → List ℕ) (holds : List ℕ → ℕ → Bool) (from e : ℕ) (keys : List (List ℕ)) (rows : List copies.TargetRow) (target : List ℕ) (t : ℕ) →
    has_at (with_rows text (λ key. runs_of (listed (holds key) from e)) keys rows) target t
    ≡ (has_at rows target t || is_some_now text target (λ key. within from e t && holds key t) keys)
with_rows_at text holds from e [] rows target t = none (has_at rows target t)
  where
    none : (b : Bool) → b ≡ (b || false)
    none true = refl
    none false = refl
with_rows_at text holds from e (key ∷ keys) rows target t =
    let runs : List (ℕ × ℕ) = runs_of (listed (holds key) from e) in
    with_rows_at text holds from e keys (changed_if Union (text key) runs rows) target t
    ∙ ap (λ b. b || is_some_now text target (λ key. within from e t && holds key t) keys)
    (changed_if_at Union union_keeps (text key) runs rows target t ∙ ap (λ h. cond (bytes_eq (text key) target) (has_at rows target t || h) (has_at rows target t)) (have_listed (holds key) from e t))
    ∙ with_one (bytes_eq (text key) target) (has_at rows target t) (within from e t && holds key t) (is_some_now text target (λ key. within from e t && holds key t) keys)
