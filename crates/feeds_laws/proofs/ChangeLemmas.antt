-- What a write changes for a query is told as what its targets gain and lose, and for other queries as nothing.
use Rattle.std.proofs.Common.{◌≡◌, ◌∙◌, ℕ, ◌≤◌, Bool, true, false, ◌||◌, List, [], ◌∷◌, ◌++◌, map, codes, Option, Some, refl, ap, sym, subst, append_assoc, arith}
use Rattle.std.specs.Prelude.{if◌then◌else◌, filter}
use Rattle.std.specs.List.{AllByRecursion, flat_map, list_all}
use Rattle.std.specs.Str.{bytes_eq}
use Rattle.formula.specs.declared.kind.QueryKind.{QueryKind}
use Rattle.tick_set.specs.declared.operation.SetOperation.TheVariants.{Union, Without}
use Rattle.tick_set.specs.declared.spans.TheConstants.{LAST_TICK}
use Rattle.history.specs.Catalog.{Catalog, name_of}
use Rattle.meaning.specs.Answer.{has_ticks}
use Rattle.meaning.specs.Registered.{Change, change_of, is_change, passage_of}
use Rattle.line_meaning.specs.Changes.{change_head, change_lines, change_text, ticks_line, turn_line}
use Rattle.line_meaning.specs.Reply.{name_text, run_text}
use Rattle.replica.specs.Line.{Changes, Nothing, told_by_line}
use Rattle.replica.specs.Printed.{IsTellable}
use Rattle.replica.specs.Rows.{TargetRow}
use Rattle.replica.specs.Text.{is_free_name}
use Rattle.replica.specs.Ticks.{AreRuns}
use Rattle.replica.specs.declared.copied.Copied.{Copied}
use Rattle.replica.proofs.CallerLemmas.{reads}
use Rattle.feeds_laws.specs.Targets.{target_of, target_text}
use Rattle.feeds_laws.proofs.ReadingLemmas.{Leads, both_lead, has_no_feed, line_leads, nothing_leads}
use Rattle.feeds_laws.proofs.RowLemmas.{after_change, after_keys, changed_if, gains, losses}
use Rattle.feeds_laws.proofs.RunLemmas.{listed_runs}
use Rattle.feeds_laws.proofs.TextLemmas.{AreTargets, free_both, is_told_target, name_free, names_free, runs_free, spaced_target}

abbrev pub copy_of : QueryKind → ℕ → List TargetRow → Option Copied
copy_of kind clock rows = Some (record { kind = kind; clock = clock; rows = rows })

-- ---- The shapes of lines

shape : (word query target colon spans : List ℕ) →
    (((word ++ 32 ∷ query) ++ 32 ∷ target) ++ colon) ++ spans ≡ word ++ 32 ∷ (query ++ 32 ∷ (target ++ (colon ++ spans)))
shape word query target colon spans =
    append_assoc ((word ++ 32 ∷ query) ++ 32 ∷ target) colon spans
    ∙ append_assoc (word ++ 32 ∷ query) (32 ∷ target) (colon ++ spans)
    ∙ append_assoc word (32 ∷ query) (32 ∷ (target ++ (colon ++ spans)))

-- a line of ticks without its line feed
abbrev ticks_front : List ℕ → List (ℕ × ℕ) → List ℕ
ticks_front head runs = (head ++ codes " :") ++ flat_map run_text runs

ticks_shape : (word query : List ℕ) (names : List (List ℕ)) (runs : List (ℕ × ℕ)) → AreTargets names →
    ticks_front (change_head word query names) runs ≡ word ++ 32 ∷ (query ++ 32 ∷ (target_text names ++ (codes " :" ++ flat_map run_text runs)))
ticks_shape word query names runs are =
    ap (λ ns. (((word ++ 32 ∷ query) ++ ns) ++ codes " :") ++ flat_map run_text runs) (spaced_target names are.some)
    ∙ shape word query (target_text names) (codes " :") (flat_map run_text runs)

head_free : (word query : List ℕ) (names : List (List ℕ)) → has_no_feed word ≡ true → is_free_name query ≡ true → list_all is_free_name names ≡ true →
    has_no_feed (change_head word query names) ≡ true
head_free word query names free is all =
    free_both (word ++ name_text query) (flat_map name_text names) (free_both word (name_text query) free (name_free query is)) (names_free names all)

front_free : (head : List ℕ) (runs : List (ℕ × ℕ)) → has_no_feed head ≡ true → has_no_feed (ticks_front head runs) ≡ true
front_free head runs free = free_both (head ++ codes " :") (flat_map run_text runs) (free_both head (codes " :") free refl) (runs_free runs)

-- ---- Lines of the query

module _ (name : List ℕ) (is : is_free_name name ≡ true) (names : List (List ℕ)) (are : AreTargets names) where
  told_row : (runs : List (ℕ × ℕ)) (run : ℕ × ℕ) → AreRuns 0 (run ∷ runs) → IsTellable (target_text names, run ∷ runs)
  told_row runs run fit = record { names = is_told_target names are; runs = fit; some = omega arith }

  gain_leads : (kind : QueryKind) (clock : ℕ) (rows : List TargetRow) (runs : List (ℕ × ℕ)) → AreRuns 0 runs →
      Leads name (ticks_line (change_head (codes "gain") name names) runs) (copy_of kind clock rows, false)
      (copy_of kind clock (changed_if Union (target_text names) runs rows), false)
  gain_leads kind clock rows [] fit = nothing_leads name (copy_of kind clock rows, false)
  gain_leads kind clock rows (run ∷ runs) fit =
      let row : TargetRow = (target_text names, run ∷ runs) in
      line_leads name (ticks_front (change_head (codes "gain") name names) (run ∷ runs)) (Changes Union row) (copy_of kind clock rows, false)
      (front_free (change_head (codes "gain") name names) (run ∷ runs) (head_free (codes "gain") name names refl is are.each))
      (ap (told_by_line name) (ticks_shape (codes "gain") name names (run ∷ runs) are) ∙ (reads name is).gains row (told_row runs run fit))
      refl

  lose_leads : (kind : QueryKind) (clock : ℕ) (rows : List TargetRow) (runs : List (ℕ × ℕ)) → AreRuns 0 runs →
      Leads name (ticks_line (change_head (codes "lose") name names) runs) (copy_of kind clock rows, false)
      (copy_of kind clock (changed_if Without (target_text names) runs rows), false)
  lose_leads kind clock rows [] fit = nothing_leads name (copy_of kind clock rows, false)
  lose_leads kind clock rows (run ∷ runs) fit =
      let row : TargetRow = (target_text names, run ∷ runs) in
      line_leads name (ticks_front (change_head (codes "lose") name names) (run ∷ runs)) (Changes Without row) (copy_of kind clock rows, false)
      (front_free (change_head (codes "lose") name names) (run ∷ runs) (head_free (codes "lose") name names refl is are.each))
      (ap (told_by_line name) (ticks_shape (codes "lose") name names (run ∷ runs) are) ∙ (reads name is).losses row (told_row runs run fit))
      refl

-- ---- Lines that say nothing

module _ (name : List ℕ) (is : is_free_name name ≡ true) (copy : Option Copied) where
  abbrev Stays : List ℕ → Type 0
  Stays text = Leads name text (copy, false) (copy, false)

  turn_stays : (word query : List ℕ) (names : List (List ℕ)) (happens : Bool) → has_no_feed word ≡ true → ((rest : List ℕ) → told_by_line name (word ++ (codes " " ++ rest)) ≡ Nothing) →
      is_free_name query ≡ true → list_all is_free_name names ≡ true → Stays (turn_line (change_head word query names) happens)
  turn_stays word query names false free passed named all = nothing_leads name (copy, false)
  turn_stays word query names true free passed named all =
      line_leads name (change_head word query names) Nothing (copy, false) (head_free word query names free named all)
      (ap (told_by_line name) (append_assoc word (32 ∷ query) (flat_map name_text names)) ∙ passed (query ++ flat_map name_text names))
      refl

  pub enter_stays : (query : List ℕ) (names : List (List ℕ)) (happens : Bool) → is_free_name query ≡ true → list_all is_free_name names ≡ true →
      Stays (turn_line (change_head (codes "enter") query names) happens)
  enter_stays query names happens = turn_stays (codes "enter") query names happens refl (λ rest. (reads name is).passed_over (codes "enter") rest refl refl)

  pub leave_stays : (query : List ℕ) (names : List (List ℕ)) (happens : Bool) → is_free_name query ≡ true → list_all is_free_name names ≡ true →
      Stays (turn_line (change_head (codes "leave") query names) happens)
  leave_stays query names happens = turn_stays (codes "leave") query names happens refl (λ rest. (reads name is).passed_over (codes "leave") rest refl refl)

  module _ (other : List ℕ) (other_is : is_free_name other ≡ true) (differs : bytes_eq other name ≡ false) (names : List (List ℕ)) (are : AreTargets names) where
    other_gain : (runs : List (ℕ × ℕ)) → Stays (ticks_line (change_head (codes "gain") other names) runs)
    other_gain [] = nothing_leads name (copy, false)
    other_gain (run ∷ runs) =
        line_leads name (ticks_front (change_head (codes "gain") other names) (run ∷ runs)) Nothing (copy, false)
        (front_free (change_head (codes "gain") other names) (run ∷ runs) (head_free (codes "gain") other names refl other_is are.each))
        (ap (told_by_line name) (ticks_shape (codes "gain") other names (run ∷ runs) are) ∙ (reads name is).others_gain other (target_text names, run ∷ runs) other_is differs)
        refl

    other_lose : (runs : List (ℕ × ℕ)) → Stays (ticks_line (change_head (codes "lose") other names) runs)
    other_lose [] = nothing_leads name (copy, false)
    other_lose (run ∷ runs) =
        line_leads name (ticks_front (change_head (codes "lose") other names) (run ∷ runs)) Nothing (copy, false)
        (front_free (change_head (codes "lose") other names) (run ∷ runs) (head_free (codes "lose") other names refl other_is are.each))
        (ap (told_by_line name) (ticks_shape (codes "lose") other names (run ∷ runs) are) ∙ (reads name is).others_lose other (target_text names, run ∷ runs) other_is differs)
        refl

    -- all lines of a change of another query
    other_change : (gained lost : List (ℕ × ℕ)) (enters leaves : Bool) → Stays (change_lines other names gained lost enters leaves)
    other_change gained lost enters leaves =
        let head : List ℕ → List ℕ = λ word. change_head word other names in
        let first = both_lead name (ticks_line (head (codes "gain")) gained) (ticks_line (head (codes "lose")) lost) (copy, false) (copy, false) (copy, false) (other_gain gained) (other_lose lost) in
        let enter = both_lead name (ticks_line (head (codes "gain")) gained ++ ticks_line (head (codes "lose")) lost) (turn_line (head (codes "enter")) enters) (copy, false) (copy, false) (copy, false) first (enter_stays other names enters other_is are.each) in
        both_lead name ((ticks_line (head (codes "gain")) gained ++ ticks_line (head (codes "lose")) lost) ++ turn_line (head (codes "enter")) enters) (turn_line (head (codes "leave")) leaves)
        (copy, false) (copy, false) (copy, false) enter (leave_stays other names leaves other_is are.each)

-- all lines of a change of the query
own_change : (name : List ℕ) → is_free_name name ≡ true → (names : List (List ℕ)) → AreTargets names → (kind : QueryKind) (clock : ℕ) (rows : List TargetRow) (gained lost : List (ℕ × ℕ)) (enters leaves : Bool) →
    AreRuns 0 gained → AreRuns 0 lost →
    Leads name (change_lines name names gained lost enters leaves) (copy_of kind clock rows, false) (copy_of kind clock (after_change (target_text names) gained lost rows), false)
own_change name is names are kind clock rows gained lost enters leaves fit fit' =
    let head : List ℕ → List ℕ = λ word. change_head word name names in
    let a : Option Copied = copy_of kind clock rows in
    let b : Option Copied = copy_of kind clock (changed_if Union (target_text names) gained rows) in
    let c : Option Copied = copy_of kind clock (after_change (target_text names) gained lost rows) in
    let first = both_lead name (ticks_line (head (codes "gain")) gained) (ticks_line (head (codes "lose")) lost) (a, false) (b, false) (c, false)
    (gain_leads name is names are kind clock rows gained fit) (lose_leads name is names are kind clock (changed_if Union (target_text names) gained rows) lost fit') in
    let enter = both_lead name (ticks_line (head (codes "gain")) gained ++ ticks_line (head (codes "lose")) lost) (turn_line (head (codes "enter")) enters) (a, false) (c, false) (c, false)
    first (enter_stays name is c name names enters is are.each) in
    both_lead name ((ticks_line (head (codes "gain")) gained ++ ticks_line (head (codes "lose")) lost) ++ turn_line (head (codes "enter")) enters) (turn_line (head (codes "leave")) leaves)
    (a, false) (c, false) (c, false) enter (leave_stays name is c name names leaves is are.each)

-- ---- Changes, target by target

-- what is no change has no line
no_lines : (query : List ℕ) (names : List (List ℕ)) (gained lost : List (ℕ × ℕ)) (enters leaves : Bool) →
    (has_ticks gained || has_ticks lost || enters || leaves) ≡ false → change_lines query names gained lost enters leaves ≡ []
no_lines query names [] [] false false h = refl
no_lines query names [] [] false true h = absurd (cc)
no_lines query names [] [] true leaves h = absurd (cc)
no_lines query names [] (run ∷ lost) enters leaves h = absurd (cc)
no_lines query names (run ∷ gained) lost enters leaves h = absurd (cc)

lines_kept : (c : Catalog) (query : List ℕ) (x : Change) (later : List Change) (b : Bool) → is_change x ≡ b →
    flat_map (change_text c query) (if b then x ∷ later else later) ≡ change_text c query x ++ flat_map (change_text c query) later
lines_kept c query x later true is = refl
lines_kept c query x later false is =
    ap (λ text. text ++ flat_map (change_text c query) later) (sym (no_lines query (map (name_of c) x.key) x.gained x.lost x.enters x.leaves is))

-- the lines of those that are changes are the lines of all
pub all_lines : (c : Catalog) (query : List ℕ) (make : List ℕ → Change) (keys : List (List ℕ)) →
    flat_map (change_text c query) (filter is_change (map make keys)) ≡ flat_map (λ key. change_text c query (make key)) keys
all_lines c query make [] = refl
all_lines c query make (key ∷ keys) =
    lines_kept c query (make key) (filter is_change (map make keys)) (is_change (make key)) refl
    ∙ ap (λ text. change_text c query (make key) ++ text) (all_lines c query make keys)

-- the names of the objects of a key may be told
abbrev pub HasTargets : Catalog → List ℕ → Type 0
HasTargets c key = AreTargets (map (name_of c) key)

pub others_stay : (name : List ℕ) → is_free_name name ≡ true → (copy : Option Copied) (other : List ℕ) → is_free_name other ≡ true → bytes_eq other name ≡ false →
    (c : Catalog) (make : List ℕ → Change) → ((key : List ℕ) → (make key).key ≡ key) → (keys : List (List ℕ)) → AllByRecursion (HasTargets c) keys →
    Leads name (flat_map (λ key. change_text c other (make key)) keys) (copy, false) (copy, false)
others_stay name is copy other other_is differs c make own [] all = nothing_leads name (copy, false)
others_stay name is copy other other_is differs c make own (key ∷ keys) all =
    let x : Change = make key in
    let are : AreTargets (map (name_of c) x.key) = subst (HasTargets c) (sym (own key)) all.0 in
    both_lead name (change_text c other x) (flat_map (λ key. change_text c other (make key)) keys) (copy, false) (copy, false) (copy, false)
    (other_change name is copy other other_is differs (map (name_of c) x.key) are x.gained x.lost x.enters x.leaves)
    (others_stay name is copy other other_is differs c make own keys all.1)

pub write_leads : (name : List ℕ) → is_free_name name ≡ true → (c : Catalog) (before after : List ℕ → ℕ → Bool) (n from e : ℕ) → e ≤ LAST_TICK →
    (kind : QueryKind) (clock : ℕ) (keys : List (List ℕ)) → AllByRecursion (HasTargets c) keys → (rows : List TargetRow) →
    Leads name (flat_map (λ key. change_text c name (change_of key (before key) (after key) n from e)) keys) (copy_of kind clock rows, false)
    (copy_of kind clock (after_keys (target_of c) (gains (target_of c) before after from e) (losses (target_of c) before after from e) keys rows), false)
write_leads name is c before after n from e last kind clock [] all rows = nothing_leads name (copy_of kind clock rows, false)
write_leads name is c before after n from e last kind clock (key ∷ keys) all rows =
    let x : Change = change_of key (before key) (after key) n from e in
    let next : List TargetRow = after_change (target_of c key) x.gained x.lost rows in
    both_lead name (change_text c name x) (flat_map (λ key. change_text c name (change_of key (before key) (after key) n from e)) keys) (copy_of kind clock rows, false) (copy_of kind clock next, false)
    (copy_of kind clock (after_keys (target_of c) (gains (target_of c) before after from e) (losses (target_of c) before after from e) keys next), false)
    (own_change name is (map (name_of c) key) all.0 kind clock rows x.gained x.lost x.enters x.leaves (listed_runs _ from e last) (listed_runs _ from e last))
    (write_leads name is c before after n from e last kind clock keys all.1 next)

-- where nothing is gained or lost the copy stays
pub passage_stays : (name : List ℕ) → is_free_name name ≡ true → (copy : Option Copied) (query : List ℕ) → is_free_name query ≡ true → (c : Catalog) (holds : List ℕ → ℕ → Bool) (n m e : ℕ) →
    (keys : List (List ℕ)) → AllByRecursion (HasTargets c) keys →
    Leads name (flat_map (λ key. change_text c query (passage_of key (holds key) n m e)) keys) (copy, false) (copy, false)
passage_stays name is copy query query_is c holds n m e [] all = nothing_leads name (copy, false)
passage_stays name is copy query query_is c holds n m e (key ∷ keys) all =
    let x : Change = passage_of key (holds key) n m e in
    let names : List (List ℕ) = map (name_of c) key in
    both_lead name (change_text c query x) (flat_map (λ key. change_text c query (passage_of key (holds key) n m e)) keys) (copy, false) (copy, false) (copy, false)
    (both_lead name (turn_line (change_head (codes "enter") query names) x.enters) (turn_line (change_head (codes "leave") query names) x.leaves) (copy, false) (copy, false) (copy, false)
    (enter_stays name is copy query names x.enters query_is all.0.each)
    (leave_stays name is copy query names x.leaves query_is all.0.each))
    (passage_stays name is copy query query_is c holds n m e keys all.1)
