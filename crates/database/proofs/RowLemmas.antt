-- For this crate and for the crates above: the objects of an answer's rows, and the lines of the rows.
use Rattle.std.proofs.Common.{◌≡◌, ℕ, zero, suc, ◌+◌, ◌<◌, ◌≤◌, Bool, true, false, not, List, [], ◌∷◌, ◌++◌, length, map, refl, sym, ap, ◌∙◌, arith, if◌then◌else◌}
use Rattle.std.specs.Prelude.{◌==◌, nat_lt, slice_get, slice_index}
use Rattle.std.specs.List.{enumerate_from, filter, flat_map, list_all}
use Rattle.std.specs.Option.{option_map_or}
use Rattle.std.proofs.lemmas.Bool.{and_from, and_parts}
use Rattle.std.proofs.lemmas.Bool.Decides.{nat_tests}
use Rattle.std.proofs.lemmas.List.{append_assoc}
use Rattle.std.proofs.lemmas.List.Folds.{list_all-append}
use Rattle.tick_set.specs.declared.spans.Span.{Span}
use Rattle.history.specs.Catalog.{Catalog, ObjectInfo, ids_of, name_of}
use Rattle.history.specs.History.{History}
use Rattle.history.specs.World.{World}
use Rattle.formula.specs.Tree.{ResolvedQuery}
use Rattle.relation.specs.declared.row.Row as kept
use Rattle.answers.specs.Told.{told_row, told_rows}
use Rattle.nearness.specs.Nearest.{is_near, near, others_of, squared_to}
use Rattle.nearest.specs.Rows.{told_near}
use Rattle.nearest.specs.Rows as near_rows
use Rattle.nearest.specs.declared.rows.NearRow.{NearRow}
use Rattle.meaning.specs.Answer.{Row, answer_where, has_ticks, row_where}
use Rattle.meaning.specs.Binding.{product, target_where, tuples}
use Rattle.object_store.specs.Contents.{Contents, StoredObject, catalog_of, object_info, object_name}
use Rattle.line_meaning.specs.Reply.{row_line, row_text, rows_text}
use Rattle.database.specs.Rows.{has_objects}

abbrev pub are_below : ℕ → List ℕ → Bool
are_below count ids = list_all (λ id. nat_lt id count) ids

-- ---- the ids of a class are those of objects

one_more : (count n class : ℕ) (o : ObjectInfo) (objects : List ObjectInfo) (of : Bool) → n < count →
    are_below count (map (λ (e : ℕ × ObjectInfo). e.0) (filter (λ (e : ℕ × ObjectInfo). e.1.class == class) (enumerate_from (n + 1) objects))) ≡ true →
    are_below count (map (λ (e : ℕ × ObjectInfo). e.0)
    (if of then (n, o) ∷ filter (λ (e : ℕ × ObjectInfo). e.1.class == class) (enumerate_from (n + 1) objects)
    else filter (λ (e : ℕ × ObjectInfo). e.1.class == class) (enumerate_from (n + 1) objects))) ≡ true
one_more count n class o objects true here rest = and_from (nat_lt n count) _ (grind (arith, nat_tests, here)) rest
one_more count n class o objects false here rest = rest

ids_from : (objects : List ObjectInfo) (class n count : ℕ) → n + length objects ≤ count →
    are_below count (map (λ (e : ℕ × ObjectInfo). e.0) (filter (λ (e : ℕ × ObjectInfo). e.1.class == class) (enumerate_from n objects))) ≡ true
ids_from [] class n count few = refl
ids_from (o ∷ objects) class n count few =
    one_more count n class o objects (o.class == class) (omega (arith, few)) (ids_from objects class (n + 1) count (omega (arith, few)))

pub ids_below : (c : Catalog) (class count : ℕ) → length c.objects ≤ count → are_below count (ids_of c class) ≡ true
ids_below c class count few = ids_from c.objects class 0 count (omega (arith, few))

-- ---- and so are those of tuples

with_front : (count x : ℕ) (tails : List (List ℕ)) → nat_lt x count ≡ true → list_all (are_below count) tails ≡ true →
    list_all (are_below count) (map (λ (ids : List ℕ). x ∷ ids) tails) ≡ true
with_front count x [] here all = refl
with_front count x (ids ∷ tails) here all =
    let both = and_parts (are_below count ids) (list_all (are_below count) tails) all in
    and_from (are_below count (x ∷ ids)) _ (and_from (nat_lt x count) (are_below count ids) here both.0) (with_front count x tails here both.1)

with_fronts : (count : ℕ) (xs : List ℕ) (tails : List (List ℕ)) → are_below count xs ≡ true → list_all (are_below count) tails ≡ true →
    list_all (are_below count) (flat_map (λ x. map (λ (ids : List ℕ). x ∷ ids) tails) xs) ≡ true
with_fronts count [] tails here all = refl
with_fronts count (x ∷ xs) tails here all =
    let both = and_parts (nat_lt x count) (are_below count xs) here in
    list_all-append (are_below count) (map (λ (ids : List ℕ). x ∷ ids) tails) (flat_map (λ x. map (λ (ids : List ℕ). x ∷ ids) tails) xs)
    ∙ and_from (list_all (are_below count) (map (λ (ids : List ℕ). x ∷ ids) tails)) _ (with_front count x tails both.0 all) (with_fronts count xs tails both.1 all)

product_below : (count : ℕ) (lists : List (List ℕ)) → list_all (are_below count) lists ≡ true → list_all (are_below count) (product lists) ≡ true
product_below count [] all = refl
product_below count (xs ∷ lists) all =
    let both = and_parts (are_below count xs) (list_all (are_below count) lists) all in
    with_fronts count xs (product lists) both.0 (product_below count lists both.1)

lists_below : (c : Catalog) (class : ℕ → ℕ) (vs : List ℕ) →
    list_all (are_below (length c.objects)) (map (λ v. ids_of c (class v)) vs) ≡ true
lists_below c class [] = refl
lists_below c class (v ∷ vs) =
    and_from (are_below (length c.objects) (ids_of c (class v))) _ (ids_below c (class v) (length c.objects) (omega arith)) (lists_below c class vs)

tuples_below : (w : World) (q : ResolvedQuery) → list_all (are_below (length w.history.catalog.objects)) (tuples w q) ≡ true
tuples_below w q =
    product_below (length w.history.catalog.objects) (map (λ v. ids_of w.history.catalog (slice_index q.classes v)) q.targets)
    (lists_below w.history.catalog (slice_index q.classes) q.targets)

-- ---- and of the rows of an answer

kept_or_not : (count : ℕ) (row : Row) (there : Bool) (rows : List Row) → has_objects count row ≡ true → list_all (has_objects count) rows ≡ true →
    list_all (has_objects count) (if there then row ∷ rows else rows) ≡ true
kept_or_not count row true rows here all = and_from (has_objects count row) (list_all (has_objects count) rows) here all
kept_or_not count row false rows here all = all

rows_below : (count : ℕ) (holds : List ℕ → ℕ → Bool) (from e : ℕ) (keys : List (List ℕ)) → list_all (are_below count) keys ≡ true →
    list_all (has_objects count) (filter (λ (row : Row). has_ticks row.runs) (map (row_where holds from e) keys)) ≡ true
rows_below count holds from e [] all = refl
rows_below count holds from e (key ∷ keys) all =
    let both = and_parts (are_below count key) (list_all (are_below count) keys) all in
    kept_or_not count (row_where holds from e key) (has_ticks (row_where holds from e key).runs) _ both.0 (rows_below count holds from e keys both.1)

-- by any test of what objects are given the variables
pub answer_has_objects : (w : World) (q : ResolvedQuery) (holds : (ℕ → ℕ) → ℕ → Bool) (from e : ℕ) →
    list_all (has_objects (length w.history.catalog.objects)) (answer_where w q holds from e) ≡ true
answer_has_objects w q holds from e =
    rows_below (length w.history.catalog.objects) (target_where w q holds) from e (tuples w q) (tuples_below w q)

-- ---- and of the rows of the nearest

kept_below : (count : ℕ) (passes : ℕ → Bool) (ids : List ℕ) → are_below count ids ≡ true →
    list_all (are_below count) (map (λ (id : ℕ). id ∷ []) (filter passes ids)) ≡ true
kept_below count passes [] all = refl
kept_below count passes (id ∷ ids) all =
    let both = and_parts (nat_lt id count) (are_below count ids) all in
    kept_key count id (passes id) _ both.0 (kept_below count passes ids both.1)
  where
    kept_key : (count id : ℕ) (there : Bool) (ids : List ℕ) → nat_lt id count ≡ true →
        list_all (are_below count) (map (λ (id : ℕ). id ∷ []) ids) ≡ true →
        list_all (are_below count) (map (λ (id : ℕ). id ∷ []) (if there then id ∷ ids else ids)) ≡ true
    kept_key count id true ids here all = and_from (are_below count (id ∷ [])) _ (and_from (nat_lt id count) true here refl) all
    kept_key count id false ids here all = all

pub near_has_objects : (h : History) (class to k from e : ℕ) → list_all (has_objects (length h.catalog.objects)) (near h class to k from e) ≡ true
near_has_objects h class to k from e =
    rows_below (length h.catalog.objects)
    (λ key t. is_near (squared_to h to t) (others_of h class to) k (slice_index key 0)) from e
    (map (λ (id : ℕ). id ∷ []) (others_of h class to))
    (kept_below (length h.catalog.objects) (λ id. not (id == to)) (ids_of h.catalog class)
    (ids_below h.catalog class (length h.catalog.objects) (omega arith)))

-- ---- names

pub stored_name : (s : Contents) (id : ℕ) → object_name s.objects id ≡ name_of (catalog_of s) id
stored_name s id = named s.objects id
  where
    named : (objects : List StoredObject) (id : ℕ) →
        option_map_or (λ (o : StoredObject). o.name) (slice_get objects id) []
        ≡ option_map_or (λ (o : ObjectInfo). o.name) (slice_get (map object_info objects) id) []
    named [] id = refl
    named (o ∷ objects) zero = refl
    named (o ∷ objects) (suc id) = named objects id

-- one more name
pub name_step : (s : Contents) (id : ℕ) (later rest : List ℕ) (names next whole : List (List ℕ)) (name : List ℕ) → rest ≡ id ∷ later →
    name ≡ object_name s.objects id → next ≡ names ++ name ∷ [] → names ++ map (name_of (catalog_of s)) rest ≡ whole →
    next ++ map (name_of (catalog_of s)) later ≡ whole
name_step s id later rest names next whole name split is pushed so_far =
    ap (λ ns. ns ++ map (name_of (catalog_of s)) later) (pushed ∙ ap (λ n. names ++ n ∷ []) (is ∙ stored_name s id))
    ∙ append_assoc names (name_of (catalog_of s) id ∷ []) (map (name_of (catalog_of s)) later)
    ∙ ap (λ ids. names ++ map (name_of (catalog_of s)) ids) (sym split)
    ∙ so_far

pub ids_step : (count id : ℕ) (later rest : List ℕ) → rest ≡ id ∷ later → are_below count rest ≡ true → are_below count later ≡ true
ids_step count id later rest split all =
    (and_parts (nat_lt id count) (are_below count later) (ap (are_below count) (sym split) ∙ all)).1

-- one more line
pub row_step : (s : Contents) (tick : ℕ) (names : List (List ℕ)) (runs : List (ℕ × ℕ)) (row : kept.Row (List Span))
    (later rest : List (kept.Row (List Span))) (out next whole : List ℕ) → rest ≡ row ∷ later →
    names ≡ map (name_of (catalog_of s)) row.key → runs ≡ (told_row row).runs → next ≡ out ++ row_line tick names runs →
    out ++ rows_text (catalog_of s) tick (told_rows rest) ≡ whole → next ++ rows_text (catalog_of s) tick (told_rows later) ≡ whole
row_step s tick names runs row later rest out next whole split named same written so_far =
    let line : row_line tick names runs ≡ row_text (catalog_of s) tick (told_row row) = λ i. row_line tick (named i) (same i) in
    ap (λ o. o ++ rows_text (catalog_of s) tick (told_rows later)) (written ∙ ap (λ l. out ++ l) line)
    ∙ append_assoc out (row_text (catalog_of s) tick (told_row row)) (rows_text (catalog_of s) tick (told_rows later))
    ∙ ap (λ rows. out ++ rows_text (catalog_of s) tick (told_rows rows)) (sym split)
    ∙ so_far

pub rows_step : (count : ℕ) (row : kept.Row (List Span)) (later rest : List (kept.Row (List Span))) → rest ≡ row ∷ later →
    list_all (has_objects count) (told_rows rest) ≡ true →
    (are_below count row.key ≡ true) × (list_all (has_objects count) (told_rows later) ≡ true)
rows_step count row later rest split all =
    and_parts (are_below count row.key) (list_all (has_objects count) (told_rows later))
    (ap (λ rows. list_all (has_objects count) (told_rows rows)) (sym split) ∙ all)

-- one more line of the nearest
pub near_step : (s : Contents) (tick : ℕ) (name : List ℕ) (runs : List (ℕ × ℕ)) (row : NearRow) (later rest : List NearRow)
    (out next whole : List ℕ) → rest ≡ row ∷ later → name ≡ object_name s.objects row.id → runs ≡ (near_rows.told_near_row row).runs →
    next ≡ out ++ row_line tick (name ∷ []) runs → out ++ rows_text (catalog_of s) tick (told_near rest) ≡ whole →
    next ++ rows_text (catalog_of s) tick (told_near later) ≡ whole
near_step s tick name runs row later rest out next whole split named same written so_far =
    let line : row_line tick (name ∷ []) runs ≡ row_text (catalog_of s) tick (near_rows.told_near_row row) =
    λ i. row_line tick ((named ∙ stored_name s row.id) i ∷ []) (same i) in
    ap (λ o. o ++ rows_text (catalog_of s) tick (told_near later)) (written ∙ ap (λ l. out ++ l) line)
    ∙ append_assoc out (row_text (catalog_of s) tick (near_rows.told_near_row row)) (rows_text (catalog_of s) tick (told_near later))
    ∙ ap (λ rows. out ++ rows_text (catalog_of s) tick (told_near rows)) (sym split)
    ∙ so_far

pub near_rest : (count : ℕ) (row : NearRow) (later rest : List NearRow) → rest ≡ row ∷ later →
    list_all (has_objects count) (told_near rest) ≡ true → (row.id < count) × (list_all (has_objects count) (told_near later) ≡ true)
near_rest count row later rest split all =
    let both = and_parts (are_below count (row.id ∷ [])) (list_all (has_objects count) (told_near later))
    (ap (λ rows. list_all (has_objects count) (told_near rows)) (sym split) ∙ all) in
    (grind (arith, nat_tests, (and_parts (nat_lt row.id count) true both.0).0), both.1)
