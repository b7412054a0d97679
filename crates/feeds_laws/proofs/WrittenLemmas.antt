-- What a replica writes of a feed that a user hears is the answer of the user's query.
use Rattle.std.proofs.Common.{◌≡◌, ◌∙◌, ℕ, ◌≤◌, Bool, true, false, ◌&&◌, ◌||◌, List, [], ◌∷◌, ◌++◌, codes, length, map, option_map, Option, Some, None, unwrap_or, refl, ap, sym, subst, arith, inl, inr}
use Rattle.std.proofs.lemmas.Bool.{cases_Bool, false≢true}
use Rattle.std.proofs.lemmas.Bool.Decides.{nat_tests}
use Rattle.std.proofs.lemmas.Map.Lookups.{exact_bytes}
use Rattle.std.proofs.lemmas.Slice.Eq.{bytes_eq-Decides}
use Rattle.std.specs.Prelude.{if◌then◌else◌, nat_le}
use Rattle.std.specs.BTreeMap.{insert_entry}
use Rattle.std.specs.Fmt.{decimal}
use Rattle.std.specs.List.{AllByRecursion, flat_map, list_any}
use Rattle.std.specs.List.Sorted.{IsStrictlySortedBy}
use Rattle.std.specs.Option.{option_map_or}
use Rattle.std.specs.Ordering.{is_eq, match_ordering}
use Rattle.std.specs.Str.{bytes_eq}
use Rattle.std.specs.declared.cmp.Ordering.TheVariants.{Less, Equal, Greater}
use Rattle.formula.specs.declared.kind.QueryKind.{QueryKind}
use Rattle.formula.specs.declared.kind.QueryKind.TheVariants.{Watch, Keep}
use Rattle.tick_set.specs.Runs.{runs_of}
use Rattle.tick_set.specs.Ticks.{listed, within}
use Rattle.tick_set.specs.declared.operation.SetOperation.{SetOperation}
use Rattle.tick_set.specs.declared.operation.SetOperation.TheVariants.{Union}
use Rattle.history.specs.Catalog.{Catalog}
use Rattle.history.proofs.LawLemmas.{names_apart}
use Rattle.meaning.specs.Answer.{has_ticks, row_where, rows_where}
use Rattle.meaning.specs.Binding.{holds_target, tuples}
use Rattle.meaning.specs.Registered.{first_tick}
use Rattle.meaning.proofs.AnswerLemmas.{rows_have_where}
use Rattle.line_meaning.specs.Journal.{world, writes}
use Rattle.line_meaning.specs.Registry.{Known, Registration, known, registered, registration_named}
use Rattle.feeds_meaning.specs.Heard.{Item, Seat, heard, seat_after}
use Rattle.replica.specs.Copied as copies
use Rattle.replica.specs.Copied.{HasRowsInOrder, copy_after, copy_text, with_change}
use Rattle.replica.specs.Feed.{Hearing, hearing_after, next_hearing, said, silent}
use Rattle.replica.specs.Line.{ToldLine, Starts, Answers, Changes, Passes, Stops, Nothing, Broken, told_by_line}
use Rattle.replica.specs.Rows.{AreInOrder, TargetRow, bytes_cmp, line_feed, ticks_at}
use Rattle.replica.specs.Text.{is_free_name}
use Rattle.replica.specs.Ticks.{combined, have}
use Rattle.replica.specs.declared.copied.Copied.{Copied}
use Rattle.replica.proofs.CallerLemmas.{found, in_order_after, in_order_inserted, left}
use Rattle.feeds_laws.specs.Followed.{FollowsQuery, Holds, HoldsTheAnswer}
use Rattle.feeds_laws.specs.Targets.{target_of}
use Rattle.feeds_laws.specs.Written.{in_order, named_row, registered_lines, told_row_line}
use Rattle.feeds_laws.proofs.AlikeLemmas.{never}
use Rattle.feeds_laws.proofs.AscendLemmas.{Ascend, listed_ascend}
use Rattle.feeds_laws.proofs.FeedLemmas.{AreTaken, Stands, feed_goes, found_right, replica_follows}
use Rattle.feeds_laws.proofs.FineLemmas.{IsRight}
use Rattle.feeds_laws.proofs.GrowthLemmas.{tuples_are_keys}
use Rattle.feeds_laws.proofs.ItemLemmas.{Laws}
use Rattle.feeds_laws.proofs.KeyLemmas.{IsKey, one_key}
use Rattle.feeds_laws.proofs.OrderedLemmas.{Ascends, IsWritten, clipped, clipped_at, clipped_in_order, clipped_text, clipped_written, same_rows}
use Rattle.feeds_laws.proofs.RowLemmas.{has_at, have_listed}
use Rattle.feeds_laws.proofs.TurningLemmas.{IsThere, any_is, is_some_now}

-- ---- The runs of a copy ascend

inserted_all : (P : List (ℕ × ℕ) → Type 0) (k : List ℕ) (v : List (ℕ × ℕ)) (rows : List TargetRow) → AllByRecursion (λ (row : TargetRow). P row.1) rows → P v → AllByRecursion (λ (row : TargetRow). P row.1) (insert_entry bytes_cmp rows k v)
inserted_all P k v [] all p = (p, tt)
inserted_all P k v (row ∷ rows) all p = elim (bytes_cmp k row.0) as (λ o. AllByRecursion (λ (row : TargetRow). P row.1) (match_ordering o ((k, v) ∷ row ∷ rows) ((row.0, v) ∷ rows) (row ∷ insert_entry bytes_cmp rows k v))) [
  | Less ↦ (p, all)
  | Equal ↦ (p, all.1)
  | Greater ↦ (all.0, inserted_all P k v rows all.1 p)
]

abbrev CopyAscends : Option Copied → Type 0
CopyAscends None = Unit {0}
CopyAscends (Some copied) = AllByRecursion Ascends copied.rows

changed_ascends : (operation : SetOperation) (row : TargetRow) (copy : Option Copied) → CopyAscends copy → CopyAscends (option_map (with_change operation row) copy)
changed_ascends operation row None all = tt
changed_ascends operation row (Some copied) all =
    inserted_all (Ascend 0) row.0 (combined operation (ticks_at row.0 copied.rows) row.1) copied.rows all (listed_ascend _ 0 _)

taken_ascends : (starting : Bool) (copy : Option Copied) (told : ToldLine) → CopyAscends copy → CopyAscends (copy_after starting copy told)
taken_ascends starting copy (Starts kind clock) all = tt
taken_ascends true copy (Answers row) all = changed_ascends Union row copy all
taken_ascends false copy (Answers row) all = all
taken_ascends starting copy (Changes operation row) all = changed_ascends operation row copy all
taken_ascends starting None (Passes clock) all = tt
taken_ascends starting (Some copied) (Passes clock) all = all
taken_ascends starting copy Stops all = tt
taken_ascends starting copy Nothing all = all
taken_ascends starting copy Broken all = all

next_ascends : (h : Hearing) (line : List ℕ) → CopyAscends h.copy → CopyAscends (next_hearing h line).copy
next_ascends h line all = elim h.bad as (λ bad. CopyAscends (next_hearing (record h { bad = bad }) line).copy) [
  | None ↦ taken_ascends h.starting h.copy (told_by_line h.name line) all
  | Some n ↦ all
]

after_ascends : (h : Hearing) (lines : List (List ℕ)) → CopyAscends h.copy → CopyAscends (hearing_after h lines).copy
after_ascends h [] all = all
after_ascends h (line ∷ lines) all = after_ascends (next_hearing h line) lines (next_ascends h line all)

-- ---- An answer in order

inserted_at : (k : List ℕ) (v : List (ℕ × ℕ)) (rows : List TargetRow) (target : List ℕ) (t : ℕ) → has_at (insert_entry bytes_cmp rows k v) target t ≡ (if bytes_eq k target then have v t else has_at rows target t)
inserted_at k v rows target t = elim (cases_Bool (bytes_eq k target)) [
  | inl same ↦
      let is : k ≡ target = (bytes_eq-Decides k target).0 same in
      rw same (ap (λ T. has_at (insert_entry bytes_cmp rows k v) T t) (sym is) ∙ ap (λ (o : Option (List (ℕ × ℕ))). have (unwrap_or o []) t) (found k v rows))
  | inr other ↦ rw other (ap (λ (o : Option (List (ℕ × ℕ))). have (unwrap_or o []) t) (left target k v rows (apart other)))
]
  where
    apart : bytes_eq k target ≡ false → is_eq (bytes_cmp target k) ≡ false
    apart other = elim (bytes_cmp target k) as (λ o. bytes_cmp target k ≡ o → is_eq o ≡ false) [
      | Less ↦ λ less. refl
      | Greater ↦ λ greater. refl
      | Equal ↦ λ tie. absurd (false≢true (sym other ∙ (bytes_eq-Decides k target).1 (sym (exact_bytes target k tie))))
    ] refl

module _ (c : Catalog) (holds : List ℕ → ℕ → Bool) (from e : ℕ) where
  abbrev runs : List ℕ → List (ℕ × ℕ)
  runs key = runs_of (listed (holds key) from e)

  abbrev ordered : List (List ℕ) → List TargetRow
  ordered keys = in_order (map (named_row c) (rows_where keys holds from e))

  ordered_in_order : (keys : List (List ℕ)) → AreInOrder (ordered keys)
  unfolding IsStrictlySortedBy
  ordered_in_order [] = tt
  ordered_in_order (key ∷ keys) = by (has_ticks (runs key)) (ordered_in_order keys)
    where
      by : (b : Bool) → AreInOrder (ordered keys) → AreInOrder (in_order (map (named_row c) (if b then row_where holds from e key ∷ rows_where keys holds from e else rows_where keys holds from e)))
      by true later = in_order_inserted (target_of c key) (runs key) (ordered keys) later
      by false later = later

  abbrev IsTold : List (ℕ × ℕ) → Type 0
  IsTold spans = Ascend 0 spans × (has_ticks spans ≡ true)

  ordered_told : (keys : List (List ℕ)) → AllByRecursion (λ (row : TargetRow). IsTold row.1) (ordered keys)
  ordered_told [] = tt
  ordered_told (key ∷ keys) = by (has_ticks (runs key)) refl (ordered_told keys)
    where
      by : (b : Bool) → has_ticks (runs key) ≡ b → AllByRecursion (λ (row : TargetRow). IsTold row.1) (ordered keys) →
          AllByRecursion (λ (row : TargetRow). IsTold row.1) (in_order (map (named_row c) (if b then row_where holds from e key ∷ rows_where keys holds from e else rows_where keys holds from e)))
      by true some later = inserted_all IsTold (target_of c key) (runs key) (ordered keys) later (listed_ascend (holds key) from e, some)
      by false none later = later

  written_by : (rows : List TargetRow) → AllByRecursion (λ (row : TargetRow). IsTold row.1) rows → AllByRecursion IsWritten rows
  written_by [] all = tt
  written_by (row ∷ rows) all = (record { ascends = all.0.0; some = all.0.1 }, written_by rows all.1)

  no_have : (spans : List (ℕ × ℕ)) (t : ℕ) → has_ticks spans ≡ false → have spans t ≡ false
  no_have [] t none = refl
  no_have (s ∷ spans) t none = absurd (false≢true (sym none))

  -- its ticks, where no two keys have the same text
  module _ (P : List ℕ → Type 0) (one : (k l : List ℕ) → P k → P l → target_of c k ≡ target_of c l → k ≡ l) (target : List ℕ) (t : ℕ) where
    abbrev stands : List ℕ → Bool
    stands key = within from e t && holds key t

    absorbed : (here there : Bool) → here ≡ (here || (there && here))
    absorbed true there = refl
    absorbed false true = refl
    absorbed false false = refl

    nothing : (match later : Bool) → later ≡ (match && false || later)
    nothing true later = refl
    nothing false later = refl

    ordered_at : (keys : List (List ℕ)) → AllByRecursion P keys → has_at (ordered keys) target t ≡ is_some_now (target_of c) target stands keys
    ordered_at [] all = refl
    ordered_at (key ∷ keys) all = by (has_ticks (runs key)) refl (bytes_eq (target_of c key) target) refl (ordered_at keys all.1)
      where
        goal : Bool
        goal = is_some_now (target_of c) target stands keys

        by : (b : Bool) → has_ticks (runs key) ≡ b → (match : Bool) → bytes_eq (target_of c key) target ≡ match → has_at (ordered keys) target t ≡ is_some_now (target_of c) target stands keys →
            has_at (in_order (map (named_row c) (if b then row_where holds from e key ∷ rows_where keys holds from e else rows_where keys holds from e))) target t
            ≡ ((match && stands key) || is_some_now (target_of c) target stands keys)
        by true some true match later =
            let x : IsThere P (target_of c) one target = record { key = key; is = all.0; at = match } in
            inserted_at (target_of c key) (runs key) (ordered keys) target t
            ∙ ap (λ (b : Bool). if b then have (runs key) t else has_at (ordered keys) target t) match
            ∙ have_listed (holds key) from e t
            ∙ absorbed (stands key) (list_any (λ k. bytes_eq (target_of c k) target) keys)
            ∙ ap (λ b. stands key || b) (sym (any_is P (target_of c) one target x stands keys all.1))
        by true some false match later =
            inserted_at (target_of c key) (runs key) (ordered keys) target t
            ∙ ap (λ (b : Bool). if b then have (runs key) t else has_at (ordered keys) target t) match
            ∙ later
        by false none match is later =
            let gone : stands key ≡ false = sym (have_listed (holds key) from e t) ∙ no_have (runs key) t none in
            later ∙ nothing match (is_some_now (target_of c) target stands keys) ∙ ap (λ h. match && h || is_some_now (target_of c) target stands keys) (sym gone)

-- ---- What is written

-- a copy that holds the answer of a query
copy_writes : (k : Known) (r : Registration) → IsRight r → (one : (x y : List ℕ) → IsKey k.world.history.catalog (length r.query.query.targets) x → IsKey k.world.history.catalog (length r.query.query.targets) y →
    target_of k.world.history.catalog x ≡ target_of k.world.history.catalog y → x ≡ y) → (copied : Copied) → AreInOrder copied.rows → AllByRecursion Ascends copied.rows → HoldsTheAnswer k r.query copied → copy_text copied ≡ registered_lines k r.query
copy_writes k r right one copied order ascends holds =
    let c = k.world.history.catalog in
    let q = r.query.query in
    let first = copies.first_copied_tick copied.kind copied.clock in
    let from = first_tick r.query.kind r.query.entry k.now in
    let e = r.query.expiry in
    let test : List ℕ → ℕ → Bool = holds_target k.world q e in
    let keys = tuples k.world q in
    let told : List TargetRow = ordered c test from e keys in
    let now : (target : List ℕ) (t : ℕ) → has_at told target t ≡ is_some_now (target_of c) target (λ key. within from e t && test key t) keys =
    λ target t. ordered_at c test from e (IsKey c (length q.targets)) one target t keys (tuples_are_keys k.world q) in
    let ticks : (target : List ℕ) (t : ℕ) → has_at (clipped first copied.rows) target t ≡ has_at told target t =
    λ target t.
    clipped_at first copied.rows order target t
    ∙ at_tick (nat_le first t) target t refl
    ∙ sym (now target t) in
    clipped_text first copied.rows
    ∙ ap (flat_map told_row_line) (same_rows (clipped first copied.rows) told (clipped_in_order first copied.rows order) (ordered_in_order c test from e keys)
    (clipped_written first copied.rows ascends) (written_by c test from e told (ordered_told c test from e keys)) ticks)
  where
    -- before the first tick that is told the answer has none
    early : (kind : QueryKind) (t : ℕ) → nat_le (copies.first_copied_tick kind k.now) t ≡ false → within (first_tick kind r.query.entry k.now) r.query.expiry t ≡ false
    early Watch t before = ap (λ b. b && nat_le t r.query.expiry) before
    early Keep t before = absurd (false≢true (sym before ∙ grind (arith, nat_tests)))

    same_first : copies.first_copied_tick copied.kind copied.clock ≡ copies.first_copied_tick r.query.kind k.now
    same_first = ap (λ (kind : QueryKind). copies.first_copied_tick kind copied.clock) holds.kind ∙ ap (copies.first_copied_tick r.query.kind) holds.clock

    at_tick : (b : Bool) (target : List ℕ) (t : ℕ) → nat_le (copies.first_copied_tick copied.kind copied.clock) t ≡ b →
        (b && has_at copied.rows target t)
        ≡ is_some_now (target_of k.world.history.catalog) target (λ key. within (first_tick r.query.kind r.query.entry k.now) r.query.expiry t && holds_target k.world r.query.query r.query.expiry key t) (tuples k.world r.query.query)
    at_tick true target t upto =
        let within_it : copies.first_copied_tick copied.kind copied.clock ≤ t = grind (arith, nat_tests, upto) in
        holds.ticks target t within_it
        ∙ rows_have_where (λ key. bytes_eq (target_of k.world.history.catalog key) target) (tuples k.world r.query.query) (holds_target k.world r.query.query r.query.expiry)
        (first_tick r.query.kind r.query.entry k.now) r.query.expiry t
    at_tick false target t before =
        sym (never (λ key. bytes_eq (target_of k.world.history.catalog key) target) (λ key. holds_target k.world r.query.query r.query.expiry key t) (within (first_tick r.query.kind r.query.entry k.now) r.query.expiry t)
        (early r.query.kind t (ap (λ (n : ℕ). nat_le n t) (sym same_first) ∙ before)) (tuples k.world r.query.query))

pub replica_writes : Laws → (name : List ℕ) → is_free_name name ≡ true → (items : List Item) (s : Seat) → Stands name s None → AreTaken s items → (r : Registration) →
    registration_named (registered (seat_after s items).held.journal) name ≡ Some r → said (hearing_after (silent name) (heard s items)) ≡ registered_lines (known (seat_after s items).held.journal) r.query
replica_writes laws name is items s stands all r found_it =
    let j = (seat_after s items).held.journal in
    let fine = (feed_goes laws name is items s None stands all).stands.fine in
    let right = found_right name (registered j) fine.live r found_it in
    let one = one_key (world j).history.catalog fine.objects (names_apart (writes j)) (length r.query.query.targets) right.some right.few in
    let h : Hearing = hearing_after (silent name) (heard s items) in
    let follows : FollowsQuery (known j) name h = replica_follows laws name is items s stands all in
    by h follows.good (subst (λ (o : Option Registration). Holds (known j) o h.copy) found_it follows.copy) (in_order_after (silent name) (heard s items) tt) (after_ascends (silent name) (heard s items) tt) right one
  where
    by : (h : Hearing) → h.bad ≡ None → Holds (known (seat_after s items).held.journal) (Some r) h.copy → HasRowsInOrder h.copy → CopyAscends h.copy → IsRight r →
        ((x y : List ℕ) → IsKey (world (seat_after s items).held.journal).history.catalog (length r.query.query.targets) x → IsKey (world (seat_after s items).held.journal).history.catalog (length r.query.query.targets) y →
        target_of (world (seat_after s items).held.journal).history.catalog x ≡ target_of (world (seat_after s items).held.journal).history.catalog y → x ≡ y) →
        said h ≡ registered_lines (known (seat_after s items).held.journal) r.query
    by h good holds order ascends right one =
        ap (λ (bad : Option ℕ). option_map_or (λ n. codes "bad feed " ++ decimal n ++ line_feed) bad (option_map_or copy_text h.copy [])) good
        ∙ by_copy h.copy holds order ascends
      where
        by_copy : (copy : Option Copied) → Holds (known (seat_after s items).held.journal) (Some r) copy → HasRowsInOrder copy → CopyAscends copy → option_map_or copy_text copy [] ≡ registered_lines (known (seat_after s items).held.journal) r.query
        by_copy None holds order ascends = absurd holds
        by_copy (Some copied) holds order ascends = copy_writes (known (seat_after s items).held.journal) r right one copied order ascends holds
