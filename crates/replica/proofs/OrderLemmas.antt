-- Rows stand in the order of their targets' bytes, and a change makes one of them.
use Rattle.std.proofs.Common.{◌≡◌, ◌≢◌, ◌∙◌, ℕ, Bool, true, false, List, [], ◌∷◌, Option, Some, None, option_map, unwrap_or, cond, refl, ap, sym}
use Rattle.std.proofs.lemmas.Cmp.{nat_list_cmp_total, tied_itself}
use Rattle.std.proofs.lemmas.Map.Lookups.{exact_bytes}
use Rattle.std.specs.BTreeMap.{insert_entry, is_at}
use Rattle.std.specs.List.{AllByRecursion}
use Rattle.std.specs.List.Sorted.{IsStrictlySortedBy}
use Rattle.std.specs.Map.{keys_of, lookup}
use Rattle.std.specs.Ordering.{is_eq, match_ordering, ordering_reverse}
use Rattle.std.specs.declared.cmp.Ordering.TheVariants.{Less, Equal, Greater}
use Rattle.tick_set.specs.declared.operation.SetOperation.{SetOperation}
use Rattle.tick_set.specs.declared.operation.SetOperation.TheVariants.{Union}
use Rattle.replica.specs.Copied.{HasRowsInOrder, copy_after, with_change}
use Rattle.replica.specs.Feed.{Hearing, hearing_after, next_hearing}
use Rattle.replica.specs.Line.{ToldLine, Starts, Answers, Changes, Passes, Stops, Nothing, Broken, told_by_line}
use Rattle.replica.specs.Rows.{AreInOrder, TargetRow, bytes_cmp, rows_after_told, ticks_at}
use Rattle.replica.specs.Ticks.{combined}
use Rattle.replica.specs.declared.copied.Copied.{Copied}

-- ---- Order

all_inserted : (P : List ℕ → Type 0) (k : List ℕ) (v : List (ℕ × ℕ)) (rows : List TargetRow) → AllByRecursion P (keys_of rows) → P k → AllByRecursion P (keys_of (insert_entry bytes_cmp rows k v))
all_inserted P k v [] all p = (p, tt)
all_inserted P k v (e ∷ rows) all p = elim (bytes_cmp k e.0) as (λ o. AllByRecursion P (keys_of (match_ordering o ((k, v) ∷ e ∷ rows) ((e.0, v) ∷ rows) (e ∷ insert_entry bytes_cmp rows k v)))) [
  | Less ↦ (p, all)
  | Equal ↦ all
  | Greater ↦ (all.0, all_inserted P k v rows all.1 p)
]

all_above : (k x : List ℕ) (keys : List (List ℕ)) → bytes_cmp k x ≡ Less → AllByRecursion (λ y. bytes_cmp x y ≡ Less) keys → AllByRecursion (λ y. bytes_cmp k y ≡ Less) keys
all_above k x [] less all = tt
all_above k x (y ∷ keys) less all = (nat_list_cmp_total.trans k x y less all.0, all_above k x keys less all.1)

pub turned : (x y : List ℕ) → bytes_cmp x y ≡ Greater → bytes_cmp y x ≡ Less
turned x y greater = nat_list_cmp_total.antisymm y x ∙ ap ordering_reverse greater

pub in_order_inserted : (k : List ℕ) (v : List (ℕ × ℕ)) (rows : List TargetRow) → AreInOrder rows → AreInOrder (insert_entry bytes_cmp rows k v)
unfolding IsStrictlySortedBy
in_order_inserted k v [] order = (tt, tt)
in_order_inserted k v (e ∷ rows) order = elim (bytes_cmp k e.0) as (λ o. bytes_cmp k e.0 ≡ o → AreInOrder (match_ordering o ((k, v) ∷ e ∷ rows) ((e.0, v) ∷ rows) (e ∷ insert_entry bytes_cmp rows k v))) [
  | Less ↦ λ less. ((less, all_above k e.0 (keys_of rows) less order.0), order)
  | Equal ↦ λ same. order
  | Greater ↦ λ greater. (all_inserted (λ y. bytes_cmp e.0 y ≡ Less) k v rows order.0 (turned k e.0 greater), in_order_inserted k v rows order.1)
] refl

in_order_changed : (operation : SetOperation) (row : TargetRow) (copy : Option Copied) → HasRowsInOrder copy → HasRowsInOrder (option_map (with_change operation row) copy)
in_order_changed operation row None order = tt
in_order_changed operation row (Some copied) order = in_order_inserted row.0 (combined operation (ticks_at row.0 copied.rows) row.1) copied.rows order

in_order_taken : (starting : Bool) (copy : Option Copied) (told : ToldLine) → HasRowsInOrder copy → HasRowsInOrder (copy_after starting copy told)
unfolding IsStrictlySortedBy
in_order_taken starting copy (Starts kind clock) order = tt
in_order_taken true copy (Answers row) order = in_order_changed Union row copy order
in_order_taken false copy (Answers row) order = order
in_order_taken starting copy (Changes operation row) order = in_order_changed operation row copy order
in_order_taken starting None (Passes clock) order = tt
in_order_taken starting (Some copied) (Passes clock) order = order
in_order_taken starting copy Stops order = tt
in_order_taken starting copy Nothing order = order
in_order_taken starting copy Broken order = order

in_order_next : (h : Hearing) (line : List ℕ) → HasRowsInOrder h.copy → HasRowsInOrder (next_hearing h line).copy
in_order_next h line order = elim h.bad as (λ bad. HasRowsInOrder (next_hearing (record h { bad = bad }) line).copy) [
  | None ↦ in_order_taken h.starting h.copy (told_by_line h.name line) order
  | Some n ↦ order
]

pub in_order_after : (h : Hearing) (lines : List (List ℕ)) → HasRowsInOrder h.copy → HasRowsInOrder (hearing_after h lines).copy
in_order_after h [] order = order
in_order_after h (line ∷ lines) order = in_order_after (next_hearing h line) lines (in_order_next h line order)

-- ---- What a change makes

pub found : (k : List ℕ) (v : List (ℕ × ℕ)) (rows : List TargetRow) → lookup (is_at (bytes_cmp k)) (insert_entry bytes_cmp rows k v) ≡ Some v
found k v [] = rw (tied_itself nat_list_cmp_total k) refl
found k v (e ∷ rows) = elim (bytes_cmp k e.0) as (λ o. bytes_cmp k e.0 ≡ o → lookup (is_at (bytes_cmp k)) (match_ordering o ((k, v) ∷ e ∷ rows) ((e.0, v) ∷ rows) (e ∷ insert_entry bytes_cmp rows k v)) ≡ Some v) [
  | Less ↦ λ less. rw (tied_itself nat_list_cmp_total k) refl
  | Equal ↦ λ same. rw same refl
  | Greater ↦ λ greater. rw greater (found k v rows)
] refl

pub left : (q k : List ℕ) (v : List (ℕ × ℕ)) (rows : List TargetRow) → is_eq (bytes_cmp q k) ≡ false → lookup (is_at (bytes_cmp q)) (insert_entry bytes_cmp rows k v) ≡ lookup (is_at (bytes_cmp q)) rows
left q k v [] other = rw other refl
left q k v (e ∷ rows) other = elim (bytes_cmp k e.0) as (λ o. bytes_cmp k e.0 ≡ o → lookup (is_at (bytes_cmp q)) (match_ordering o ((k, v) ∷ e ∷ rows) ((e.0, v) ∷ rows) (e ∷ insert_entry bytes_cmp rows k v)) ≡ lookup (is_at (bytes_cmp q)) (e ∷ rows)) [
  | Less ↦ λ less. rw other refl
  | Equal ↦ λ same. rw (ap (λ x. is_eq (bytes_cmp q x)) (sym (exact_bytes k e.0 same)) ∙ other) refl
  | Greater ↦ λ greater. ap (λ later. cond (is_at (bytes_cmp q) e.0) (Some e.1) later) (left q k v rows other)
] refl

differs : (q k : List ℕ) → q ≢ k → is_eq (bytes_cmp q k) ≡ false
differs q k apart = elim (bytes_cmp q k) as (λ o. bytes_cmp q k ≡ o → is_eq o ≡ false) [
  | Less ↦ λ less. refl
  | Equal ↦ λ same. absurd (apart (exact_bytes q k same))
  | Greater ↦ λ greater. refl
] refl

pub row_made : (operation : SetOperation) (told : TargetRow) (rows : List TargetRow) → ticks_at told.0 (rows_after_told operation told rows) ≡ combined operation (ticks_at told.0 rows) told.1
row_made operation told rows = ap (λ o. unwrap_or o []) (found told.0 (combined operation (ticks_at told.0 rows) told.1) rows)

pub others_left : (operation : SetOperation) (told : TargetRow) (rows : List TargetRow) (target : List ℕ) → target ≢ told.0 → ticks_at target (rows_after_told operation told rows) ≡ ticks_at target rows
others_left operation told rows target apart =
    ap (λ o. unwrap_or o []) (left target told.0 (combined operation (ticks_at told.0 rows) told.1) rows (differs target told.0 apart))
