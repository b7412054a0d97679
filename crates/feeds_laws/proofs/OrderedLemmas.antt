-- Rows in the order of their targets are told by the ticks of each target.
use Rattle.std.proofs.Common.{◌≡◌, ◌∙◌, ℕ, Bool, true, false, ◌&&◌, List, [], ◌∷◌, ◌++◌, Some, unwrap_or, refl, ap, sym, append_assoc}
use Rattle.std.proofs.lemmas.Bool.{false≢true}
use Rattle.std.proofs.lemmas.Cmp.{nat_list_cmp_total, tied_itself}
use Rattle.std.proofs.lemmas.Map.Lookups.{exact_bytes}
use Rattle.std.specs.Prelude.{codes, if◌then◌else◌, nat_le}
use Rattle.std.specs.BTreeMap.{is_at}
use Rattle.std.specs.List.{AllByRecursion, flat_map}
use Rattle.std.specs.List.Sorted.{IsStrictlySortedBy}
use Rattle.std.specs.Map.{keys_of, lookup}
use Rattle.std.specs.Ordering.{is_eq}
use Rattle.std.specs.declared.cmp.Ordering.{Ordering}
use Rattle.std.specs.declared.cmp.Ordering.TheVariants.{Less, Equal, Greater}
use Rattle.meaning.specs.Answer.{has_ticks}
use Rattle.replica.specs.Rows.{AreInOrder, TargetRow, bytes_cmp, line_feed, span_text, target_row_text, ticks_at}
use Rattle.replica.specs.Ticks.{have}
use Rattle.replica.proofs.CallerLemmas.{turned}
use Rattle.feeds_laws.specs.Written.{told_row_line}
use Rattle.feeds_laws.proofs.AscendLemmas.{Ascend, clip, clip_ascends, clip_has, clip_some, clip_text, some_tick, unique}
use Rattle.feeds_laws.proofs.RowLemmas.{has_at}

-- some ticks, as runs that ascend
pub record IsWritten (row : TargetRow) : Type 0 where
  pub ascends : Ascend 0 row.1
  pub some : has_ticks row.1 ≡ true

abbrev IsBelow : List ℕ → List ℕ → Type 0
IsBelow target key = bytes_cmp target key ≡ Less

-- a target below all others has no row
none_at : (target : List ℕ) (rows : List TargetRow) → AllByRecursion (IsBelow target) (keys_of rows) → ticks_at target rows ≡ []
none_at target [] below = refl
none_at target (row ∷ rows) below =
    ap (λ (o : Ordering). unwrap_or (if is_eq o then Some row.1 else lookup (is_at (bytes_cmp target)) rows) []) below.0
    ∙ none_at target rows below.1

none_has : (target : List ℕ) (rows : List TargetRow) → AllByRecursion (IsBelow target) (keys_of rows) → (t : ℕ) → has_at rows target t ≡ false
none_has target rows below t = ap (λ spans. have spans t) (none_at target rows below)

-- the ticks of a target by the first row
at_first : (target : List ℕ) (row : TargetRow) (rows : List TargetRow) (t : ℕ) (o : Ordering) → bytes_cmp target row.0 ≡ o → has_at (row ∷ rows) target t ≡ (if is_eq o then have row.1 t else has_at rows target t)
at_first target row rows t o is =
    ap (λ (o : Ordering). have (unwrap_or (if is_eq o then Some row.1 else lookup (is_at (bytes_cmp target)) rows) []) t) is ∙ by o
  where
    by : (o : Ordering) → have (unwrap_or (if is_eq o then Some row.1 else lookup (is_at (bytes_cmp target)) rows) []) t ≡ (if is_eq o then have row.1 t else has_at rows target t)
    by Less = refl
    by Equal = refl
    by Greater = refl

same_target : (target : List ℕ) → (o : Ordering) → bytes_cmp target target ≡ o → is_eq o ≡ true → (row : TargetRow) (rows : List TargetRow) (t : ℕ) → row.0 ≡ target → has_at (row ∷ rows) target t ≡ have row.1 t
same_target target o is equal row rows t e =
    at_first target row rows t o (ap (bytes_cmp target) e ∙ is) ∙ ap (λ (b : Bool). if b then have row.1 t else has_at rows target t) equal

below_more : (x y : List ℕ) (keys : List (List ℕ)) → bytes_cmp x y ≡ Less → AllByRecursion (IsBelow y) keys → AllByRecursion (IsBelow x) keys
below_more x y [] less all = tt
below_more x y (k ∷ keys) less all = (nat_list_cmp_total.trans x y k less all.0, below_more x y keys less all.1)

tied : (target : List ℕ) → bytes_cmp target target ≡ Equal
tied target = tied_itself nat_list_cmp_total target

own_ticks : (row : TargetRow) (rows : List TargetRow) (t : ℕ) → has_at (row ∷ rows) row.0 t ≡ have row.1 t
own_ticks row rows t = same_target row.0 Equal (tied row.0) refl row rows t refl

-- ---- The same ticks are the same rows

-- a row before all those of the others has ticks that they haven't
not_before : (x y : TargetRow) (A B : List TargetRow) → bytes_cmp x.0 y.0 ≡ Less → AreInOrder (y ∷ B) → IsWritten x → ((target : List ℕ) (t : ℕ) → has_at (x ∷ A) target t ≡ has_at (y ∷ B) target t) → ⊥
unfolding IsStrictlySortedBy
not_before x y A B less order written same =
    let tick = some_tick 0 x.1 written.ascends written.some in
    let gone : has_at (y ∷ B) x.0 tick.0 ≡ false = none_has x.0 (y ∷ B) (less, below_more x.0 y.0 (keys_of B) less order.0) tick.0 in
    false≢true (sym gone ∙ sym (same x.0 tick.0) ∙ own_ticks x A tick.0 ∙ tick.1)

later_same : (x y : TargetRow) (A B : List TargetRow) → x.0 ≡ y.0 → AreInOrder (x ∷ A) → AreInOrder (y ∷ B) → ((target : List ℕ) (t : ℕ) → has_at (x ∷ A) target t ≡ has_at (y ∷ B) target t) → (target : List ℕ) (t : ℕ) → has_at A target t ≡ has_at B target t
unfolding IsStrictlySortedBy
later_same x y A B key orderA orderB same target t = by (bytes_cmp target x.0) refl
  where
    other : (o : Ordering) → bytes_cmp target x.0 ≡ o → is_eq o ≡ false → has_at A target t ≡ has_at B target t
    other o is apart =
        ap (λ (b : Bool). if b then have x.1 t else has_at A target t) (sym apart) ∙ sym (at_first target x A t o is)
        ∙ same target t
        ∙ at_first target y B t o (ap (bytes_cmp target) (sym key) ∙ is) ∙ ap (λ (b : Bool). if b then have y.1 t else has_at B target t) apart

    by : (o : Ordering) → bytes_cmp target x.0 ≡ o → has_at A target t ≡ has_at B target t
    by Less is = other Less is refl
    by Greater is = other Greater is refl
    by Equal is =
        let own : target ≡ x.0 = exact_bytes target x.0 is in
        let inA : has_at A target t ≡ false = ap (λ T. has_at A T t) own ∙ none_has x.0 A orderA.0 t in
        let inB : has_at B target t ≡ false = ap (λ T. has_at B T t) (own ∙ key) ∙ none_has y.0 B orderB.0 t in
        inA ∙ sym inB

pub same_rows : (A B : List TargetRow) → AreInOrder A → AreInOrder B → AllByRecursion IsWritten A → AllByRecursion IsWritten B → ((target : List ℕ) (t : ℕ) → has_at A target t ≡ has_at B target t) → A ≡ B
unfolding IsStrictlySortedBy
same_rows [] [] orderA orderB writtenA writtenB same = refl
same_rows [] (y ∷ B) orderA orderB writtenA writtenB same =
    let tick = some_tick 0 y.1 writtenB.0.ascends writtenB.0.some in
    absurd (false≢true (same y.0 tick.0 ∙ own_ticks y B tick.0 ∙ tick.1))
same_rows (x ∷ A) [] orderA orderB writtenA writtenB same =
    let tick = some_tick 0 x.1 writtenA.0.ascends writtenA.0.some in
    absurd (false≢true (sym (same x.0 tick.0) ∙ own_ticks x A tick.0 ∙ tick.1))
same_rows (x ∷ A) (y ∷ B) orderA orderB writtenA writtenB same = elim (bytes_cmp x.0 y.0) as (λ o. bytes_cmp x.0 y.0 ≡ o → (x ∷ A) ≡ (y ∷ B)) [
  | Less ↦ λ less. absurd (not_before x y A B less orderB writtenA.0 same)
  | Greater ↦ λ greater. absurd (not_before y x B A (turned x.0 y.0 greater) orderA writtenB.0 (λ target t. sym (same target t)))
  | Equal ↦ λ tie.
      let key : x.0 ≡ y.0 = exact_bytes x.0 y.0 tie in
      let values : x.1 ≡ y.1 =
      unique 0 0 x.1 y.1 writtenA.0.ascends writtenB.0.ascends
      (λ t. sym (own_ticks x A t) ∙ same x.0 t ∙ ap (λ T. has_at (y ∷ B) T t) key ∙ own_ticks y B t) in
      let rest : A ≡ B = same_rows A B orderA.1 orderB.1 writtenA.1 writtenB.1 (later_same x y A B key orderA orderB same) in
      λ i. (key i, values i) ∷ rest i
] refl

-- ---- Rows without the ticks before one

abbrev pub clipped : ℕ → List TargetRow → List TargetRow
clipped first [] = []
clipped first (row ∷ rows) = if has_ticks (clip first row.1) then (row.0, clip first row.1) ∷ clipped first rows else clipped first rows

keys_clipped : (P : List ℕ → Type 0) (first : ℕ) (rows : List TargetRow) → AllByRecursion P (keys_of rows) → AllByRecursion P (keys_of (clipped first rows))
keys_clipped P first [] all = tt
keys_clipped P first (row ∷ rows) all = by (has_ticks (clip first row.1)) (keys_clipped P first rows all.1)
  where
    by : (b : Bool) → AllByRecursion P (keys_of (clipped first rows)) → AllByRecursion P (keys_of (if b then (row.0, clip first row.1) ∷ clipped first rows else clipped first rows))
    by true later = (all.0, later)
    by false later = later

pub clipped_in_order : (first : ℕ) (rows : List TargetRow) → AreInOrder rows → AreInOrder (clipped first rows)
unfolding IsStrictlySortedBy
clipped_in_order first [] order = tt
clipped_in_order first (row ∷ rows) order = by (has_ticks (clip first row.1)) (clipped_in_order first rows order.1)
  where
    by : (b : Bool) → AreInOrder (clipped first rows) → AreInOrder (if b then (row.0, clip first row.1) ∷ clipped first rows else clipped first rows)
    by true later = (keys_clipped (IsBelow row.0) first rows order.0, later)
    by false later = later

abbrev pub Ascends : TargetRow → Type 0
Ascends row = Ascend 0 row.1

pub clipped_written : (first : ℕ) (rows : List TargetRow) → AllByRecursion Ascends rows → AllByRecursion IsWritten (clipped first rows)
clipped_written first [] all = tt
clipped_written first (row ∷ rows) all = by (has_ticks (clip first row.1)) refl (clipped_written first rows all.1)
  where
    by : (b : Bool) → has_ticks (clip first row.1) ≡ b → AllByRecursion IsWritten (clipped first rows) → AllByRecursion IsWritten (if b then (row.0, clip first row.1) ∷ clipped first rows else clipped first rows)
    by true some later = (record { ascends = clip_ascends first 0 row.1 all.0; some = some }, later)
    by false none later = later

no_have : (spans : List (ℕ × ℕ)) (t : ℕ) → has_ticks spans ≡ false → have spans t ≡ false
no_have [] t none = refl
no_have (s ∷ spans) t none = absurd (false≢true (sym none))

pub clipped_at : (first : ℕ) (rows : List TargetRow) → AreInOrder rows → (target : List ℕ) (t : ℕ) → has_at (clipped first rows) target t ≡ (nat_le first t && has_at rows target t)
unfolding IsStrictlySortedBy
clipped_at first [] order target t = none (nat_le first t)
  where
    none : (b : Bool) → false ≡ (b && false)
    none true = refl
    none false = refl
clipped_at first (row ∷ rows) order target t = by (bytes_cmp target row.0) refl (has_ticks (clip first row.1)) refl (clipped_at first rows order.1 target t)
  where
    later : List TargetRow
    later = clipped first rows

    -- of another target
    other : (o : Ordering) → bytes_cmp target row.0 ≡ o → is_eq o ≡ false → (b : Bool) → has_at (clipped first rows) target t ≡ (nat_le first t && has_at rows target t) →
        has_at (if b then (row.0, clip first row.1) ∷ clipped first rows else clipped first rows) target t ≡ (nat_le first t && has_at (row ∷ rows) target t)
    other o is apart true rest =
        at_first target (row.0, clip first row.1) (clipped first rows) t o is ∙ ap (λ (b : Bool). if b then have (clip first row.1) t else has_at (clipped first rows) target t) apart
        ∙ rest ∙ ap (λ h. nat_le first t && h) (sym (at_first target row rows t o is ∙ ap (λ (b : Bool). if b then have row.1 t else has_at rows target t) apart))
    other o is apart false rest =
        rest ∙ ap (λ h. nat_le first t && h) (sym (at_first target row rows t o is ∙ ap (λ (b : Bool). if b then have row.1 t else has_at rows target t) apart))

    by : (o : Ordering) → bytes_cmp target row.0 ≡ o → (b : Bool) → has_ticks (clip first row.1) ≡ b → has_at (clipped first rows) target t ≡ (nat_le first t && has_at rows target t) →
        has_at (if b then (row.0, clip first row.1) ∷ clipped first rows else clipped first rows) target t ≡ (nat_le first t && has_at (row ∷ rows) target t)
    by Less is b some rest = other Less is refl b rest
    by Greater is b some rest = other Greater is refl b rest
    by Equal is true some rest =
        at_first target (row.0, clip first row.1) (clipped first rows) t Equal is ∙ clip_has first row.1 t ∙ ap (λ h. nat_le first t && h) (sym (at_first target row rows t Equal is))
    by Equal is false none rest =
        let own : target ≡ row.0 = exact_bytes target row.0 is in
        let gone : has_at (clipped first rows) target t ≡ false =
        ap (λ T. has_at (clipped first rows) T t) own ∙ none_has row.0 (clipped first rows) (keys_clipped (IsBelow row.0) first rows order.0) t in
        gone ∙ sym (no_have (clip first row.1) t none) ∙ clip_has first row.1 t ∙ ap (λ h. nat_le first t && h) (sym (at_first target row rows t Equal is))

-- the text is that of the rows without the ticks before
pub clipped_text : (first : ℕ) (rows : List TargetRow) → flat_map (target_row_text first) rows ≡ flat_map told_row_line (clipped first rows)
clipped_text first [] = refl
clipped_text first (row ∷ rows) =
    ap (λ (b : Bool). (if b then row.0 ++ codes " :" ++ flat_map (span_text first) row.1 ++ line_feed else []) ++ flat_map (target_row_text first) rows) (clip_some first row.1)
    ∙ by (has_ticks (clip first row.1)) (clipped_text first rows)
  where
    by : (b : Bool) → flat_map (target_row_text first) rows ≡ flat_map told_row_line (clipped first rows) →
        (if b then row.0 ++ codes " :" ++ flat_map (span_text first) row.1 ++ line_feed else []) ++ flat_map (target_row_text first) rows
        ≡ flat_map told_row_line (if b then (row.0, clip first row.1) ∷ clipped first rows else clipped first rows)
    by true later =
        ap (λ text. (text ++ line_feed) ++ flat_map (target_row_text first) rows) (append_assoc row.0 (codes " :") (flat_map (span_text first) row.1))
        ∙ ap (λ spans. ((row.0 ++ (codes " :" ++ spans)) ++ line_feed) ++ flat_map (target_row_text first) rows) (clip_text first row.1)
        ∙ ap (λ text. told_row_line (row.0, clip first row.1) ++ text) later
    by false later = later
