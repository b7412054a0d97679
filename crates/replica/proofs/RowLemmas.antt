-- The rows of a map.
use Rattle.std.proofs.Common.{◌≡◌, ◌∙◌, ℕ, Bor, List, [], ◌∷◌, map, Option, Some, None, option_map, unwrap_or, cond, Bool, true, false, refl, ap}
use Rattle.std.specs.BTreeMap.{insert_entry, is_at}
use Rattle.std.specs.Map.{lookup}
use Rattle.std.specs.Option.{option_copied}
use Rattle.std.specs.Ordering.{match_ordering}
use Rattle.std.specs.declared.cmp.Ordering.{Ordering}
use Rattle.std.specs.declared.cmp.Ordering.TheVariants.{Less, Equal, Greater}
use Rattle.std.specs.Global.{Vec}
use Rattle.tick_set.specs.declared.spans.Span.{Span}
use Rattle.tick_set.specs.Runs.{pairs}
use Rattle.replica.specs.Rows.{TargetRow, bytes_cmp, ticks_at}

abbrev pub Entry : Type 0
Entry = Vec ℕ × List Span

abbrev pub row_of_entry : Entry → TargetRow
row_of_entry e = (e.0.items, pairs e.1)

abbrev pub vec_cmp : Vec ℕ → Vec ℕ → Ordering
vec_cmp x y = bytes_cmp x.items y.items

pub insert_rows : (entries : List Entry) (k : Vec ℕ) (v : List Span)
    → map row_of_entry (insert_entry vec_cmp entries k v) ≡ insert_entry bytes_cmp (map row_of_entry entries) k.items (pairs v)
insert_rows [] k v = refl
insert_rows (e ∷ entries) k v = elim (bytes_cmp k.items e.0.items) as (λ o. map row_of_entry (match_ordering o ((k, v) ∷ e ∷ entries) ((e.0, v) ∷ entries) (e ∷ insert_entry vec_cmp entries k v)) ≡ match_ordering o ((k.items, pairs v) ∷ row_of_entry e ∷ map row_of_entry entries) ((e.0.items, pairs v) ∷ map row_of_entry entries) (row_of_entry e ∷ insert_entry bytes_cmp (map row_of_entry entries) k.items (pairs v))) [
  | Less ↦ refl
  | Equal ↦ refl
  | Greater ↦ ap (λ rows. row_of_entry e ∷ rows) (insert_rows entries k v)
]

lookup_step : (b : Bool) (v : List Span) (there : Option (List Span)) (rows : Option (List (ℕ × ℕ))) → option_map pairs there ≡ rows
    → option_map pairs (cond b (Some v) there) ≡ cond b (Some (pairs v)) rows
lookup_step true v there rows h = refl
lookup_step false v there rows h = h

pub lookup_rows : (target : List ℕ) (entries : List Entry)
    → option_map pairs (lookup (is_at (λ (k : Vec ℕ). bytes_cmp target k.items)) entries) ≡ lookup (is_at (bytes_cmp target)) (map row_of_entry entries)
lookup_rows target [] = refl
lookup_rows target (e ∷ entries) =
    lookup_step (is_at (bytes_cmp target) e.0.items) e.1 (lookup (is_at (λ (k : Vec ℕ). bytes_cmp target k.items)) entries) (lookup (is_at (bytes_cmp target)) (map row_of_entry entries)) (lookup_rows target entries)

found_or_none : (target : List ℕ) (entries : List Entry) (there : Option (Bor (List Span))) (empty : Bor (List Span))
    → option_copied there ≡ lookup (is_at (λ (k : Vec ℕ). bytes_cmp target k.items)) entries → empty.now ≡ []
    → pairs (unwrap_or there empty).now ≡ ticks_at target (map row_of_entry entries)
found_or_none target entries None empty h none = ap (λ spans. pairs spans) none ∙ ap (λ o. unwrap_or (option_map pairs o) []) h ∙ ap (λ o. unwrap_or o []) (lookup_rows target entries)
found_or_none target entries (Some found) empty h none = ap (λ o. unwrap_or (option_map pairs o) []) h ∙ ap (λ o. unwrap_or o []) (lookup_rows target entries)

-- the ticks that a map has for a target, or those given where it has none
pub ticks_or_none : (target : List ℕ) (entries : List Entry) (there : Option (Bor (List Span))) (empty old : Bor (List Span)) → old ≡ unwrap_or there empty
    → option_copied there ≡ lookup (is_at (λ (k : Vec ℕ). bytes_cmp target k.items)) entries → empty.now ≡ [] → pairs old.now ≡ ticks_at target (map row_of_entry entries)
ticks_or_none target entries there empty old is h none = ap (λ (b : Bor (List Span)). pairs b.now) is ∙ found_or_none target entries there empty h none
