-- Slots of numbers: after a sort, and after the last number has gone.
use Rattle.std.proofs.Common.{◌≡◌, inl, inr, ℕ, ◌+◌, ◌-◌, ◌/◌, ◌<◌, ◌≤◌, List, [], length, get_or, set, take, drop, ◌++◌, refl, sym, ap, subst, ◌∙◌, arith}
use Rattle.std.proofs.lemmas.Grind.{get_or-set_at}
use Rattle.std.proofs.lemmas.List.{get_or-append_right, get_or-set_other, get_or-take, get_or-drop, get_or_append_left, get_or_default, append-nil, length-append, length-drop, length-set, length-take-le, take-append-le}
use Rattle.std.proofs.Math.Seq.{drop-length, take-length}
use Rattle.std.proofs.lemmas.List.Sorted.{Contains-permutation}
use Rattle.std.specs.Prelude.{Contains, IsPermutation}
use Rattle.places.specs.declared.patch.Patch.{Patch}
use Rattle.places.specs.declared.boxes.TheConstants.{BLOCK}
use Rattle.places.specs.Boxes.{patch_at, AreArranged, AreSlots, AreSlotsBut, StandsFrom}
use Rattle.places.specs.Patches.{joined, empty_patch, HasPatch}
use Rattle.places.proofs.CoverLemmas.{below_or_from, block_of, has_new, keeps, slot_covered, widened}
use Rattle.exact.proofs.Naturals.{same_or_other}

-- after a permutation of the slots from n on, what had none of these has its slot, and the others stand there
pub permuted : (n : ℕ) (slots numbers sorted : List ℕ) → AreSlots slots numbers → n ≤ length numbers → IsPermutation (drop n numbers) sorted
    → length sorted ≡ length (drop n numbers) → AreSlotsBut n slots (take n numbers ++ sorted)
permuted n slots numbers sorted are within same long =
    let first : length (take n numbers) ≡ n = length-take-le n numbers within in
    let rest : length (drop n numbers) ≡ length numbers - n = length-drop n numbers in
    let whole : length (take n numbers ++ sorted) ≡ length (take n numbers) + length sorted = length-append (take n numbers) sorted in
    let all : length (take n numbers ++ sorted) ≡ length slots = omega (arith, first, rest, whole, long, within, are.long) in
    record {
      long = all;
      each = λ k below.
          let had = are.each k below in
          elim (below_or_from (get_or slots k 0) n) [
            | inl before ↦ inl (record {
              within = had.within;
              back = get_or_append_left (take n numbers) sorted 0 (get_or slots k 0) (omega (arith, before, first)) ∙ get_or-take n numbers (get_or slots k 0) 0 before ∙ had.back;
            })
            | inr from ↦ inr (stands k all first (Contains-permutation (drop n numbers) sorted k same (dropped k (get_or slots k 0) from (omega (arith, had.within, are.long)) had.back)))
          ];
    }
  where
    dropped : (k s : ℕ) → n ≤ s → s < length numbers → get_or numbers s 0 ≡ k → Contains (drop n numbers) k
    dropped k s from below is =
        let rest : length (drop n numbers) ≡ length numbers - n = length-drop n numbers in
        let there : n + (s - n) ≡ s = omega (arith, from) in (
          s - n,
          omega (arith, rest, from, below),
          get_or-drop n numbers (s - n) k ∙ ap (λ t. get_or numbers t k) there ∙ get_or_default numbers s k 0 below ∙ is,
        )

    stands : (k : ℕ) → length (take n numbers ++ sorted) ≡ length slots → length (take n numbers) ≡ n → Contains sorted k → StandsFrom n (take n numbers ++ sorted) k
    stands k all first (j, below, is) =
        let whole : length (take n numbers ++ sorted) ≡ length (take n numbers) + length sorted = length-append (take n numbers) sorted in
        let there : n + j - n ≡ j = omega arith in (
          n + j,
          omega arith,
          omega (arith, whole, first, below),
          get_or-append_right (take n numbers) sorted n (n + j) 0 first (omega arith) ∙ ap (λ t. get_or sorted t 0) there ∙ get_or_default sorted j 0 k below ∙ is,
        )

-- the last number goes, and stood in the last slot
pub popped_plain : (covers patches : List Patch) (slots numbers : List ℕ) (last : ℕ) → length patches ≡ last + 1 → AreArranged covers patches slots numbers
    → last ≤ get_or numbers last 0 → AreArranged covers (take last patches) (take last slots) (take last numbers)
popped_plain covers patches slots numbers last is held past =
    let few_patches : length (take last patches) ≡ last = length-take-le last patches (omega (arith, is)) in
    let few_slots : length (take last slots) ≡ last = length-take-le last slots (omega (arith, is, held.long)) in
    let few_numbers : length (take last numbers) ≡ last = length-take-le last numbers (omega (arith, is, held.long, held.slots_are.long)) in
    record {
      long = few_slots ∙ sym few_patches;
      slots_are = record {
        long = few_numbers ∙ sym few_slots;
        each = λ k below.
            let under : k < last = omega (arith, below, few_slots) in
            let had = held.slots_are.each k (omega (arith, under, is, held.long)) in
            let slot : get_or (take last slots) k 0 ≡ get_or slots k 0 = get_or-take last slots k 0 under in
            let inside : get_or slots k 0 < last = before_last k (get_or slots k 0) under (omega (arith, had.within, is, held.long)) had.back in
            record {
              within = omega (arith, slot, inside, few_slots);
              back = ap (λ s. get_or (take last numbers) s 0) slot ∙ get_or-take last numbers (get_or slots k 0) 0 inside ∙ had.back;
            };
      };
      covers_are = record {
        few = omega (arith, few_patches, is, held.covers_are.few);
        blocks = held.covers_are.blocks;
        room = omega (arith, few_patches, is, held.covers_are.room);
        each = λ k below.
            let under : k < last = omega (arith, below, few_patches) in
            subst (λ s. HasPatch (patch_at covers (s / BLOCK)) (patch_at (take last patches) k)) (sym (get_or-take last slots k 0 under))
            (subst (λ p. HasPatch (patch_at covers (block_of slots k)) p) (sym (get_or-take last patches k empty_patch under))
            (held.covers_are.each k (omega (arith, under, is))));
      };
    }
  where
    before_last : (k s : ℕ) → k < last → s < last + 1 → get_or numbers s 0 ≡ k → s < last
    before_last k s under within back = elim (same_or_other s last) [
      | inl same ↦ absurd (omega (arith, under, past, back, ap (λ t. get_or numbers t 0) same))
      | inr differs ↦ omega (arith, within, differs)
    ]

-- the last number goes, and the number in the last slot comes into its slot
pub popped_moved : (covers patches : List Patch) (slots numbers : List ℕ) (last number slot : ℕ) → length patches ≡ last + 1 → AreArranged covers patches slots numbers
    → number ≡ get_or numbers last 0 → slot ≡ get_or slots last 0 → number < last
    → (slot < last) × AreArranged (widened covers (slot / BLOCK) (patch_at (take last patches) number)) (take last patches) (set (take last slots) number slot) (set (take last numbers) slot number)
popped_moved covers patches slots numbers last number slot is held number_is slot_is moves =
    let few_patches : length (take last patches) ≡ last = length-take-le last patches (omega (arith, is)) in
    let few_slots : length (take last slots) ≡ last = length-take-le last slots (omega (arith, is, held.long)) in
    let few_numbers : length (take last numbers) ≡ last = length-take-le last numbers (omega (arith, is, held.long, held.slots_are.long)) in
    let long_slots : length (set (take last slots) number slot) ≡ length (take last slots) = length-set (take last slots) number slot in
    let long_numbers : length (set (take last numbers) slot number) ≡ length (take last numbers) = length-set (take last numbers) slot number in
    let seat = held.slots_are.each last (omega (arith, is, held.long)) in
    let seat_back : get_or numbers slot 0 ≡ last = ap (λ t. get_or numbers t 0) slot_is ∙ seat.back in
    let within : slot < last = not_last slot (omega (arith, seat.within, slot_is, is, held.long)) seat_back in
    let patch : Patch = patch_at (take last patches) number in
    let there : slot / BLOCK < length covers = slot_covered covers patches slots slot held.covers_are (omega (arith, within, is)) in
    let longer : length (widened covers (slot / BLOCK) patch) ≡ length covers = length-set covers (slot / BLOCK) (joined (patch_at covers (slot / BLOCK)) patch) in (
      within,
      record {
        long = long_slots ∙ few_slots ∙ sym few_patches;
        slots_are = record {
          long = long_numbers ∙ few_numbers ∙ sym few_slots ∙ sym long_slots;
          each = λ k below.
              let under : k < last = omega (arith, below, long_slots, few_slots) in
              elim (same_or_other k number) [
                | inl same ↦
                    let now : get_or (set (take last slots) number slot) k 0 ≡ slot = get_or-set_at (take last slots) number k slot 0 same (omega (arith, moves, few_slots)) in
                    record {
                      within = omega (arith, now, within, long_slots, few_slots);
                      back = ap (λ s. get_or (set (take last numbers) slot number) s 0) now
                          ∙ get_or-set_at (take last numbers) slot slot number 0 refl (omega (arith, within, few_numbers)) ∙ sym same;
                    }
                | inr differs ↦
                    let had = held.slots_are.each k (omega (arith, under, is, held.long)) in
                    let now : get_or (set (take last slots) number slot) k 0 ≡ get_or slots k 0 =
                    get_or-set_other (take last slots) number k slot 0 differs ∙ get_or-take last slots k 0 under in
                    let inside : get_or slots k 0 < last = stays k (get_or slots k 0) differs (omega (arith, had.within, is, held.long)) had.back in
                    record {
                      within = omega (arith, now, inside, long_slots, few_slots);
                      back = ap (λ s. get_or (set (take last numbers) slot number) s 0) now
                          ∙ get_or-set_other (take last numbers) slot (get_or slots k 0) number 0 (apart k (get_or slots k 0) under seat_back had.back)
                          ∙ get_or-take last numbers (get_or slots k 0) 0 inside ∙ had.back;
                    }
              ];
        };
        covers_are = record {
          few = omega (arith, few_patches, is, held.covers_are.few);
          blocks = omega (arith, longer, held.covers_are.blocks);
          room = omega (arith, longer, few_patches, is, held.covers_are.room);
          each = λ k below.
              let under : k < last = omega (arith, below, few_patches) in
              elim (same_or_other k number) [
                | inl same ↦
                    let now : get_or (set (take last slots) number slot) k 0 ≡ slot = get_or-set_at (take last slots) number k slot 0 same (omega (arith, moves, few_slots)) in
                    subst (λ s. HasPatch (patch_at (widened covers (slot / BLOCK) patch) (s / BLOCK)) (patch_at (take last patches) k)) (sym now)
                    (subst (λ m. HasPatch (patch_at (widened covers (slot / BLOCK) patch) (slot / BLOCK)) (patch_at (take last patches) m)) (sym same)
                    (has_new covers (slot / BLOCK) patch there))
                | inr differs ↦
                    let now : get_or (set (take last slots) number slot) k 0 ≡ get_or slots k 0 =
                    get_or-set_other (take last slots) number k slot 0 differs ∙ get_or-take last slots k 0 under in
                    subst (λ s. HasPatch (patch_at (widened covers (slot / BLOCK) patch) (s / BLOCK)) (patch_at (take last patches) k)) (sym now)
                    (subst (λ p. HasPatch (patch_at (widened covers (slot / BLOCK) patch) (block_of slots k)) p) (sym (get_or-take last patches k empty_patch under))
                    (keeps covers (slot / BLOCK) (block_of slots k) patch (patch_at patches k) there (held.covers_are.each k (omega (arith, under, is)))))
              ];
        };
      },
    )
  where
    not_last : (s : ℕ) → s < last + 1 → get_or numbers s 0 ≡ last → s < last
    not_last s below back = elim (same_or_other s last) [
      | inl same ↦ absurd (omega (arith, moves, number_is, back, ap (λ t. get_or numbers t 0) same))
      | inr differs ↦ omega (arith, below, differs)
    ]

    stays : (k s : ℕ) → (k ≡ number → ⊥) → s < last + 1 → get_or numbers s 0 ≡ k → s < last
    stays k s differs below back = elim (same_or_other s last) [
      | inl same ↦ absurd (differs (sym back ∙ ap (λ t. get_or numbers t 0) same ∙ sym number_is))
      | inr other ↦ omega (arith, below, other)
    ]

    apart : (k s : ℕ) → k < last → get_or numbers slot 0 ≡ last → get_or numbers s 0 ≡ k → (s ≡ slot → ⊥)
    apart k s under seat back same = omega (arith, under, seat, back, ap (λ t. get_or numbers t 0) same)

-- what is left of a vector of which the part from `start` on was written as a slice
pub tail_sorted : (slots numbers seen sorted now : List ℕ) (start n : ℕ) → seen ≡ numbers → n ≡ length numbers → AreSlots slots numbers → start ≤ length numbers
    → IsPermutation (take (length seen - start) (drop start seen)) sorted → length sorted ≡ length (take (length seen - start) (drop start seen))
    → now ≡ take n ((take start seen ++ (sorted ++ drop (length seen - start) (drop start seen))) ++ drop (length (take start seen ++ (sorted ++ drop (length seen - start) (drop start seen)))) numbers)
    → AreSlotsBut start slots now
tail_sorted slots numbers seen sorted now start n same count are within moved long is =
    let rest : length (drop start seen) ≡ length seen - start = length-drop start seen in
    let middle : take (length seen - start) (drop start seen) ≡ drop start seen = ap (λ m. take m (drop start seen)) (sym rest) ∙ take-length (drop start seen) in
    let past : drop (length seen - start) (drop start seen) ≡ [] = ap (λ m. drop m (drop start seen)) (sym rest) ∙ drop-length (drop start seen) in
    let written : take start seen ++ (sorted ++ drop (length seen - start) (drop start seen)) ≡ take start seen ++ sorted =
    ap (λ l. take start seen ++ (sorted ++ l)) past ∙ ap (λ l. take start seen ++ l) (append-nil sorted) in
    let first : length (take start seen) ≡ start = length-take-le start seen (omega (arith, within, ap length same)) in
    let count_sorted : length sorted ≡ length (drop start seen) = long ∙ ap length middle in
    let whole : length (take start seen ++ sorted) ≡ length (take start seen) + length sorted = length-append (take start seen) sorted in
    let size : n ≡ length (take start seen ++ sorted) = omega (arith, whole, first, count_sorted, rest, count, within, ap length same) in
    let is_now : now ≡ take start seen ++ sorted =
    is ∙ ap (λ a. take n (a ++ drop (length a) numbers)) written
    ∙ take-append-le n (take start seen ++ sorted) (drop (length (take start seen ++ sorted)) numbers) (omega (arith, size))
    ∙ ap (λ m. take m (take start seen ++ sorted)) size ∙ take-length (take start seen ++ sorted) in
    subst (λ l. AreSlotsBut start slots l) (sym is_now)
    (permuted start slots seen sorted (subst (λ l. AreSlots slots l) (sym same) are) (omega (arith, within, ap length same))
    (subst (λ l. IsPermutation l sorted) middle moved) count_sorted)
