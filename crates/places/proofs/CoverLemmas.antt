-- Covers of blocks: what one has, it has when it is widened.
use Rattle.std.proofs.Common.{Bool, true, false, nat_lt, get_or, ap, ◌∙◌, ◌≡◌, ◌⊎◌, inl, inr, ℕ, zero, suc, ◌+◌, ◌*◌, ◌/◌, ◌^◌, ◌<◌, ◌≤◌, pos, List, [], ◌∷◌, ◌++◌, length, set, refl, sym, subst, arith}
use Rattle.std.proofs.Math.Nat.{div-lt_iff_lt-mul, div-le_of_le-mul, div-le_self}
use Rattle.std.proofs.lemmas.Grind.{common_steps, get_or-set_at}
use Rattle.std.proofs.lemmas.Int.{ints, clamps}
use Rattle.std.proofs.lemmas.List.{get_or-set_other, get_or_append_left, length-append, length-set}
use Rattle.std.specs.Prelude.{if◌then◌else◌}
use Rattle.places.specs.declared.patch.Extent.{Extent}
use Rattle.places.specs.declared.patch.Patch.{Patch}
use Rattle.places.specs.declared.boxes.TheConstants.{BLOCK}
use Rattle.places.specs.Boxes.{covers_with, patch_at, AreArranged, AreCovers, AreSlots}
use Rattle.places.specs.Patches.{joined, joined_extent, empty_patch, HasExtent, HasPatch}
use Rattle.exact.proofs.Naturals.{same_or_other}

-- what the code reads where there is no patch
abbrev pub zeros : Patch
zeros = record { x = record { least = pos 0; greatest = pos 0 }; y = record { least = pos 0; greatest = pos 0 } }

extent_has_first : (a b : Extent) → HasExtent (joined_extent a b) a
extent_has_first a b = record { least = omega (arith, ints, clamps); greatest = omega (arith, ints, clamps) }

extent_has_second : (a b : Extent) → HasExtent (joined_extent a b) b
extent_has_second a b = record { least = omega (arith, ints, clamps); greatest = omega (arith, ints, clamps) }

extent_grows : (a b c : Extent) → HasExtent a c → HasExtent (joined_extent a b) c
extent_grows a b c has = record { least = omega (arith, ints, clamps, has.least); greatest = omega (arith, ints, clamps, has.greatest) }

pub has_second : (a b : Patch) → HasPatch (joined a b) b
has_second a b = record { x = extent_has_second a.x b.x; y = extent_has_second a.y b.y }

pub grows : (a b c : Patch) → HasPatch a c → HasPatch (joined a b) c
grows a b c has = record { x = extent_grows a.x b.x c.x has.x; y = extent_grows a.y b.y c.y has.y }

pub has_itself : (a : Patch) → HasPatch a a
has_itself a = record { x = record { least = omega (arith, ints); greatest = omega (arith, ints) }; y = record { least = omega (arith, ints); greatest = omega (arith, ints) } }

-- the covers, that of a block with one patch more
abbrev pub widened : List Patch → ℕ → Patch → List Patch
widened covers block patch = set covers block (joined (patch_at covers block) patch)

pub true_or_false : (b : Bool) → (b ≡ true) ⊎ (b ≡ false)
true_or_false true = inl refl
true_or_false false = inr refl

pub below_or_from : (s n : ℕ) → (s < n) ⊎ (n ≤ s)
below_or_from s zero = inr (omega arith)
below_or_from zero (suc n) = inl (omega arith)
below_or_from (suc s) (suc n) = elim (below_or_from s n) [ inl h ↦ inl (omega (arith, h)) | inr h ↦ inr (omega (arith, h)) ]

pub keeps : (covers : List Patch) (block b : ℕ) (patch other : Patch) → block < length covers
    → HasPatch (patch_at covers b) other → HasPatch (patch_at (widened covers block patch) b) other
keeps covers block b patch other there has = elim (same_or_other b block) [
  | inl is ↦ subst (λ c. HasPatch c other) (sym (get_or-set_at covers block b (joined (patch_at covers block) patch) empty_patch is there))
      (grows (patch_at covers block) patch other (subst (λ n. HasPatch (patch_at covers n) other) is has))
  | inr differs ↦ subst (λ c. HasPatch c other) (sym (get_or-set_other covers block b (joined (patch_at covers block) patch) empty_patch differs)) has
]

pub has_new : (covers : List Patch) (block : ℕ) (patch : Patch) → block < length covers → HasPatch (patch_at (widened covers block patch) block) patch
has_new covers block patch there =
    subst (λ c. HasPatch c patch) (sym (get_or-set_at covers block block (joined (patch_at covers block) patch) empty_patch refl there))
    (has_second (patch_at covers block) patch)

-- the block of a number is one of those that have room for it
pub block_there : (k n : ℕ) → k < BLOCK * n → k / BLOCK < n
block_there k n h = (div-lt_iff_lt-mul {k = BLOCK} {x = k} {y = n} (omega arith)).1 (omega (arith, h))

-- the block of the slot of a number
abbrev pub block_of : List ℕ → ℕ → ℕ
block_of slots k = get_or slots k 0 / BLOCK

-- the covers have the patches of the numbers below n
abbrev pub HaveBelow : ℕ → List Patch → List Patch → List ℕ → Type 0
HaveBelow n covers patches slots = (k : ℕ) → k < n → HasPatch (patch_at covers (block_of slots k)) (patch_at patches k)

pub have_more : (n : ℕ) (covers patches : List Patch) (slots : List ℕ) → block_of slots n < length covers → HaveBelow n covers patches slots
    → HaveBelow (n + 1) (widened covers (block_of slots n) (patch_at patches n)) patches slots
have_more n covers patches slots there have k below = elim (same_or_other k n) [
  | inl is ↦ subst (λ m. HasPatch (patch_at (widened covers (block_of slots n) (patch_at patches n)) (block_of slots m)) (patch_at patches m)) (sym is)
      (has_new covers (block_of slots n) (patch_at patches n) there)
  | inr differs ↦ keeps covers (block_of slots n) (block_of slots k) (patch_at patches n) (patch_at patches k) there (have k (omega (arith, differs)))
]

-- the block of a slot that is there has a cover
pub slot_covered : (covers patches : List Patch) (slots : List ℕ) (slot : ℕ) → AreCovers covers patches slots → slot < length patches → slot / BLOCK < length covers
slot_covered covers patches slots slot are within = block_there slot (length covers) (omega (arith, are.room, within))

pub covers_set : (covers patches : List Patch) (slots numbers : List ℕ) (number : ℕ) (patch : Patch) → AreArranged covers patches slots numbers → number < length patches
    → AreArranged (widened covers (block_of slots number) patch) (set patches number patch) slots numbers
covers_set covers patches slots numbers number patch held within =
    let are = held.covers_are in
    let block : ℕ = block_of slots number in
    let slot : get_or slots number 0 < length patches = omega (arith, held.long, (held.slots_are.each number (omega (arith, held.long, within))).within) in
    let there : block < length covers = slot_covered covers patches slots (get_or slots number 0) are slot in
    let longer : length (widened covers block patch) ≡ length covers = length-set covers block (joined (patch_at covers block) patch) in
    let long : length (set patches number patch) ≡ length patches = length-set patches number patch in
    record {
      long = held.long ∙ sym long;
      slots_are = held.slots_are;
      covers_are = record {
        few = omega (arith, long, are.few);
        blocks = omega (arith, longer, are.blocks);
        room = omega (arith, longer, long, are.room);
        each = λ k below. elim (same_or_other k number) [
          | inl is ↦ subst (λ m. HasPatch (patch_at (widened covers block patch) (block_of slots m)) (patch_at (set patches number patch) m)) (sym is)
              (subst (λ p. HasPatch (patch_at (widened covers block patch) block) p)
              (sym (get_or-set_at patches number number patch empty_patch refl within)) (has_new covers block patch there))
          | inr differs ↦ subst (λ p. HasPatch (patch_at (widened covers block patch) (block_of slots k)) p)
              (sym (get_or-set_other patches number k patch empty_patch differs))
              (keeps covers block (block_of slots k) patch (patch_at patches k) there (are.each k (omega (arith, long, below))))
        ];
      };
    }

pub at_end : {X : Type 0} (xs : List X) (x d : X) (n : ℕ) → n ≡ length xs → get_or (xs ++ x ∷ []) n d ≡ x
at_end xs x d n is = grind (arith, common_steps)

-- one number more, in the next slot
pub slots_push : (slots numbers : List ℕ) (n : ℕ) → n ≡ length slots → AreSlots slots numbers → AreSlots (slots ++ n ∷ []) (numbers ++ n ∷ [])
slots_push slots numbers n is are =
    let longer : length (slots ++ n ∷ []) ≡ length slots + 1 = length-append slots (n ∷ []) in
    let long : length (numbers ++ n ∷ []) ≡ length numbers + 1 = length-append numbers (n ∷ []) in
    record {
      long = omega (arith, longer, long, are.long);
      each = λ k below. elim (same_or_other k n) [
        | inl same ↦
            let slot : get_or (slots ++ n ∷ []) k 0 ≡ n = at_end slots n 0 k (omega (arith, is, same)) in
            record {
              within = omega (arith, slot, longer, is);
              back = ap (λ s. get_or (numbers ++ n ∷ []) s 0) slot ∙ at_end numbers n 0 n (omega (arith, is, are.long)) ∙ sym same;
            }
        | inr differs ↦
            let under : k < length slots = omega (arith, longer, below, differs, is) in
            let had = are.each k under in
            let slot : get_or (slots ++ n ∷ []) k 0 ≡ get_or slots k 0 = get_or_append_left slots (n ∷ []) 0 k under in
            record {
              within = omega (arith, slot, longer, had.within);
              back = ap (λ s. get_or (numbers ++ n ∷ []) s 0) slot
                  ∙ get_or_append_left numbers (n ∷ []) 0 (get_or slots k 0) (omega (arith, had.within, are.long)) ∙ had.back;
            }
      ];
    }

-- covers that have one more patch
record HaveMore (covers more : List Patch) (block n : ℕ) (patch : Patch) : Type 0 where
  pub blocks : length more ≤ 2 ^ 32
  pub room : n + 1 ≤ BLOCK * length more
  pub new : HasPatch (patch_at more block) patch
  pub old : (b : ℕ) (other : Patch) → b < length covers → HasPatch (patch_at covers b) other → HasPatch (patch_at more b) other

have_next : (covers : List Patch) (n : ℕ) (patch : Patch) → length covers ≤ 2 ^ 32 → n < 2 ^ 32 → n ≤ BLOCK * length covers
    → HaveMore covers (covers_with covers (n / BLOCK) patch) (n / BLOCK) n patch
have_next covers n patch blocks few room = elim (true_or_false (nat_lt (n / BLOCK) (length covers))) [
  | inl h ↦ subst (λ more. HaveMore covers more (n / BLOCK) n patch)
      (sym (ap (λ b. if b then widened covers (n / BLOCK) patch else (covers ++ patch ∷ [])) h)) (inside (grind (arith, h)))
  | inr h ↦ subst (λ more. HaveMore covers more (n / BLOCK) n patch)
      (sym (ap (λ b. if b then widened covers (n / BLOCK) patch else (covers ++ patch ∷ [])) h)) (past (grind (arith, h)))
]
  where
    inside : n / BLOCK < length covers → HaveMore covers (widened covers (n / BLOCK) patch) (n / BLOCK) n patch
    inside there =
        let longer : length (widened covers (n / BLOCK) patch) ≡ length covers = length-set covers (n / BLOCK) (joined (patch_at covers (n / BLOCK)) patch) in
        record {
          blocks = omega (arith, longer, blocks);
          room = omega (arith, longer, (div-lt_iff_lt-mul {k = BLOCK} {x = n} {y = length covers} (omega arith)).0 there);
          new = has_new covers (n / BLOCK) patch there;
          old = λ b other below has. keeps covers (n / BLOCK) b patch other there has;
        }

    past : length covers ≤ n / BLOCK → HaveMore covers (covers ++ patch ∷ []) (n / BLOCK) n patch
    past full =
        let longer : length (covers ++ patch ∷ []) ≡ length covers + 1 = length-append covers (patch ∷ []) in
        let most : n / BLOCK ≤ length covers = div-le_of_le-mul BLOCK {m = n} {n = length covers} room in
        let least : n / BLOCK ≤ n = div-le_self n BLOCK in
        record {
          blocks = omega (arith, longer, full, least, few);
          room = omega (arith, longer, room);
          new = subst (λ p. HasPatch p patch) (sym (at_end covers patch empty_patch (n / BLOCK) (omega (arith, most, full)))) (has_itself patch);
          old = λ b other below has. subst (λ p. HasPatch p other) (sym (get_or_append_left covers (patch ∷ []) empty_patch b below)) has;
        }

-- one patch more, in the next slot
pub covers_push : (covers patches : List Patch) (slots numbers : List ℕ) (patch : Patch) (n : ℕ) → n ≡ length patches → n < 2 ^ 32 → AreArranged covers patches slots numbers
    → AreArranged (covers_with covers (n / BLOCK) patch) (patches ++ patch ∷ []) (slots ++ n ∷ []) (numbers ++ n ∷ [])
covers_push covers patches slots numbers patch n is few held =
    let are = held.covers_are in
    let more : HaveMore covers (covers_with covers (n / BLOCK) patch) (n / BLOCK) n patch = have_next covers n patch are.blocks few (omega (arith, is, are.room)) in
    let long : length (patches ++ patch ∷ []) ≡ length patches + 1 = length-append patches (patch ∷ []) in
    let longer : length (slots ++ n ∷ []) ≡ length slots + 1 = length-append slots (n ∷ []) in
    record {
      long = omega (arith, long, longer, held.long);
      slots_are = slots_push slots numbers n (omega (arith, is, held.long)) held.slots_are;
      covers_are = record {
        few = omega (arith, long, few, is);
        blocks = more.blocks;
        room = omega (arith, long, is, more.room);
        each = λ k below. elim (same_or_other k n) [
          | inl same ↦
              let slot : get_or (slots ++ n ∷ []) k 0 ≡ n = at_end slots n 0 k (omega (arith, is, same, held.long)) in
              subst (λ s. HasPatch (patch_at (covers_with covers (n / BLOCK) patch) (s / BLOCK)) (patch_at (patches ++ patch ∷ []) k)) (sym slot)
              (subst (λ p. HasPatch (patch_at (covers_with covers (n / BLOCK) patch) (n / BLOCK)) p)
              (sym (at_end patches patch empty_patch k (omega (arith, is, same)))) more.new)
          | inr differs ↦
              let under : k < length patches = omega (arith, long, below, differs, is) in
              let seated : k < length slots = omega (arith, under, held.long) in
              let slot : get_or (slots ++ n ∷ []) k 0 ≡ get_or slots k 0 = get_or_append_left slots (n ∷ []) 0 k seated in
              let within : get_or slots k 0 < length patches = omega (arith, held.long, (held.slots_are.each k seated).within) in
              subst (λ s. HasPatch (patch_at (covers_with covers (n / BLOCK) patch) (s / BLOCK)) (patch_at (patches ++ patch ∷ []) k)) (sym slot)
              (subst (λ p. HasPatch (patch_at (covers_with covers (n / BLOCK) patch) (block_of slots k)) p)
              (sym (get_or_append_left patches (patch ∷ []) empty_patch k under))
              (more.old (block_of slots k) (patch_at patches k) (slot_covered covers patches slots (get_or slots k 0) are within) (are.each k under)))
        ];
      };
    }
