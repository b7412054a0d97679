-- Which patches meet an area, by their covers.
use Rattle.std.proofs.Common.{◌≡◌, ◌⊎◌, inl, inr, ℕ, zero, suc, ◌+◌, ◌*◌, ◌/◌, ◌<◌, ◌≤◌, min, true, false, eqb, nat_cmp, List, [], ◌∷◌, ◌++◌, length, get_or, refl, sym, ap, subst, ◌∙◌, arith}
use Rattle.std.proofs.lemmas.Bool.{false≢true}
use Rattle.std.proofs.lemmas.Int.{ints}
use Rattle.std.proofs.lemmas.List.{get_or_append_left, get_or_default, length-append}
use Rattle.std.proofs.lemmas.List.Elements.{Contains-append_cases, Contains-append_left, Contains-append_right}
use Rattle.std.proofs.lemmas.List.Kept.{AllPairs-from_increasing, Contains-dedup_nat, Contains-from_dedup}
use Rattle.std.proofs.lemmas.List.Sorted.{Contains-permutation, IsPermutation-sym}
use Rattle.std.proofs.lemmas.Map.Keys.{IsStrictlyIncreasing-dedup}
use Rattle.std.proofs.Math.Nat.{div-eq_of_lt-le}
use Rattle.std.specs.Prelude.{Contains, IsPermutation, IsSorted, AllPairs}
use Rattle.std.specs.List.{dedup}
use Rattle.places.specs.declared.patch.Patch.{Patch}
use Rattle.places.specs.declared.boxes.TheConstants.{BLOCK}
use Rattle.places.specs.Boxes.{numbers_near, near_below, patch_at, AddsFound, AreArranged, AreFound, IsNear}
use Rattle.places.specs.Patches.{meets, HasPatch}
use Rattle.places.proofs.CoverLemmas.{at_end, below_or_from, block_of, true_or_false}
use Rattle.exact.proofs.Naturals.{same_or_other}

-- what an area doesn't meet, it meets no part of
pub parted : (cover patch area : Patch) → HasPatch cover patch → meets cover area ≡ false → meets patch area ≡ false
parted cover patch area has h =
    let a = has.x.least in let b = has.x.greatest in let c = has.y.least in let d = has.y.greatest in
    grind (arith, ints, a, b, c, d, h)

-- an element is the first one or one of the others
pub in_cons : (x : ℕ) (xs : List ℕ) (k : ℕ) → Contains (x ∷ xs) k → (k ≡ x) ⊎ Contains xs k
in_cons x xs k (zero, below, is) = inl (sym is)
in_cons x xs k (suc j, below, is) = inr (j, omega (arith, below), is)

pub in_tail : (x : ℕ) (xs : List ℕ) (k : ℕ) → Contains xs k → Contains (x ∷ xs) k
in_tail x xs k (j, below, is) = (suc j, omega (arith, below), is)

pub in_head : (x : ℕ) (xs : List ℕ) → Contains (x ∷ xs) x
in_head x xs = (0, omega arith, refl)

nothing_in : (k : ℕ) → Contains [] k → ⊥
nothing_in k (j, below, is) = omega (arith, below)

-- a block whose cover an area doesn't meet has nothing that meets it
pub passed_found : (block : ℕ) (covers : List Patch) (numbers : List ℕ) (patches : List Patch) (area : Patch) (found : List ℕ) → AreFound (BLOCK * block) covers numbers patches area found
    → meets (patch_at covers block) area ≡ false → AreFound (BLOCK * (block + 1)) covers numbers patches area found
passed_found block covers numbers patches area found are apart = record {
  sound = are.sound;
  whole = λ s below within has is. elim (below_or_from s (BLOCK * block)) [
    | inl before ↦ are.whole s before within has is
    | inr from ↦
        let upto : s < (block + 1) * BLOCK = omega (arith, below) in
        let here : s / BLOCK ≡ block = div-eq_of_lt-le {k = block} BLOCK {m = s} (omega (arith, from)) upto in
        absurd (false≢true (sym (parted (patch_at covers block) (patch_at patches (get_or numbers s 0)) area
        (subst (λ b. HasPatch (patch_at covers b) (patch_at patches (get_or numbers s 0))) here has) apart) ∙ is.met))
  ];
}

-- what a block adds
pub block_found : (block : ℕ) (covers : List Patch) (numbers : List ℕ) (patches : List Patch) (area : Patch) (old new : List ℕ) → AreFound (BLOCK * block) covers numbers patches area old
    → AddsFound (block * BLOCK) (block * BLOCK + BLOCK) numbers patches area old new → AreFound (BLOCK * (block + 1)) covers numbers patches area new
block_found block covers numbers patches area old new are adds = record {
  sound = λ k has. elim (adds.sound k has) [ inl before ↦ are.sound k before | inr is ↦ is ];
  whole = λ s below within has is. elim (below_or_from s (BLOCK * block)) [
    | inl before ↦ adds.keeps (get_or numbers s 0) (are.whole s before within has is)
    | inr from ↦ adds.whole s (omega (arith, from)) (omega (arith, below)) within is
  ];
}

-- one slot more of a block
pub one_found : (n s : ℕ) (numbers : List ℕ) (patches : List Patch) (area : Patch) (old found : List ℕ) → AddsFound n s numbers patches area old found
    → IsNear patches area (get_or numbers s 0) → AddsFound n (s + 1) numbers patches area old (found ++ get_or numbers s 0 ∷ [])
one_found n s numbers patches area old found adds near_here =
    let number : ℕ = get_or numbers s 0 in
    record {
      keeps = λ k has. Contains-append_left found (number ∷ []) k (adds.keeps k has);
      sound = λ k has. elim (Contains-append_cases found (number ∷ []) k has) [
        | inl before ↦ adds.sound k before
        | inr last ↦ elim (in_cons number [] k last) [ inl is ↦ inr (subst (λ m. IsNear patches area m) (sym is) near_here) | inr none ↦ absurd (nothing_in k none) ]
      ];
      whole = λ t from below within is. elim (same_or_other t s) [
        | inl same ↦ subst (λ m. Contains (found ++ number ∷ []) (get_or numbers m 0)) (sym same) (Contains-append_right found (number ∷ []) number (in_head number []))
        | inr differs ↦ Contains-append_left found (number ∷ []) (get_or numbers t 0) (adds.whole t from (omega (arith, below, differs)) within is)
      ];
    }

pub none_found : (n s : ℕ) (numbers : List ℕ) (patches : List Patch) (area : Patch) (old found : List ℕ) → AddsFound n s numbers patches area old found
    → (IsNear patches area (get_or numbers s 0) → ⊥) → AddsFound n (s + 1) numbers patches area old found
none_found n s numbers patches area old found adds apart = record {
  keeps = adds.keeps;
  sound = adds.sound;
  whole = λ t from below within is. elim (same_or_other t s) [
    | inl same ↦ absurd (apart (subst (λ m. IsNear patches area (get_or numbers m 0)) same is))
    | inr differs ↦ adds.whole t from (omega (arith, below, differs)) within is
  ];
}

-- past the last slot there is nothing to find
pub enough_found : (n s m : ℕ) (numbers : List ℕ) (patches : List Patch) (area : Patch) (old found : List ℕ) → AddsFound n s numbers patches area old found
    → min (length numbers) m ≤ s → AddsFound n m numbers patches area old found
enough_found n s m numbers patches area old found adds past = record {
  keeps = adds.keeps;
  sound = adds.sound;
  whole = λ t from below within is. adds.whole t from (omega (arith, past, below, within)) within is;
}

abbrev pub Rises : List ℕ → Type 0
Rises = AllPairs (λ x y. x < y)

rest_rises : (x : ℕ) (xs : List ℕ) → Rises (x ∷ xs) → Rises xs
rest_rises x xs rises i j d order below = rises (suc i) (suc j) d (omega (arith, order)) (omega (arith, below))

above_first : (x : ℕ) (xs : List ℕ) (k : ℕ) → Rises (x ∷ xs) → Contains xs k → x < k
above_first x xs k rises (j, below, is) = subst (λ y. x < y) is (rises 0 (suc j) k (omega arith) (omega (arith, below)))

firsts : (x y : ℕ) (xs ys : List ℕ) → Rises (x ∷ xs) → Rises (y ∷ ys) → (x ≡ y) ⊎ Contains ys x → (y ≡ x) ⊎ Contains xs y → x ≡ y
firsts x y xs ys a b (inl is) in_xs = is
firsts x y xs ys a b (inr later) (inl is) = sym is
firsts x y xs ys a b (inr later) (inr after) = absurd (omega (arith, above_first y ys x b later, above_first x xs y a after))

other : (k y : ℕ) (ys : List ℕ) → y < k → (k ≡ y) ⊎ Contains ys k → Contains ys k
other k y ys above (inl is) = absurd (omega (arith, above, is))
other k y ys above (inr is) = is

-- rising lists with the same elements are the same
pub same_rising : (xs ys : List ℕ) → Rises xs → Rises ys → ((k : ℕ) → Contains xs k → Contains ys k) → ((k : ℕ) → Contains ys k → Contains xs k) → xs ≡ ys
same_rising [] [] a b to from = refl
same_rising [] (y ∷ ys) a b to from = absurd (nothing_in y (from y (in_head y ys)))
same_rising (x ∷ xs) [] a b to from = absurd (nothing_in x (to x (in_head x xs)))
same_rising (x ∷ xs) (y ∷ ys) a b to from =
    let same : x ≡ y = firsts x y xs ys a b (in_cons y ys x (to x (in_head x xs))) (in_cons x xs y (from y (in_head y ys))) in
    let rest : xs ≡ ys = same_rising xs ys (rest_rises x xs a) (rest_rises y ys b)
    (λ k in_xs. other k y ys (omega (arith, same, above_first x xs k a in_xs)) (in_cons y ys k (to k (in_tail x xs k in_xs))))
    (λ k in_ys. other k x xs (omega (arith, same, above_first y ys k b in_ys)) (in_cons x xs k (from k (in_tail y ys k in_ys)))) in
    ap (λ z. z ∷ xs) same ∙ ap (λ zs. y ∷ zs) rest

near_one : (n : ℕ) (patches : List Patch) (area : Patch) → meets (patch_at patches n) area ≡ true → near_below (suc n) patches area ≡ near_below n patches area ++ n ∷ []
near_one n patches area h = rw h refl

near_pass : (n : ℕ) (patches : List Patch) (area : Patch) → meets (patch_at patches n) area ≡ false → near_below (suc n) patches area ≡ near_below n patches area
near_pass n patches area h = rw h refl

-- the numbers that meet an area rise, and are those
pub below_near : (n k : ℕ) (patches : List Patch) (area : Patch) → Contains (near_below n patches area) k → (k < n) × (meets (patch_at patches k) area ≡ true)
below_near zero k patches area has = absurd (nothing_in k has)
below_near (suc n) k patches area has = elim (true_or_false (meets (patch_at patches n) area)) [
  | inl h ↦ elim (Contains-append_cases (near_below n patches area) (n ∷ []) k (subst (λ l. Contains l k) (near_one n patches area h) has)) [
    | inl before ↦ (omega (arith, (below_near n k patches area before).0), (below_near n k patches area before).1)
    | inr last ↦ elim (in_cons n [] k last) [
      | inl is ↦ (omega (arith, is), ap (λ m. meets (patch_at patches m) area) is ∙ h)
      | inr none ↦ absurd (nothing_in k none)
    ]
  ]
  | inr h ↦
      let before : Contains (near_below n patches area) k = subst (λ l. Contains l k) (near_pass n patches area h) has in
      (omega (arith, (below_near n k patches area before).0), (below_near n k patches area before).1)
]

pub near_told : (n k : ℕ) (patches : List Patch) (area : Patch) → k < n → meets (patch_at patches k) area ≡ true → Contains (near_below n patches area) k
near_told zero k patches area below met = absurd (omega (arith, below))
near_told (suc n) k patches area below met = elim (true_or_false (meets (patch_at patches n) area)) [
  | inl h ↦ subst (λ l. Contains l k) (sym (near_one n patches area h)) (elim (same_or_other k n) [
    | inl is ↦ Contains-append_right (near_below n patches area) (n ∷ []) k (subst (λ m. Contains (m ∷ []) k) is (in_head k []))
    | inr differs ↦ Contains-append_left (near_below n patches area) (n ∷ []) k (near_told n k patches area (omega (arith, below, differs)) met)
  ])
  | inr h ↦ subst (λ l. Contains l k) (sym (near_pass n patches area h)) (elim (same_or_other k n) [
    | inl is ↦ absurd (false≢true (sym h ∙ sym (ap (λ m. meets (patch_at patches m) area) is) ∙ met))
    | inr differs ↦ near_told n k patches area (omega (arith, below, differs)) met
  ])
]

one_more : (xs : List ℕ) (n : ℕ) → Rises xs → ((k : ℕ) → Contains xs k → k < n) → Rises (xs ++ n ∷ [])
one_more xs n rises under i j d order below =
    let long : length (xs ++ n ∷ []) ≡ length xs + 1 = length-append xs (n ∷ []) in
    let within : i < length xs = omega (arith, order, below, long) in
    let first : get_or (xs ++ n ∷ []) i d ≡ get_or xs i d = get_or_append_left xs (n ∷ []) d i within in
    elim (same_or_other j (length xs)) [
      | inl is ↦
          let last : get_or (xs ++ n ∷ []) j d ≡ n = at_end xs n d j is in
          omega (arith, first, last, under (get_or xs i d) (i, within, get_or_default xs i (get_or xs i d) d within))
      | inr differs ↦
          let inside : j < length xs = omega (arith, below, long, differs) in
          let second : get_or (xs ++ n ∷ []) j d ≡ get_or xs j d = get_or_append_left xs (n ∷ []) d j inside in
          omega (arith, first, second, rises i j d order inside)
    ]

near_rises : (n : ℕ) (patches : List Patch) (area : Patch) → Rises (near_below n patches area)
near_rises zero patches area = λ i j d order below. absurd (omega (arith, below))
near_rises (suc n) patches area = elim (true_or_false (meets (patch_at patches n) area)) [
  | inl h ↦ subst Rises (sym (near_one n patches area h)) (one_more (near_below n patches area) n (near_rises n patches area) (λ k has. (below_near n k patches area has).0))
  | inr h ↦ subst Rises (sym (near_pass n patches area h)) (near_rises n patches area)
]

-- what was found, sorted and each number once, is all that meet
pub all_found : (covers patches : List Patch) (slots numbers : List ℕ) (area : Patch) (found sorted : List ℕ) → AreArranged covers patches slots numbers
    → AreFound (BLOCK * length covers) covers numbers patches area found → IsPermutation found sorted → IsSorted nat_cmp sorted
    → dedup eqb sorted ≡ numbers_near patches area
all_found covers patches slots numbers area found sorted held are same order =
    same_rising (dedup eqb sorted) (numbers_near patches area) (AllPairs-from_increasing (dedup eqb sorted) (IsStrictlyIncreasing-dedup sorted order)) (near_rises (length patches) patches area)
    (λ k has. let is = are.sound k (Contains-permutation sorted found k (IsPermutation-sym found sorted same) (Contains-from_dedup eqb sorted k has)) in
    near_told (length patches) k patches area is.there is.met)
    (λ k has. let is = below_near (length patches) k patches area has in
    Contains-dedup_nat sorted k (Contains-permutation found sorted k same (in_found k is.0 is.1)))
  where
    in_found : (k : ℕ) → k < length patches → meets (patch_at patches k) area ≡ true → Contains found k
    in_found k there met =
        let seat = held.slots_are.each k (omega (arith, there, held.long)) in
        let within : get_or slots k 0 < length numbers = omega (arith, seat.within, held.slots_are.long) in
        subst (λ m. Contains found m) seat.back
        (are.whole (get_or slots k 0) (omega (arith, seat.within, held.long, held.covers_are.room)) within
        (subst (λ m. HasPatch (patch_at covers (block_of slots k)) (patch_at patches m)) (sym seat.back) (held.covers_are.each k there))
        (subst (λ m. IsNear patches area m) (sym seat.back) (record { there = there; met = met })))
