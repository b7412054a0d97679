-- In rows that are apart, what is looked up is the row itself.
use Rattle.std.proofs.Common.{◌≡◌, ℕ, ◌<◌, ◌∷◌, [], ◌++◌, ◌⊎◌, ◌&&◌, inl, inr, List, Bool, true, false, IsTrue, Contains, Some, None, is_none, is_some, ◌↔◌, eqb, refl, sym, ◌∙◌, ap, Option, Bor, arith}
use Rattle.std.specs.Prelude.{bytes_eq, option_map, option_copied, find}
use Rattle.std.proofs.lemmas.List.Elements.{Contains-append_right, Contains-append_cases, Contains-push_cases}
use Rattle.std.proofs.lemmas.Bool.{cases_Bool, and_parts, and_from}
use Rattle.std.proofs.lemmas.Bool.Decides.{Decides-eqb}
use Rattle.std.proofs.lemmas.Slice.Eq.{bytes_eq-Decides}
use Rattle.case_table.specs.Rows.{code_of, word_of, are_distinct_rows}
use Rattle.exact.proofs.Items.{bytes_differ_swap}
use Rattle.exact.proofs.Lists.{bytes_eq_refl}

here : {X : Type 0} (x y : X) (xs : List X) → x ≡ y → Contains (x ∷ xs) y
here x y xs e = (0, omega arith, e)

there : {X : Type 0} (x y : X) (xs : List X) → Contains xs y → Contains (x ∷ xs) y
there x y xs h = Contains-append_right (x ∷ []) xs y h

none_at_none : {X : Type 0} (y : X) → Contains [] y → ⊥
none_at_none y h = let bad : h.0 < 0 = h.1 in absurd (omega arith)

first_or_later : {X : Type 0} (x y : X) (xs : List X) → Contains (x ∷ xs) y → (x ≡ y) ⊎ Contains xs y
first_or_later x y xs h =
    elim (Contains-append_cases (x ∷ []) xs y h) [
      | inl first ↦ elim (Contains-push_cases [] x y first) [ inl none ↦ absurd (none_at_none y none) | inr e ↦ inl e ]
      | inr later ↦ inr later
    ]

eqb_same : (n : ℕ) → eqb n n ≡ true
eqb_same n = (Decides-eqb n n).1 refl

-- with None where something is found
none_is_not_some : {X : Type 0} (o : Option X) (x : X) → is_none o ≡ true → o ≡ Some x → ⊥
none_is_not_some o x n e = let bad : true ≡ false = sym n ∙ ap is_none e in cc

-- ---- the code of a word

pub code_of_finds : (rows : List (List ℕ × ℕ)) (word : List ℕ) (code : ℕ) → code_of rows word ≡ Some code → Contains rows (word, code)
code_of_finds [] word code h = let bad : None ≡ Some code = h in cc
code_of_finds (r ∷ rows) word code h =
    elim (cases_Bool (bytes_eq r.0 word)) [
      | inl same ↦
          let found : Some r.1 ≡ Some code = rw same at h in
          let the_code : r.1 ≡ code = cc in
          let the_word : r.0 ≡ word = (bytes_eq-Decides r.0 word).0 same in
          here r (word, code) rows (λ i. (the_word i, the_code i))
      | inr other ↦ there r (word, code) rows (code_of_finds rows word code (rw other at h))
    ]

pub code_of_found : (rows : List (List ℕ × ℕ)) (word : List ℕ) (code : ℕ) → IsTrue (are_distinct_rows rows) → Contains rows (word, code) → code_of rows word ≡ Some code
code_of_found [] word code a h = absurd (none_at_none (word, code) h)
code_of_found (r ∷ rows) word code a h =
    let parts = and_parts (is_none (code_of rows r.0) && is_none (word_of rows r.1)) (are_distinct_rows rows) a in
    let front = and_parts (is_none (code_of rows r.0)) (is_none (word_of rows r.1)) parts.0 in
    elim (first_or_later r (word, code) rows h) [
      | inl e ↦ rw (e, bytes_eq_refl word) refl
      | inr later ↦
          let found = code_of_found rows word code parts.1 later in
          elim (cases_Bool (bytes_eq r.0 word)) [
            | inl same ↦
                let the_word : r.0 ≡ word = (bytes_eq-Decides r.0 word).0 same in
                absurd (none_is_not_some (code_of rows r.0) code front.0 (rw the_word found))
            | inr other ↦ rw other found
          ]
    ]

pub code_of_row : (rows : List (List ℕ × ℕ)) (word : List ℕ) (code : ℕ) → IsTrue (are_distinct_rows rows) → (code_of rows word ≡ Some code) ↔ Contains rows (word, code)
code_of_row rows word code h = (code_of_finds rows word code, code_of_found rows word code h)

-- ---- the word of a code

pub word_of_finds : (rows : List (List ℕ × ℕ)) (word : List ℕ) (code : ℕ) → word_of rows code ≡ Some word → Contains rows (word, code)
word_of_finds [] word code h = let bad : None ≡ Some word = h in cc
word_of_finds (r ∷ rows) word code h =
    elim (cases_Bool (eqb r.1 code)) [
      | inl same ↦
          let found : Some r.0 ≡ Some word = rw same at h in
          let the_word : r.0 ≡ word = cc in
          let the_code : r.1 ≡ code = (Decides-eqb r.1 code).0 same in
          here r (word, code) rows (λ i. (the_word i, the_code i))
      | inr other ↦ there r (word, code) rows (word_of_finds rows word code (rw other at h))
    ]

pub word_of_found : (rows : List (List ℕ × ℕ)) (word : List ℕ) (code : ℕ) → IsTrue (are_distinct_rows rows) → Contains rows (word, code) → word_of rows code ≡ Some word
word_of_found [] word code a h = absurd (none_at_none (word, code) h)
word_of_found (r ∷ rows) word code a h =
    let parts = and_parts (is_none (code_of rows r.0) && is_none (word_of rows r.1)) (are_distinct_rows rows) a in
    let front = and_parts (is_none (code_of rows r.0)) (is_none (word_of rows r.1)) parts.0 in
    elim (first_or_later r (word, code) rows h) [
      | inl e ↦ rw (e, eqb_same code) refl
      | inr later ↦
          let found = word_of_found rows word code parts.1 later in
          elim (cases_Bool (eqb r.1 code)) [
            | inl same ↦
                let the_code : r.1 ≡ code = (Decides-eqb r.1 code).0 same in
                absurd (none_is_not_some (word_of rows r.1) word front.1 (rw the_code found))
            | inr other ↦ rw other found
          ]
    ]

pub word_of_row : (rows : List (List ℕ × ℕ)) (word : List ℕ) (code : ℕ) → IsTrue (are_distinct_rows rows) → (word_of rows code ≡ Some word) ↔ Contains rows (word, code)
word_of_row rows word code h = (word_of_finds rows word code, word_of_found rows word code h)

-- ---- one more row

-- what the last element does not pass is found no more than before
none_after : {X Y : Type 0} (f : X → Y) (p : X → Bool) (xs : List X) (x : X) → is_none (option_map f (find p xs)) ≡ true → p x ≡ false → is_none (option_map f (find p (xs ++ x ∷ []))) ≡ true
none_after f p [] x n h = rw h refl
none_after f p (y ∷ xs) x n h =
    elim (cases_Bool (p y)) [
      | inl passes ↦ let bad : false ≡ true = rw passes at n in cc
      | inr fails ↦ rw fails (none_after f p xs x (rw fails at n) h)
    ]

-- where nothing is found, the first element does not pass, nor any later one
first_fails : {X Y : Type 0} (f : X → Y) (p : X → Bool) (x : X) (xs : List X) → is_none (option_map f (find p (x ∷ xs))) ≡ true → (p x ≡ false) × (is_none (option_map f (find p xs)) ≡ true)
first_fails f p x xs n =
    elim (cases_Bool (p x)) [
      | inl passes ↦ let bad : false ≡ true = rw passes at n in cc
      | inr fails ↦ (fails, rw fails at n)
    ]

eqb-swap : (x y : ℕ) → eqb x y ≡ false → eqb y x ≡ false
eqb-swap x y h =
    elim (cases_Bool (eqb y x)) [
      | inl same ↦
          let e : x ≡ y = sym ((Decides-eqb y x).0 same) in
          let bad : true ≡ false = sym ((Decides-eqb x y).1 e) ∙ h in
          cc
      | inr other ↦ other
    ]

pub apart_push : (rows : List (List ℕ × ℕ)) (code : ℕ) (word : List ℕ) → IsTrue (are_distinct_rows rows) → is_none (code_of rows word) ≡ true → is_none (word_of rows code) ≡ true → IsTrue (are_distinct_rows (rows ++ (word, code) ∷ []))
apart_push [] code word h w c = refl
apart_push (r ∷ rows) code word h w c =
    let parts = and_parts (is_none (code_of rows r.0) && is_none (word_of rows r.1)) (are_distinct_rows rows) h in
    let front = and_parts (is_none (code_of rows r.0)) (is_none (word_of rows r.1)) parts.0 in
    let other_word = first_fails (λ (s : List ℕ × ℕ). s.1) (λ s. bytes_eq s.0 word) r rows w in
    let other_code = first_fails (λ (s : List ℕ × ℕ). s.0) (λ s. eqb s.1 code) r rows c in
    let no_word = none_after (λ (s : List ℕ × ℕ). s.1) (λ s. bytes_eq s.0 r.0) rows (word, code) front.0 (bytes_differ_swap r.0 word other_word.0) in
    let no_code = none_after (λ (s : List ℕ × ℕ). s.0) (λ s. eqb s.1 r.1) rows (word, code) front.1 (eqb-swap r.1 code other_code.0) in
    and_from (is_none (code_of (rows ++ (word, code) ∷ []) r.0) && is_none (word_of (rows ++ (word, code) ∷ []) r.1)) (are_distinct_rows (rows ++ (word, code) ∷ []))
    (and_from (is_none (code_of (rows ++ (word, code) ∷ []) r.0)) (is_none (word_of (rows ++ (word, code) ∷ []) r.1)) no_word no_code)
    (apart_push rows code word parts.1 other_word.1 other_code.1)

pub none_from_not_some : {X : Type 0} (o : Option X) → false ≡ is_some o → is_none o ≡ true
none_from_not_some None h = refl
none_from_not_some (Some x) h = cc

pub none_from_copied : {X : Type 0} (o : Option (Bor X)) (p : Option X) → option_copied o ≡ p → false ≡ is_some o → is_none p ≡ true
none_from_copied None p e h = rw (← e) refl
none_from_copied (Some x) p e h = cc
