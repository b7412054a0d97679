-- A word is looked up among the rows that begin as it does.
use Rattle.std.proofs.Common.{◌≡◌, ℕ, ◌∷◌, [], inl, inr, List, true, false, eqb, refl, sym, ◌∙◌, ap, Bor, map, filter}
use Rattle.std.specs.Prelude.{bytes_eq, option_map, find, slice_index}
use Rattle.std.proofs.lemmas.Bool.{cases_Bool}
use Rattle.std.proofs.lemmas.Bool.Decides.{Decides-eqb}
use Rattle.std.proofs.lemmas.Slice.Eq.{bytes_eq-Decides}
use Rattle.case_table.specs.Rows.{code_of}

pub find_shown : (rows : List (Bor (List ℕ) × ℕ)) (word : List ℕ) → option_map (λ r. r.1) (find (λ r. bytes_eq r.0.now word) rows) ≡ code_of (map (λ r. (r.0.now, r.1)) rows) word
find_shown [] word = refl
find_shown (r ∷ rows) word =
    elim (cases_Bool (bytes_eq r.0.now word)) [
      | inl same ↦ rw same refl
      | inr other ↦ rw other (find_shown rows word)
    ]

pub code_of_first : (rows : List (List ℕ × ℕ)) (word : List ℕ) → code_of (filter (λ r. eqb (slice_index r.0 0) (slice_index word 0)) rows) word ≡ code_of rows word
code_of_first [] word = refl
code_of_first (r ∷ rows) word =
    elim (cases_Bool (eqb (slice_index r.0 0) (slice_index word 0))) [
      | inl alike ↦
          elim (cases_Bool (bytes_eq r.0 word)) [
            | inl same ↦ rw (alike, same) refl
            | inr other ↦ rw (alike, other) (code_of_first rows word)
          ]
      | inr apart ↦
          elim (cases_Bool (bytes_eq r.0 word)) [
            | inl same ↦
                let e : r.0 ≡ word = (bytes_eq-Decides r.0 word).0 same in
                let alike : eqb (slice_index r.0 0) (slice_index word 0) ≡ true = (Decides-eqb _ _).1 (ap (λ w. slice_index w 0) e) in
                let bad : true ≡ false = sym alike ∙ apart in
                cc
            | inr other ↦ rw (apart, other) (code_of_first rows word)
          ]
    ]
