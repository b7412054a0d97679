-- The rows after changes.
use Rattle.std.proofs.Common.{◌≡◌, ℕ, ◌<◌, Bool, true, false, ◌&&◌, ◌||◌, eqb, List, [], ◌∷◌, ◌++◌, length, refl, ap, sym, ◌∙◌, inl, inr, arith, if◌then◌else◌}
use Rattle.std.specs.Prelude.{All, nat_le}
use Rattle.std.proofs.lemmas.Bool.{cases_eq, eq-eqb, ne_eqb, or_cases, or_left, or_right}
use Rattle.std.proofs.lemmas.List.Elements.{All-head, All-tail, All-weaker}
use Rattle.kept_rows.specs.declared.change.Change.{Change}
use Rattle.kept_rows.specs.Rows.{is_made, is_whole}
use Rattle.kept_rows.specs.Changes.{IsReady, AreReady, rows_after, with_row}

-- rows that are alike are alike after the changes
pub with_row-alike : {S : Type 0} (member : S → ℕ → Bool) (x : Change S) (p q : ℕ → ℕ → Bool) → ((c t : ℕ) → p c t ≡ q c t) →
    (c t : ℕ) → with_row member x p c t ≡ with_row member x q c t
with_row-alike member x p q same c t = ap (λ b. if eqb c x.number then member x.ticks t else b) (same c t)

pub after-alike : {S : Type 0} (member : S → ℕ → Bool) (xs : List (Change S)) (p q : ℕ → ℕ → Bool) → ((c t : ℕ) → p c t ≡ q c t) →
    (c t : ℕ) → rows_after member xs p c t ≡ rows_after member xs q c t
after-alike member [] p q same c t = same c t
after-alike member (x ∷ xs) p q same c t = after-alike member xs (with_row member x p) (with_row member x q) (with_row-alike member x p q same) c t

-- one change more
pub after-push : {S : Type 0} (member : S → ℕ → Bool) (xs : List (Change S)) (x : Change S) (p : ℕ → ℕ → Bool) (c t : ℕ) →
    rows_after member (xs ++ x ∷ []) p c t ≡ with_row member x (rows_after member xs p) c t
after-push member [] x p c t = refl
after-push member (y ∷ ys) x p c t = after-push member ys x (with_row member y p) c t

-- a number above those of the changes keeps its row
pub after-above : {S : Type 0} (member : S → ℕ → Bool) (xs : List (Change S)) (p : ℕ → ℕ → Bool) (n t : ℕ) →
    All (λ (x : Change S). x.number < n) xs → rows_after member xs p n t ≡ p n t
after-above member [] p n t above = refl
after-above {S} member (x ∷ xs) p n t above =
    let here : x.number < n = All-head (λ (x : Change S). x.number < n) x xs above in
    after-above member xs (with_row member x p) n t (All-tail (λ (x : Change S). x.number < n) x xs above)
    ∙ ap (λ b. if b then member x.ticks t else p n t) (ne_eqb n x.number (λ e. omega (arith, here, e)))

-- a change stays ready where pages stay
pub ready-stays : {S : Type 0} (member : S → ℕ → Bool) (old new : List (List S)) → length new ≡ length old →
    ((c : ℕ) → is_made old c ≡ true → is_made new c ≡ true) → (x : Change S) → IsReady member old x → IsReady member new x
ready-stays member old new len made x r = record {
  there = omega (arith, len, r.there);
  page = elim (or_cases (is_made old x.number) (is_whole x.spare) r.page) [
    | inl e ↦ or_left (is_made new x.number) (is_whole x.spare) (made x.number e)
    | inr e ↦ or_right (is_made new x.number) (is_whole x.spare) e
  ];
  blank = r.blank;
}

pub all-ready-stay : {S : Type 0} (member : S → ℕ → Bool) (old new : List (List S)) → length new ≡ length old →
    ((c : ℕ) → is_made old c ≡ true → is_made new c ≡ true) → (xs : List (Change S)) → AreReady member old xs → AreReady member new xs
all-ready-stay member old new len made xs =
    All-weaker (IsReady member old) (IsReady member new) (ready-stays member old new len made) xs

-- a number above those of the changes has the row that is kept
kept-above : {S : Type 0} (member : S → ℕ → Bool) (xs : List (Change S)) (p : ℕ → ℕ → Bool) (n c t : ℕ) → c ≡ n →
    All (λ (x : Change S). x.number < n) xs → rows_after member xs p c t ≡ p n t
kept-above member xs p n c t e above = ap (λ k. rows_after member xs p k t) e ∙ after-above member xs p n t above

-- the same ticks from a tick on, and the row that is kept
pub row-noted : {S : Type 0} (member : S → ℕ → Bool) (xs : List (Change S)) (p : ℕ → ℕ → Bool) (n from : ℕ) (ticks : ℕ → Bool) →
    All (λ (x : Change S). x.number < n) xs → ((t : ℕ) → (if nat_le from t then ticks t else p n t) ≡ p n t) →
    (c t : ℕ) → rows_after member xs p c t ≡ (if eqb c n && nat_le from t then ticks t else rows_after member xs p c t)
row-noted member xs p n from ticks above same c t =
    elim (cases_eq c n) [
      | inl e ↦
          kept-above member xs p n c t e above ∙ sym (same t)
          ∙ ap (λ b. if nat_le from t then ticks t else b) (sym (kept-above member xs p n c t e above))
          ∙ ap (λ b. if b && nat_le from t then ticks t else rows_after member xs p c t) (sym (eq-eqb c n e))
      | inr other ↦ ap (λ b. if b && nat_le from t then ticks t else rows_after member xs p c t) (sym (ne_eqb c n other))
    ]

-- a row that has other ticks from a tick on
pub row-added : {S : Type 0} (member : S → ℕ → Bool) (xs : List (Change S)) (p : ℕ → ℕ → Bool) (n from : ℕ) (ticks other : ℕ → Bool) →
    All (λ (x : Change S). x.number < n) xs → ((t : ℕ) → other t ≡ (if nat_le from t then ticks t else p n t)) → (c t : ℕ) →
    (if eqb c n then other t else rows_after member xs p c t) ≡ (if eqb c n && nat_le from t then ticks t else rows_after member xs p c t)
row-added member xs p n from ticks other above is c t =
    elim (cases_eq c n) [
      | inl e ↦
          ap (λ b. if b then other t else rows_after member xs p c t) (eq-eqb c n e) ∙ is t
          ∙ ap (λ b. if nat_le from t then ticks t else b) (sym (kept-above member xs p n c t e above))
          ∙ ap (λ b. if b && nat_le from t then ticks t else rows_after member xs p c t) (sym (eq-eqb c n e))
      | inr apart ↦
          ap (λ b. if b then other t else rows_after member xs p c t) (ne_eqb c n apart)
          ∙ ap (λ b. if b && nat_le from t then ticks t else rows_after member xs p c t) (sym (ne_eqb c n apart))
    ]

-- the numbers that are left, after one of them is noted, at a tick that is judged or not
pub rest-noted : (n c : ℕ) (left judged anew noted old : Bool) → (c ≡ n → noted ≡ anew) →
    (if left && judged then anew else (if eqb c n && judged then noted else old)) ≡ (if (eqb n c || left) && judged then anew else old)
rest-noted n c left judged anew noted old same =
    elim (cases_eq c n) [
      | inl e ↦ rw (eq-eqb c n e, eq-eqb n c (sym e)) (if-alike left judged anew noted old (same e))
      | inr apart ↦ rw (ne_eqb c n apart, ne_eqb n c (λ e. apart (sym e))) refl
    ]
  where
    if-alike : (b j x y o : Bool) → y ≡ x → (if b && j then x else (if j then y else o)) ≡ (if j then x else o)
    if-alike true true x y o e = refl
    if-alike true false x y o e = refl
    if-alike false true x y o e = e
    if-alike false false x y o e = refl
