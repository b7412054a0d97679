-- What a page and a table of pages have after a set is pushed or written.
use Rattle.std.proofs.Common.{◌≡◌, ℕ, zero, suc, ◌/◌, ◌%◌, ◌<◌, Bool, true, false, eqb, List, [], ◌∷◌, ◌++◌, length, set, get_or, refl, ap, sym, ◌∙◌, inl, inr, arith, if◌then◌else◌}
use Rattle.std.proofs.lemmas.Bool.{both_ways, cases_eq, eq-eqb, ne_eqb}
use Rattle.std.proofs.lemmas.Bool.Decides.{nat_tests}
use Rattle.kept_rows.specs.Rows.{page_has, page_of, row_has, is_made, is_whole}
use Rattle.exact.proofs.Naturals.{eqb-suc}

-- one more set without ticks
pub page_has-push : {S : Type 0} (member : S → ℕ → Bool) (xs : List S) (x : S) →
    ((i t : ℕ) → page_has member xs i t ≡ false) → ((t : ℕ) → member x t ≡ false) →
    (i t : ℕ) → page_has member (xs ++ x ∷ []) i t ≡ false
page_has-push member [] x none empty zero t = empty t
page_has-push member [] x none empty (suc i) t = refl
page_has-push member (y ∷ ys) x none empty zero t = none zero t
page_has-push member (y ∷ ys) x none empty (suc i) t = page_has-push member ys x (λ j. none (suc j)) empty i t

eqb-first : (a : ℕ) → eqb zero (suc a) ≡ false
eqb-first a = grind (arith, nat_tests)

eqb-later : (a : ℕ) → eqb (suc a) zero ≡ false
eqb-later a = grind (arith, nat_tests)

-- a set is written
pub page_has-set : {S : Type 0} (member : S → ℕ → Bool) (xs : List S) (at : ℕ) (x : S) → at < length xs →
    (i t : ℕ) → page_has member (set xs at x) i t ≡ (if eqb i at then member x t else page_has member xs i t)
page_has-set member [] at x h i t = absurd (omega (arith, h))
page_has-set member (y ∷ ys) zero x h zero t = refl
page_has-set member (y ∷ ys) zero x h (suc i) t = ap (λ b. if b then member x t else page_has member ys i t) (sym (eqb-later i))
page_has-set member (y ∷ ys) (suc at) x h zero t = ap (λ b. if b then member x t else member y t) (sym (eqb-first at))
page_has-set member (y ∷ ys) (suc at) x h (suc i) t =
    page_has-set member ys at x (omega (arith, h)) i t ∙ ap (λ b. if b then member x t else page_has member ys i t) (sym (eqb-suc i at))

-- a page is written
page_of-set : {S : Type 0} (pages : List (List S)) (at i : ℕ) (page : List S) → at < length pages →
    get_or (set pages at page) i [] ≡ (if eqb i at then page else get_or pages i [])
page_of-set [] at i page h = absurd (omega (arith, h))
page_of-set (y ∷ ys) zero zero page h = refl
page_of-set (y ∷ ys) zero (suc i) page h = ap (λ b. if b then page else get_or ys i []) (sym (eqb-later i))
page_of-set (y ∷ ys) (suc at) zero page h = ap (λ b. if b then page else y) (sym (eqb-first at))
page_of-set (y ∷ ys) (suc at) (suc i) page h =
    page_of-set ys at i page (omega (arith, h)) ∙ ap (λ b. if b then page else get_or ys i []) (sym (eqb-suc i at))

same_number : (c n : ℕ) → c / 16 ≡ n / 16 → eqb (c % 16) (n % 16) ≡ eqb c n
same_number c n e =
    elim (cases_eq c n) [
      | inl same ↦ eq-eqb (c % 16) (n % 16) (ap (λ k. k % 16) same) ∙ sym (eq-eqb c n same)
      | inr other ↦ ne_eqb (c % 16) (n % 16) (λ h. other (omega (arith, e, h))) ∙ sym (ne_eqb c n other)
    ]

row_has-set : {S : Type 0} (member : S → ℕ → Bool) (pages : List (List S)) (n : ℕ) (page : List S) (x : S) → n / 16 < length pages →
    ((i t : ℕ) → page_has member page i t ≡ (if eqb i (n % 16) then member x t else page_has member (page_of pages n) i t)) →
    (c t : ℕ) → row_has member (set pages (n / 16) page) c t ≡ (if eqb c n then member x t else row_has member pages c t)
row_has-set member pages n page x there has c t =
    ap (λ p. page_has member p (c % 16) t) (page_of-set pages (n / 16) (c / 16) page there)
    ∙ elim (cases_eq (c / 16) (n / 16)) [
      | inl same ↦
          ap (λ b. page_has member (if b then page else page_of pages c) (c % 16) t) (eq-eqb (c / 16) (n / 16) same)
          ∙ has (c % 16) t
          ∙ ap (λ b. if b then member x t else page_has member (page_of pages n) (c % 16) t) (same_number c n same)
          ∙ ap (λ k. if eqb c n then member x t else page_has member (get_or pages k []) (c % 16) t) (sym same)
      | inr other ↦
          ap (λ b. page_has member (if b then page else page_of pages c) (c % 16) t) (ne_eqb (c / 16) (n / 16) other)
          ∙ ap (λ b. if b then member x t else row_has member pages c t) (sym (ne_eqb c n (λ e. other (ap (λ k. k / 16) e))))
    ]

-- a set is written into the page of its number
pub row_has-put : {S : Type 0} (member : S → ℕ → Bool) (pages : List (List S)) (n : ℕ) (page old : List S) (x : S) → n / 16 < length pages →
    old ≡ page_of pages n → ((i t : ℕ) → page_has member page i t ≡ (if eqb i (n % 16) then member x t else page_has member old i t)) →
    (c t : ℕ) → row_has member (set pages (n / 16) page) c t ≡ (if eqb c n then member x t else row_has member pages c t)
row_has-put member pages n page old x there is has =
    row_has-set member pages n page x there
    (λ i t. has i t ∙ ap (λ xs. if eqb i (n % 16) then member x t else page_has member xs i t) is)

-- numbers of two pages are two numbers
pub other_page : (c n : ℕ) → eqb (c / 16) (n / 16) ≡ false → eqb c n ≡ false
other_page c n other = ne_eqb c n (λ e. both_ways (eqb (c / 16) (n / 16)) other (eq-eqb (c / 16) (n / 16) (ap (λ k. k / 16) e)))

-- a made page stays made
if_both : (b : Bool) (x y : Bool) → x ≡ true → y ≡ true → (if b then x else y) ≡ true
if_both true x y p q = p
if_both false x y p q = q

whole_of : {S : Type 0} (b : Bool) (page other : List S) → is_whole page ≡ true → is_whole other ≡ true → is_whole (if b then page else other) ≡ true
whole_of true page other p q = p
whole_of false page other p q = q

pub is_made-set : {S : Type 0} (pages : List (List S)) (n : ℕ) (page : List S) → n / 16 < length pages → is_whole page ≡ true →
    (c : ℕ) → is_made pages c ≡ true → is_made (set pages (n / 16) page) c ≡ true
is_made-set pages n page there whole c made =
    ap is_whole (page_of-set pages (n / 16) (c / 16) page there) ∙ whole_of (eqb (c / 16) (n / 16)) page (page_of pages c) whole made
