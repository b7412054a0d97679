-- The walk over the numbers that were found: what is left without the ticks of their rows.
use Rattle.std.proofs.Common.{◌≡◌, ℕ, ◌<◌, ◌≤◌, Bool, true, false, not, ◌&&◌, ◌||◌, eqb, List, [], ◌∷◌, length, refl, ap, sym, ◌∙◌, inl, inr, arith}
use Rattle.std.proofs.lemmas.Bool.{and_parts, both_ways, eqb-true, false_from_ne_true, or_cases}
use Rattle.tick_set.specs.TickList.{has}
use Rattle.tick_set.proofs.Between.{any_between_at, any_between_found}
use Rattle.kept_rows.specs.Listing.{some_row}
use Rattle.kept_rows.specs.declared.change.Change.{Change}
use Rattle.kept_rows.specs.Moves.{is_in, others}
use Rattle.kept_rows.specs.Near.{AreFoundNumbers}

-- the rows of the numbers that are not among the rest have no tick that is left
pub record IsLeftBy (rows : ℕ → ℕ → Bool) (from to : ℕ) (numbers rest : List ℕ) (changed left : ℕ → Bool) : Type 0 where
  pub same : (t : ℕ) → (left t && not (some_row rows from to t)) ≡ (changed t && not (some_row rows from to t))
  pub less : (t : ℕ) → left t ≡ true → changed t ≡ true
  pub ahead : (c t : ℕ) → from ≤ c → c < to → has numbers c ≡ true → left t ≡ true → rows c t ≡ true → has rest c ≡ true

pub left-first : (rows : ℕ → ℕ → Bool) (from to : ℕ) (numbers : List ℕ) (changed : ℕ → Bool) → IsLeftBy rows from to numbers numbers changed changed
left-first rows from to numbers changed = record { same = λ t. refl; less = λ t e. e; ahead = λ c t h k e f g. e }

-- ---- one number more
later-has : (rest later : List ℕ) (number c : ℕ) → rest ≡ number ∷ later → eqb number c ≡ false → has rest c ≡ true → has later c ≡ true
later-has rest later number c is other e =
    elim (or_cases (eqb number c) (has later c) (ap (λ xs. has xs c) (sym is) ∙ e)) [
      | inl f ↦ absurd (both_ways (eqb number c) other f)
      | inr f ↦ f
    ]

taken-same : (left x s : Bool) → (x ≡ true → s ≡ true) → ((left && not x) && not s) ≡ (left && not s)
taken-same false x s up = refl
taken-same true false s up = refl
taken-same true true true up = refl
taken-same true true false up = absurd (both_ways false refl (up refl))

and-left : (a x : Bool) → (a && not x) ≡ true → a ≡ true
and-left true x e = refl
and-left false x e = e

and-right : (a x : Bool) → (a && not x) ≡ true → x ≡ false
and-right true true e = sym e
and-right true false e = refl
and-right false true e = sym e
and-right false false e = refl

module _ (rows : ℕ → ℕ → Bool) (from to number : ℕ) (numbers rest later : List ℕ) (changed left : ℕ → Bool) (is : rest ≡ number ∷ later) (before : IsLeftBy rows from to numbers rest changed left) where
  pub left-taken : (new : ℕ → Bool) → from ≤ number → number < to → ((t : ℕ) → new t ≡ (left t && not (rows number t))) → IsLeftBy rows from to numbers later changed new
  left-taken new h k made = record {
    same = λ t.
        ap (λ b. b && not (some_row rows from to t)) (made t)
        ∙ taken-same (left t) (rows number t) (some_row rows from to t) (λ e. any_between_at (λ c. rows c t) from to number h k e)
        ∙ before.same t;
    less = λ t e. before.less t (and-left (left t) (rows number t) (sym (made t) ∙ e));
    ahead = λ c t l m f e g.
        let was : left t ≡ true = and-left (left t) (rows number t) (sym (made t) ∙ e) in
        let gone : rows number t ≡ false = and-right (left t) (rows number t) (sym (made t) ∙ e) in
        later-has rest later number c is
        (false_from_ne_true (eqb number c) (λ own. both_ways (rows c t) (ap (λ n. rows n t) (sym (eqb-true number c own)) ∙ gone) g))
        (before.ahead c t l m f was g);
  }

  pub left-passed : ((c : ℕ) → from ≤ c → c < to → eqb number c ≡ false) → IsLeftBy rows from to numbers later changed left
  left-passed other = record {
    same = before.same;
    less = before.less;
    ahead = λ c t l m f e g. later-has rest later number c is (other c l m) (before.ahead c t l m f e g);
  }

-- ---- the end
end-same : (left changed s : Bool) → (left && not s) ≡ (changed && not s) → (left ≡ true → s ≡ false) → left ≡ (changed && not s)
end-same false changed s same none = same
end-same true changed true same none = absurd (both_ways true (none refl) refl)
end-same true changed false same none = same

none-has : (rest : List ℕ) (c : ℕ) → length rest ≡ 0 → has rest c ≡ false
none-has [] c e = refl
none-has (x ∷ rest) c e = absurd (omega (arith, e))

pub left-last : {S : Type 0} (group : List (Change S)) (rows : ℕ → ℕ → Bool) (from to : ℕ) (numbers rest : List ℕ) (changed left : ℕ → Bool) → length rest ≡ 0 →
    AreFoundNumbers changed rows from to numbers → IsLeftBy (others group rows) from to numbers rest changed left →
    (t : ℕ) → left t ≡ (changed t && not (some_row (others group rows) from to t))
left-last group rows from to numbers rest changed left is found all t =
    end-same (left t) (changed t) (some_row (others group rows) from to t) (all.same t)
    (λ e.
    false_from_ne_true (some_row (others group rows) from to t) (λ f.
    let p = any_between_found (λ c. others group rows c t) from to f in
    let own : rows p.tick t ≡ true = (and_parts (rows p.tick t) (not (is_in group p.tick)) p.passes).0 in
    both_ways (has rest p.tick) (none-has rest p.tick is)
    (all.ahead p.tick t p.from p.below (found p.tick t p.from p.below (all.less t e) own) e p.passes)))
