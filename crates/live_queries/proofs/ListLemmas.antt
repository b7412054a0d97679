-- For this crate and for the crates above: lists of what there is of each number.
use Rattle.std.proofs.Common.{◌≡◌, ℕ, zero, suc, ◌+◌, ◌-◌, ◌<◌, ◌≤◌, Option, None, Some, List, [], ◌∷◌, ◌++◌, length, map, refl, sym, ap, ◌∙◌, subst, arith}
use Rattle.std.proofs.lemmas.List.{append-nil, length-append}
use Rattle.std.specs.Prelude.{All, option_to_list, sum_by}
use Rattle.std.specs.List.{cons_option, filter_map, range_with_len}
use Rattle.std.proofs.lemmas.List.Elements.{All-cons, All-head, All-nil}
use Rattle.std.proofs.lemmas.List.Sums.{sum_by-cons}
use Rattle.tick_set.specs.Ticks.{between}
use Rattle.kept_rows.specs.Listing.{lines_between, lines_upto}

-- what there is of a number has this number
abbrev pub HasItsNumber : {X : Type 0} → (X → ℕ) → (ℕ → Option X) → Type 0
HasItsNumber number line = (n : ℕ) → All (λ x. number x ≡ n) (option_to_list (line n))

more_below : {X : Type 0} (number : X → ℕ) (a top : ℕ) → a < top → (o : Option X) → All (λ x. number x ≡ a) (option_to_list o) →
    (rest : List X) → All (λ x. number x < top) rest → All (λ x. number x < top) (cons_option o rest)
more_below number a top h None own rest below = below
more_below {X} number a top h (Some x) own rest below =
    All-cons (λ (y : X). number y < top) x rest (subst (λ (n : ℕ). n < top) (sym (All-head (λ (y : X). number y ≡ a) x [] own)) h) below

range_below : {X : Type 0} (number : X → ℕ) (line : ℕ → Option X) → HasItsNumber number line → (n a top : ℕ) → a + n ≤ top →
    All (λ x. number x < top) (filter_map line (range_with_len a n))
range_below {X} number line own zero a top h = All-nil (λ (x : X). number x < top)
range_below number line own (suc n) a top h =
    more_below number a top (omega (arith, h)) (line a) (own a) (filter_map line (range_with_len (a + 1) n)) (range_below number line own n (a + 1) top (omega (arith, h)))

pub lines_below : {X : Type 0} (number : X → ℕ) (line : ℕ → Option X) → HasItsNumber number line → (top : ℕ) →
    All (λ x. number x < top) (lines_upto line top)
unfolding lines_between between
lines_below number line own top = range_below number line own (top - 0) 0 top (omega arith)

range_none : {X : Type 0} (line : ℕ → Option X) → ((n : ℕ) → line n ≡ None) → (n a : ℕ) → filter_map line (range_with_len a n) ≡ []
range_none line none zero a = refl
range_none line none (suc n) a =
    subst (λ o. cons_option o (filter_map line (range_with_len (a + 1) n)) ≡ []) (sym (none a)) (range_none line none n (a + 1))

pub lines_none : {X : Type 0} (line : ℕ → Option X) → ((n : ℕ) → line n ≡ None) → (top : ℕ) → lines_upto line top ≡ []
unfolding lines_between between
lines_none line none top = range_none line none (top - 0) 0

-- ---- a list that is made item by item
snoc_append : {A : Type 0} (xs : List A) (y : A) (ys : List A) → (xs ++ y ∷ []) ++ ys ≡ xs ++ y ∷ ys
snoc_append [] y ys = refl
snoc_append (x ∷ xs) y ys = ap (λ rest. x ∷ rest) (snoc_append xs y ys)

pub one_told : {A B : Type 0} (f : A → B) (done made all : List B) (rest later : List A) (x : A) (y : B) →
    made ≡ done ++ y ∷ [] → y ≡ f x → rest ≡ x ∷ later → done ++ map f rest ≡ all → made ++ map f later ≡ all
one_told f done made all rest later x y push same step before =
    ap (λ xs. xs ++ map f later) push
    ∙ snoc_append done y (map f later)
    ∙ ap (λ z. done ++ z ∷ map f later) same
    ∙ ap (λ xs. done ++ map f xs) (sym step)
    ∙ before

pub all_told : {A B : Type 0} (f : A → B) (made all : List B) (rest : List A) → rest ≡ [] → made ++ map f rest ≡ all → made ≡ all
all_told f made all rest none before = sym (append-nil made) ∙ ap (λ xs. made ++ map f xs) (sym none) ∙ before

-- ---- two lists that go with one another, of which the second is made item by item

module _ {A B : Type 0} (P : List A → List B → Type 0) (all : List A) where
  pub pairs_begin : (rest : List A) (made : List B) → rest ≡ all → made ≡ [] → (more : List B) → P rest more → P all (made ++ more)
  pairs_begin rest made e none more is = subst (λ (xs : List A). P xs (made ++ more)) e (subst (λ (ys : List B). P rest (ys ++ more)) (sym none) is)

  pub pairs_go_on : (rest later : List A) (x : A) (made more_made : List B) (y : B) → rest ≡ x ∷ later → more_made ≡ made ++ y ∷ [] →
      ((more : List B) → P later more → P (x ∷ later) (y ∷ more)) → ((more : List B) → P rest more → P all (made ++ more)) →
      (more : List B) → P later more → P all (more_made ++ more)
  pairs_go_on rest later x made more_made y e f step before more is =
      subst (λ (ys : List B). P all (ys ++ more)) (sym f)
      (subst (P all) (sym (snoc_append made y more)) (before (y ∷ more) (subst (λ (xs : List A). P xs (y ∷ more)) (sym e) (step more is))))

  -- as many are made as are no longer to come
  pub counts_go_on : (rest later : List A) (x : A) (made more_made : List B) (y : B) (total : ℕ) → rest ≡ x ∷ later → more_made ≡ made ++ y ∷ [] →
      length made + length rest ≡ total → length more_made + length later ≡ total
  counts_go_on rest later x made more_made y total e f before =
      let fewer : length rest ≡ suc (length later) = ap length e in
      let more : length more_made ≡ length made + 1 = ap length f ∙ length-append made (y ∷ []) in
      omega (arith, fewer, more, before)

  pub pairs_end : (rest : List A) (made : List B) → length rest ≡ 0 → P [] [] → ((more : List B) → P rest more → P all (made ++ more)) → P all made
  pairs_end rest made none is before = subst (P all) (append-nil made) (before [] (at_none rest none))
    where
      at_none : (xs : List A) → length xs ≡ 0 → P xs []
      at_none [] e = is
      at_none (x ∷ xs) e = absurd (omega (arith, e))

-- ---- sums along a list

module _ {A : Type 0} (f : A → ℕ) where
  pub sum_goes_on : (rest later : List A) (x : A) (mid now total : ℕ) → rest ≡ x ∷ later → now ≤ mid + f x → mid + sum_by f rest ≤ total →
      now + sum_by f later ≤ total
  sum_goes_on rest later x mid now total e few most =
      let parted : sum_by f rest ≡ f x + sum_by f later = ap (sum_by f) e ∙ sum_by-cons f x later in omega (arith, parted, few, most)

  pub sum_stops : (rest later : List A) (x : A) (mid now total : ℕ) → rest ≡ x ∷ later → now ≤ mid + f x → mid + sum_by f rest ≤ total → now ≤ total
  sum_stops rest later x mid now total e few most =
      let parted : sum_by f rest ≡ f x + sum_by f later = ap (sum_by f) e ∙ sum_by-cons f x later in omega (arith, parted, few, most)

  pub sum_ends : (rest : List A) (mid total : ℕ) → mid + sum_by f rest ≤ total → mid ≤ total
  sum_ends rest mid total most = omega (arith, most)
