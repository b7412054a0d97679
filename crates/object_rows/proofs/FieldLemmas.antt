-- The fields of a row by their places, and lists that grow at their end.
use Rattle.std.proofs.Common.{◌≡◌, ℕ, zero, suc, ◌+◌, ◌<◌, ◌≤◌, ◌∙◌, Option, Some, None, List, [], ◌∷◌, ◌++◌, length, take, drop, refl, ap, sym, subst, arith, append_assoc, append-nil, add-one, get_or, is_some, true}
use Rattle.std.proofs.lemmas.List.{drop_more}
use Rattle.std.specs.Option.{option_map}
use Rattle.csv.specs.Records.{field_at}
use Rattle.exact.specs.Options.{◌>>=◌}

-- ---- The field at a place

taken_after : (fields : List (List ℕ)) (i : ℕ) (field : List ℕ) → Some field ≡ field_at fields i → take (suc i) fields ≡ take i fields ++ field ∷ []
unfolding field_at
taken_after [] i field h = absurd (cc h)
taken_after (f ∷ fs) zero field h = let same : f ≡ field = cc h in ap (λ g. g ∷ []) same
taken_after (f ∷ fs) (suc i) field h = ap (λ gs. f ∷ gs) (taken_after fs i field h)

pub field_taken : (fields : List (List ℕ)) (i : ℕ) (field : List ℕ) → Some field ≡ field_at fields i → take (i + 1) fields ≡ take i fields ++ field ∷ []
field_taken fields i field h = subst (λ (j : ℕ). take j fields ≡ take i fields ++ field ∷ []) (sym (add-one i)) (taken_after fields i field h)

left_after : (fields : List (List ℕ)) (i : ℕ) (field : List ℕ) → Some field ≡ field_at fields i → drop i fields ≡ field ∷ drop (suc i) fields
unfolding field_at
left_after [] i field h = absurd (cc h)
left_after (f ∷ fs) zero field h = let same : f ≡ field = cc h in ap (λ g. g ∷ fs) same
left_after (f ∷ fs) (suc i) field h = left_after fs i field h

pub field_left : (fields : List (List ℕ)) (i : ℕ) (field : List ℕ) → Some field ≡ field_at fields i → drop i fields ≡ field ∷ drop (i + 1) fields
field_left fields i field h = subst (λ (j : ℕ). drop i fields ≡ field ∷ drop j fields) (sym (add-one i)) (left_after fields i field h)

pub field_past : (fields : List (List ℕ)) (i : ℕ) → None ≡ field_at fields i → length fields ≤ i
unfolding field_at
field_past [] i h = omega arith
field_past (f ∷ fs) zero h = absurd (cc h)
field_past (f ∷ fs) (suc i) h = omega (arith, field_past fs i h)

pub field_within : (fields : List (List ℕ)) (i : ℕ) (field : List ℕ) → Some field ≡ field_at fields i → i < length fields
unfolding field_at
field_within [] i field h = absurd (cc h)
field_within (f ∷ fs) zero field h = omega arith
field_within (f ∷ fs) (suc i) field h = omega (arith, field_within fs i field h)

pub field_there : (fields : List (List ℕ)) (i : ℕ) → i < length fields → is_some (field_at fields i) ≡ true
unfolding field_at
field_there [] i within = absurd (omega (arith, within))
field_there (f ∷ fs) zero within = refl
field_there (f ∷ fs) (suc i) within = field_there fs i (omega (arith, within))

pub ruleset field_steps = (field_taken, field_past, field_there)

-- ---- The item at a place and those after it

pub drop_at : {A : Type 0} → (xs : List A) (i : ℕ) (x : A) → x ≡ get_or xs i x → i < length xs → drop i xs ≡ x ∷ drop (i + 1) xs
drop_at xs i x is within = drop_more xs i x within ∙ ap (λ y. y ∷ drop (i + 1) xs) (sym is)

-- ---- Lists that are made item by item

-- one more item, where the later ones may not be there
pub one_more : {A : Type 0} → (made : List A) (item : A) (later : Option (List A))
    → option_map (λ (rest : List A). made ++ rest) (later >>= (λ rest. Some (item ∷ rest))) ≡ option_map (λ (rest : List A). (made ++ item ∷ []) ++ rest) later
one_more made item None = refl
one_more made item (Some rest) = ap Some (sym (append_assoc made (item ∷ []) rest))

pub none_left : {A : Type 0} → (made : List A) → option_map (λ (rest : List A). made ++ rest) (Some []) ≡ Some made
none_left made = ap Some (append-nil made)

pub none_made : {A : Type 0} → (later : Option (List A)) → later ≡ option_map (λ (rest : List A). [] ++ rest) later
none_made None = refl
none_made (Some rest) = refl
