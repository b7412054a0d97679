-- Ascending numbers.
use Rattle.std.proofs.Common.{ℕ, zero, suc, ◌+◌, ◌^◌, ◌<◌, ◌≤◌, List, [], ◌∷◌, ◌++◌, map, arith}
use Rattle.std.specs.Prelude.{All}
use Rattle.std.proofs.lemmas.List.Elements.{All-nil, All-cons}
use Rattle.kept_rows.specs.declared.change.Change.{Change}
use Rattle.kept_rows.specs.Rising.{AscendsWithin}

pub rising-wider : (f f' t t' : ℕ) (xs : List ℕ) → f' ≤ f → t ≤ t' → AscendsWithin f t xs → AscendsWithin f' t' xs
rising-wider f f' t t' [] h k r = tt
rising-wider f f' t t' (x ∷ xs) h k r = (omega (arith, h, r.0), omega (arith, k, r.1), rising-wider (x + 1) (x + 1) t t' xs (omega arith) k r.2)

pub rising-append : (f m t : ℕ) (xs ys : List ℕ) → f ≤ m → m ≤ t → AscendsWithin f m xs → AscendsWithin m t ys → AscendsWithin f t (xs ++ ys)
rising-append f m t [] ys h k r s = rising-wider m f t t ys h (omega arith) s
rising-append f m t (x ∷ xs) ys h k r s = (r.0, omega (arith, k, r.1), rising-append (x + 1) m t xs ys (omega (arith, r.1)) k r.2 s)

pub rising-shift : (b from to f t : ℕ) (xs : List ℕ) → f ≤ b + from → b + to ≤ t → AscendsWithin from to xs → AscendsWithin f t (map (λ d. b + d) xs)
rising-shift b from to f t [] h k r = tt
rising-shift b from to f t (x ∷ xs) h k r =
    (omega (arith, h, r.0), omega (arith, k, r.1), rising-shift b (x + 1) to (b + x + 1) t xs (omega arith) k r.2)

pub rising-push : (f n t : ℕ) (xs : List ℕ) → f ≤ n → n < t → AscendsWithin f t xs → All (λ (x : ℕ). x < n) xs → AscendsWithin f t (xs ++ n ∷ [])
rising-push f n t [] h k r a = (h, k, tt)
rising-push f n t (x ∷ xs) h k r a =
    let here : x < n = a zero zero (omega arith) in
    (r.0, r.1, rising-push (x + 1) n t xs (omega (arith, here)) k r.2 (λ i d l. a (suc i) d (omega (arith, l))))

-- each of them is below the end
pub rising-fits : (from to b : ℕ) (xs : List ℕ) → b + to ≤ 1000000 → AscendsWithin from to xs → All (λ (d : ℕ). b + d < 2 ^ 32) xs
rising-fits from to b [] h r = All-nil (λ (d : ℕ). b + d < 2 ^ 32)
rising-fits from to b (x ∷ xs) h r = All-cons (λ (d : ℕ). b + d < 2 ^ 32) x xs (omega (arith, h, r.1)) (rising-fits (x + 1) to b xs h r.2)

-- ---- the numbers of changes
abbrev numbers : {S : Type 0} → List (Change S) → List ℕ
numbers xs = map (λ x. x.number) xs

pub rising-below : {S : Type 0} (f n : ℕ) (xs : List (Change S)) → AscendsWithin f n (numbers xs) → All (λ (x : Change S). x.number < n) xs
rising-below {S} f n [] r = All-nil (λ (x : Change S). x.number < n)
rising-below {S} f n (x ∷ xs) r = All-cons (λ (x : Change S). x.number < n) x xs r.1 (rising-below (x.number + 1) n xs r.2)

pub rising-noted : {S : Type 0} (f : ℕ) (xs : List (Change S)) (x : Change S) → f ≤ x.number → AscendsWithin f x.number (numbers xs) →
    AscendsWithin f (x.number + 1) (numbers (xs ++ x ∷ []))
rising-noted f [] x h r = (h, omega arith, tt)
rising-noted f (y ∷ ys) x h r = (r.0, omega (arith, r.1), rising-noted (y.number + 1) ys x (omega (arith, r.1)) r.2)
