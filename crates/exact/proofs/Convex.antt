-- For this crate and for the crates above: what falls or rises from each number to the next does so over whole
-- ranges.
use Rattle.std.proofs.Common.{◌≡◌, ℕ, suc, zero, ◌≤◌, ◌<◌, ⊎_elim, ℤ, ◌≤ℤ◌, ◌<ℤ◌, subst, ap, add-one, arith}
use Rattle.std.proofs.lemmas.Int.{ints}
use Rattle.std.proofs.lemmas.Bool.{cases_lt}
use Rattle.exact.specs.Rising.{FallsTo, DropsTo, RisesIn}

at_most_itself : (f : ℕ → ℤ) (i j : ℕ) → i ≡ j → f j ≤ℤ f i
at_most_itself f i j e = let P : ℕ → Type 0 = λ k. f k ≤ℤ f i in subst P e (omega (arith, ints))

pub falls : (f : ℕ → ℤ) (n : ℕ) → FallsTo f n → (i j : ℕ) → i ≤ j → j ≤ n → f j ≤ℤ f i
falls f n h i zero p q = at_most_itself f i zero (omega arith)
falls f n h i (suc j) p q =
    let next = ap f (add-one j) in
    ⊎_elim
    (λ (l : i < suc j). let rest = falls f n h i j (omega arith) (omega arith) in let step = h j (omega arith) in omega (arith, ints))
    (λ (l : suc j ≤ i). at_most_itself f i (suc j) (omega arith))
    (cases_lt i (suc j))

pub rises : (f : ℕ → ℤ) (m n : ℕ) → RisesIn f m n → (i j : ℕ) → m ≤ i → i ≤ j → j ≤ n → f i ≤ℤ f j
rises f m n h i zero l p q = at_most_itself f zero i (omega arith)
rises f m n h i (suc j) l p q =
    let next = ap f (add-one j) in
    ⊎_elim
    (λ (k : i < suc j). let rest = rises f m n h i j l (omega arith) (omega arith) in let step = h j (omega arith) (omega arith) in omega (arith, ints))
    (λ (k : suc j ≤ i). at_most_itself f (suc j) i (omega arith))
    (cases_lt i (suc j))

pub FallsTo-drops : (f : ℕ → ℤ) (n : ℕ) → DropsTo f n → FallsTo f n
FallsTo-drops f n h k l = let step = h k l in omega (arith, ints)

pub drops : (f : ℕ → ℤ) (n : ℕ) → DropsTo f n → (i j : ℕ) → i < j → j ≤ n → f j <ℤ f i
drops f n h i zero p q = absurd (omega arith)
drops f n h i (suc j) p q =
    let next = ap f (add-one j) in
    let rest = falls f n (FallsTo-drops f n h) i j (omega arith) (omega arith) in
    let step = h j (omega arith) in
    omega (arith, ints)

-- what falls to v and rises from there is least at v
pub least : (f : ℕ → ℤ) (v n : ℕ) → FallsTo f v → RisesIn f v n → (k : ℕ) → k ≤ n → f v ≤ℤ f k
least f v n h g k l =
    ⊎_elim
    (λ (m : k < v). falls f v h k v (omega arith) (omega arith))
    (λ (m : v ≤ k). rises f v n g v k (omega arith) m l)
    (cases_lt k v)
