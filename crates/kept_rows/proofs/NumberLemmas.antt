-- For this crate and for the crates above: mixed radix: numbers, their places, and their order.
use Rattle.std.proofs.Common.{◌≡◌, ℕ, ◌+◌, ◌*◌, ◌/◌, ◌%◌, ◌<◌, ◌≤◌, List, [], ◌∷◌, refl, ap, sym, ◌∙◌, arith}
use Rattle.std.proofs.Math.Nat.{mul_comm}
use Rattle.std.proofs.lemmas.Nat.{mul-le, mul-add-lt, div-add-mod', div-mul-add, mod-mul-add, mod_below, div_below}
use Rattle.kept_rows.specs.declared.binding.Variable.{Variable}
use Rattle.kept_rows.specs.Numbers.{size_of, number_of, places_of, ArePlaces}

-- there is a number
pub size-some : (vs : List Variable) → 1 ≤ size_of vs
size-some [] = omega arith
size-some (v ∷ vs) = mul-le 1 1 v.capacity (size_of vs) v.some (size-some vs)

-- the later variables have no more numbers than all
pub later-size : (v : Variable) (vs : List Variable) → size_of vs ≤ size_of (v ∷ vs)
later-size v vs = rw (sym (one-times (size_of vs))) at (mul-le 1 (size_of vs) v.capacity (size_of vs) v.some (omega arith))
  where
    one-times : (n : ℕ) → n ≡ 1 * n
    one-times n = omega arith

-- a place and a number of the later variables
pub number-below : (p k s m : ℕ) → p < m → k < s → p * s + k < m * s
number-below p k s m h l = rw (mul_comm m s) (mul-add-lt p s k m h l)

pub number_of-places_of : (vs : List Variable) (n : ℕ) → n < size_of vs → number_of vs (places_of vs n) ≡ n
number_of-places_of [] n h = omega (arith, h)
number_of-places_of (v ∷ vs) n h =
    ap (λ k. n / size_of vs * size_of vs + k) (number_of-places_of vs (n % size_of vs) (mod_below n (size_of vs) (size-some vs)))
    ∙ div-add-mod' n (size_of vs)

pub places-below : (vs : List Variable) (n : ℕ) → n < size_of vs → ArePlaces vs (places_of vs n)
places-below [] n h = tt
places-below (v ∷ vs) n h = (div_below n (size_of vs) v.capacity (size-some vs) h, places-below vs (n % size_of vs) (mod_below n (size_of vs) (size-some vs)))

pub number_of-below : (vs : List Variable) (ps : List ℕ) → ArePlaces vs ps → number_of vs ps < size_of vs
number_of-below [] [] a = omega arith
number_of-below [] (p ∷ ps) a = absurd a
number_of-below (v ∷ vs) [] a = absurd a
number_of-below (v ∷ vs) (p ∷ ps) a = number-below p (number_of vs ps) (size_of vs) v.capacity a.0 (number_of-below vs ps a.1)

pub places_of-number_of : (vs : List Variable) (ps : List ℕ) → ArePlaces vs ps → places_of vs (number_of vs ps) ≡ ps
places_of-number_of [] [] a = refl
places_of-number_of [] (p ∷ ps) a = absurd a
places_of-number_of (v ∷ vs) [] a = absurd a
places_of-number_of (v ∷ vs) (p ∷ ps) a =
    let below : number_of vs ps < size_of vs = number_of-below vs ps a.1 in
    ap (λ k. k ∷ places_of vs ((p * size_of vs + number_of vs ps) % size_of vs)) (div-mul-add p (size_of vs) (number_of vs ps) below)
    ∙ ap (λ k. p ∷ places_of vs k) (mod-mul-add p (size_of vs) (number_of vs ps) below)
    ∙ ap (λ k. p ∷ k) (places_of-number_of vs ps a.1)
