-- Legs in the front of an array.
use Rattle.std.proofs.Common.{◌≡◌, ℕ, ℤ, pos, ◌-◌, ◌<◌, ◌≤◌, List, [], ◌∷◌, ◌++◌, length, take, drop, replicate, ◌∙◌, ap, refl, arith, length-append, length-drop, zero, suc}
use Rattle.std.specs.Prelude.{IsTrue}
use Rattle.std.specs.List.{list_all}
use Rattle.std.proofs.lemmas.List.{drop-replicate, length-replicate}
use Rattle.std.proofs.Math.Seq.{drop-append_seam, take-append_seam, take-length}
use Rattle.motion.specs.Function.{are_firsts, is_length_of, shortened, IsPassed}
use Rattle.motion.specs.Padding.{padded_legs, IsStored}

-- shortening keeps the number of legs
pub length-shortened : (legs : List (ℤ × ℕ)) (passed : ℕ) → length (shortened legs passed) ≡ length legs
length-shortened [] passed = refl
length-shortened (leg ∷ legs) passed = refl

-- legs that a function may have are at most seven
pub few_firsts : (firsts : List (ℤ × ℕ)) → IsTrue (are_firsts firsts) → length firsts ≤ 7
few_firsts firsts legs = grind arith

pub take_padded : (firsts : List (ℤ × ℕ)) → take (length firsts) (padded_legs firsts) ≡ firsts
take_padded firsts = take-append_seam firsts _

-- legs over an array of unused places
pub over_unused : (firsts unused : List (ℤ × ℕ)) → unused ≡ replicate 7 (pos 0, 0) → firsts ++ drop (length firsts) unused ≡ padded_legs firsts
over_unused firsts unused are = ap (λ places. firsts ++ places) (ap (drop (length firsts)) are ∙ drop-replicate (length firsts) 7 (pos 0, 0))

pub padded_is_stored : (firsts : List (ℤ × ℕ)) → IsTrue (are_firsts firsts) → IsStored (padded_legs firsts) (length firsts)
padded_is_stored firsts legs =
    let few : length firsts ≤ 7 = few_firsts firsts legs in
    record {
      in_front = record {
        fits = few;
        full = omega (arith, length-append {A = ℤ × ℕ}, length-replicate {A = ℤ × ℕ});
        unused = drop-append_seam firsts _;
      };
      legs = rw (take_padded firsts) legs;
    }

-- shortening the first leg of an array shortens the first of the legs in it
pub shortened_padded : (firsts : List (ℤ × ℕ)) (passed : ℕ) → IsPassed firsts passed → 0 < length firsts → shortened (padded_legs firsts) passed ≡ padded_legs (shortened firsts passed)
shortened_padded [] passed p some = absurd (omega arith)
shortened_padded (leg ∷ legs) passed p some = refl

-- each of the legs after the first few has its length
lengths_drop : (legs : List (ℤ × ℕ)) (n : ℕ) → IsTrue (list_all (λ leg. is_length_of leg.1) legs) → IsTrue (list_all (λ leg. is_length_of leg.1) (drop n legs))
lengths_drop [] zero h = h
lengths_drop [] (suc n) h = h
lengths_drop (leg ∷ legs) zero h = h
lengths_drop (leg ∷ legs) (suc n) h = lengths_drop legs n (grind arith)

-- legs of which some ticks have passed still have their lengths
are_firsts_shortened : (legs : List (ℤ × ℕ)) (passed : ℕ) → IsTrue (are_firsts legs) → IsPassed legs passed → IsTrue (are_firsts (shortened legs passed))
are_firsts_shortened [] passed h p = h
are_firsts_shortened (leg ∷ legs) passed h p = grind arith

are_firsts_drop : (legs : List (ℤ × ℕ)) (n : ℕ) → IsTrue (are_firsts legs) → IsTrue (are_firsts (drop n legs))
are_firsts_drop legs n h = grind (arith, length-drop, lengths_drop)

-- what is left after the first few, in the form in which a range of a slice gives it
range_is_drop : (legs : List (ℤ × ℕ)) (n : ℕ) → n ≤ length legs → take (length legs - n) (drop n legs) ≡ drop n legs
range_is_drop legs n h = rw (← length-drop n legs) (take-length (drop n legs))

-- what is left of the legs that a function may have is stored as legs that a function may have
pub rest_is_stored : (firsts : List (ℤ × ℕ)) (ended passed : ℕ) (places : List (ℤ × ℕ)) → IsTrue (are_firsts firsts) → ended ≤ length firsts → IsPassed (drop ended firsts) passed → places ≡ padded_legs (shortened (take (length firsts - ended) (drop ended firsts)) passed) → IsStored places (length (take (length firsts - ended) (drop ended firsts)))
rest_is_stored firsts ended passed places legs within p are =
    rw (are, range_is_drop firsts ended within, ← length-shortened (drop ended firsts) passed)
    (padded_is_stored (shortened (drop ended firsts) passed) (are_firsts_shortened (drop ended firsts) passed (are_firsts_drop firsts ended legs) p))
