-- How far ahead a formula sees, counted by a number of 32 bits, by what its parts see.
use Rattle.std.proofs.Common.{◌≡◌, ℕ, ◌+◌, ◌-◌, ◌^◌, max, min, Option, None, Some, refl, ap, arith}
use Rattle.fixed_point.specs.declared.variants.BoundForm.{BoundForm}
use Rattle.fixed_point.specs.declared.variants.BoundForm.TheVariants as bounds
use Rattle.fixed_point.specs.declared.variants.UntilForm.{UntilForm}
use Rattle.fixed_point.specs.declared.variants.UntilForm.TheVariants as untils
use Rattle.formula.specs.Reach.{bounded_reach, counted, farther, further, until_reach}

sum-counted : (c k : ℕ) → min (c + min k (2 ^ 32 - 1)) (2 ^ 32 - 1) ≡ min (c + k) (2 ^ 32 - 1)
sum-counted c k = omega arith

max-counted : (j k : ℕ) → max (min j (2 ^ 32 - 1)) (min k (2 ^ 32 - 1)) ≡ min (max j k) (2 ^ 32 - 1)
max-counted j k = omega arith

pub counted-further : (c : ℕ) (n : Option ℕ) → counted (further c (counted n)) ≡ counted (further c n)
counted-further c None = refl
counted-further c (Some k) = ap Some (sum-counted c k)

pub farther-counted : (m n : Option ℕ) → farther (counted m) (counted n) ≡ counted (farther m n)
farther-counted None n = refl
farther-counted (Some j) None = refl
farther-counted (Some j) (Some k) = ap Some (max-counted j k)

pub counted-bounded : (form : BoundForm) (c : ℕ) (n : Option ℕ) → counted (bounded_reach form c (counted n)) ≡ counted (bounded_reach form c n)
counted-bounded bounds.Within c n = counted-further c n
counted-bounded bounds.After c n = refl
counted-bounded bounds.Always c n = counted-further c n

pub counted-until : (form : UntilForm) (c : ℕ) (n : Option ℕ) → counted (until_reach form c (counted n)) ≡ counted (until_reach form c n)
counted-until untils.Plain c n = refl
counted-until untils.Within c n = counted-further c n
counted-until untils.After c n = refl

pub ruleset counts = (counted-further, farther-counted, counted-bounded, counted-until)
