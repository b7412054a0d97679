-- How many ticks ahead of its own tick a formula sees, None where it sees up to the last tick that counts.
use Rattle.std.specs.Prelude.{ℕ, ◌+◌, ◌-◌, ◌^◌, max, min, Option, None, Some, option_map, option_and_then}
use Rattle.fixed_point.specs.declared.variants.BoundForm.{BoundForm}
use Rattle.fixed_point.specs.declared.variants.BoundForm.TheVariants as bounds
use Rattle.fixed_point.specs.declared.variants.UntilForm.{UntilForm}
use Rattle.fixed_point.specs.declared.variants.UntilForm.TheVariants as untils
use Rattle.formula_shape.specs.Shape as shapes
use Rattle.formula.specs.Tree.{ResolvedTree}

-- so many ticks more
abbrev pub further : ℕ → Option ℕ → Option ℕ
further c n = option_map (λ k. c + k) n

-- the greater of two
abbrev pub farther : Option ℕ → Option ℕ → Option ℕ
farther m n = option_and_then (λ j. option_map (max j) n) m

abbrev pub bounded_reach : BoundForm → ℕ → Option ℕ → Option ℕ
bounded_reach bounds.Within c n = further c n
bounded_reach bounds.After c n = None
bounded_reach bounds.Always c n = further c n

abbrev pub until_reach : UntilForm → ℕ → Option ℕ → Option ℕ
until_reach untils.Plain c n = None
until_reach untils.Within c n = further c n
until_reach untils.After c n = None

abbrev pub reach : ResolvedTree → Option ℕ
reach (shapes.Truth b) = Some 0
reach (shapes.Atom a) = Some 0
reach (shapes.Not f) = reach f
reach (shapes.And f g) = farther (reach f) (reach g)
reach (shapes.Or f g) = farther (reach f) (reach g)
reach (shapes.Next f) = further 1 (reach f)
reach (shapes.Eventually f) = None
reach (shapes.Always f) = None
reach (shapes.Bounded form c f) = bounded_reach form c (reach f)
reach (shapes.Until form c f g) = until_reach form c (farther (reach f) (reach g))
reach (shapes.Assign bound f) = reach f

-- the same as a number of 32 bits, which stays at the largest one: no tick is so far ahead
abbrev pub counted : Option ℕ → Option ℕ
counted n = option_map (λ k. min k (2 ^ 32 - 1)) n
