-- The operators that a form and a number c of ticks choose, at a tick t, where e is the last tick that counts.
use Rattle.std.specs.Prelude.{ℕ, Bool}
use Rattle.fixed_point.specs.declared.variants.BoundForm.{BoundForm}
use Rattle.fixed_point.specs.declared.variants.BoundForm.TheVariants as bounds
use Rattle.fixed_point.specs.declared.variants.UntilForm.{UntilForm}
use Rattle.fixed_point.specs.declared.variants.UntilForm.TheVariants as untils
use Rattle.tick_set.specs.Operators as operators

abbrev pub bounded_at : BoundForm → ℕ → (ℕ → Bool) → ℕ → ℕ → Bool
bounded_at bounds.Within c g e t = operators.eventually_within_at c g e t
bounded_at bounds.After c g e t = operators.eventually_after_at c g e t
bounded_at bounds.Always c g e t = operators.always_for_at c g e t

abbrev pub until_form_at : UntilForm → ℕ → (ℕ → Bool) → (ℕ → Bool) → ℕ → ℕ → Bool
until_form_at untils.Plain c g h e t = operators.until_at g h e t
until_form_at untils.Within c g h e t = operators.until_within_at c g h e t
until_form_at untils.After c g h e t = operators.until_after_at c g h e t
