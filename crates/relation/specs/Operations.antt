-- What is done with the ticks of one binding, or of two. The window is lo to hi.
use Rattle.std.specs.Prelude.{ℕ, Bool, not, ◌&&◌, ◌||◌}
use Rattle.tick_set.specs.Ticks.{within}
use Rattle.tick_set.specs.Operators.{next_at}
use Rattle.formula.specs.Forms.{bounded_at, until_form_at}
use Rattle.relation.specs.declared.operation.Operation.{Operation}
use Rattle.relation.specs.declared.operation.Operation.TheVariants as operations
use Rattle.relation.specs.declared.operation.Change.{Change}
use Rattle.relation.specs.declared.operation.Change.TheVariants as changes

abbrev pub combined_between : Operation → ℕ → ℕ → (ℕ → Bool) → (ℕ → Bool) → ℕ → Bool
combined_between operations.Meet lo hi p q t = p t && q t
combined_between operations.Union lo hi p q t = p t || q t
combined_between (operations.Until form c) lo hi p q t = within lo hi t && until_form_at form c p q hi t
combined_between operations.Complement lo hi p q t = within lo hi t && not (p t)

abbrev pub changed_between : Change → ℕ → ℕ → (ℕ → Bool) → ℕ → Bool
changed_between changes.Copy lo hi p t = p t
changed_between (changes.Clip w) lo hi p t = within w.lo w.hi t && p t
changed_between changes.Next lo hi p t = within lo hi t && next_at p hi t
changed_between (changes.Bounded form c) lo hi p t = within lo hi t && bounded_at form c p hi t
