-- No part of a formula passes where each atom, and what each assignment binds, fails.
use Rattle.std.proofs.Common.{◌≡◌, Bool, false, ◌↔◌, refl}
use Rattle.std.proofs.lemmas.Bool.{or_parts}
use Rattle.formula_shape.specs.Shape.{Shape, fold_types}
use Rattle.formula_shape.specs.Sizes.{has_part}
use Rattle.exact.proofs.Truths.{or_of_false}

pub parts_fail : {A B : Type 0} (p : A → Bool) (q : B → Bool) (f : Shape A B) →
    has_part p q f ≡ false → fold_types (λ a. p a ≡ false) (λ b. q b ≡ false) f
parts_fail p q (Shape.Truth b) none = tt
parts_fail p q (Shape.Atom a) none = none
parts_fail p q (Shape.Not f) none = parts_fail p q f none
parts_fail p q (Shape.And f g) none =
    let parts = or_parts (has_part p q f) (has_part p q g) none in (parts_fail p q f parts.0, parts_fail p q g parts.1)
parts_fail p q (Shape.Or f g) none =
    let parts = or_parts (has_part p q f) (has_part p q g) none in (parts_fail p q f parts.0, parts_fail p q g parts.1)
parts_fail p q (Shape.Next f) none = parts_fail p q f none
parts_fail p q (Shape.Eventually f) none = parts_fail p q f none
parts_fail p q (Shape.Always f) none = parts_fail p q f none
parts_fail p q (Shape.Bounded form ticks f) none = parts_fail p q f none
parts_fail p q (Shape.Until form ticks f g) none =
    let parts = or_parts (has_part p q f) (has_part p q g) none in (parts_fail p q f parts.0, parts_fail p q g parts.1)
parts_fail p q (Shape.Assign b f) none =
    let parts = or_parts (q b) (has_part p q f) none in (parts.0, parts_fail p q f parts.1)

pub no_part : {A B : Type 0} (p : A → Bool) (q : B → Bool) (f : Shape A B) →
    fold_types (λ a. p a ≡ false) (λ b. q b ≡ false) f → has_part p q f ≡ false
no_part p q (Shape.Truth b) each = refl
no_part p q (Shape.Atom a) each = each
no_part p q (Shape.Not f) each = no_part p q f each
no_part p q (Shape.And f g) each =
    or_of_false (has_part p q f) (has_part p q g) (no_part p q f each.0) (no_part p q g each.1)
no_part p q (Shape.Or f g) each =
    or_of_false (has_part p q f) (has_part p q g) (no_part p q f each.0) (no_part p q g each.1)
no_part p q (Shape.Next f) each = no_part p q f each
no_part p q (Shape.Eventually f) each = no_part p q f each
no_part p q (Shape.Always f) each = no_part p q f each
no_part p q (Shape.Bounded form ticks f) each = no_part p q f each
no_part p q (Shape.Until form ticks f g) each =
    or_of_false (has_part p q f) (has_part p q g) (no_part p q f each.0) (no_part p q g each.1)
no_part p q (Shape.Assign b f) each = or_of_false (q b) (has_part p q f) each.0 (no_part p q f each.1)

pub no_part_where_each_fails : {A B : Type 0} (p : A → Bool) (q : B → Bool) (f : Shape A B) →
    (has_part p q f ≡ false) ↔ fold_types (λ a. p a ≡ false) (λ b. q b ≡ false) f
no_part_where_each_fails p q f = (parts_fail p q f, no_part p q f)
