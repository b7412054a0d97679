-- What is right by number is of the sizes that are asked here.
use Rattle.std.proofs.Common.{◌≡◌, ℕ, true, ◌&&◌, List, [], ◌∷◌, length, pos, refl}
use Rattle.std.specs.Prelude.{int_le, nat_le, nat_lt}
use Rattle.std.specs.List.{list_all}
use Rattle.std.proofs.lemmas.Bool.{and_from, and_parts}
use Rattle.fixed_point.specs.declared.number.TheConstants.{FIX_LIMIT, READ_LIMIT}
use Rattle.geometry.specs.declared.limits.TheConstants.{RADIUS_LIMIT}
use Rattle.formula.specs.Bounds.{term_bound}
use Rattle.formula.specs.Resolved.{Scope, is_atom, is_factor, is_list_of, is_term, is_unit, is_within}
use Rattle.formula_shape.specs.declared.limits.TheConstants.{FACTOR_LIMIT, OBJECT_LIMIT}
use Rattle.formula.specs.declared.tree.RAtom.{RAtom}
use Rattle.formula.specs.declared.tree.RAtom.TheVariants as atoms
use Rattle.formula.specs.declared.tree.RSigned.{RSigned}
use Rattle.formula.specs.declared.tree.RTerm.{RTerm}
use Rattle.atoms.specs.Sizes.{is_sized, is_sized_factor, is_sized_term}

sized_factors : (count : ℕ) (scope : Scope) (factors : List RSigned) → list_all (is_factor count scope) factors ≡ true → list_all is_sized_factor factors ≡ true
sized_factors count scope [] right = refl
sized_factors count scope (s ∷ factors) right =
    let parts = and_parts (is_factor count scope s) (list_all (is_factor count scope) factors) right in
    let first = and_parts (is_sized_factor s) (is_unit count scope s.unit) parts.0 in
    and_from (is_sized_factor s) (list_all is_sized_factor factors) first.0 (sized_factors count scope factors parts.1)

pub sized_term : (count : ℕ) (scope : Scope) (q : RTerm) → is_term count scope q ≡ true → is_sized_term q ≡ true
sized_term count scope q right =
    let outer = and_parts (is_list_of FACTOR_LIMIT q.factors && list_all (is_factor count scope) q.factors) (nat_le (term_bound q) FIX_LIMIT) right in
    let inner = and_parts (is_list_of FACTOR_LIMIT q.factors) (list_all (is_factor count scope) q.factors) outer.0 in
    let few = and_parts (nat_lt 0 (length q.factors)) (nat_le (length q.factors) FACTOR_LIMIT) inner.0 in
    and_from (nat_le (length q.factors) FACTOR_LIMIT) (list_all is_sized_factor q.factors) few.1 (sized_factors count scope q.factors inner.1)

pub sized_atom : (count : ℕ) (scope : Scope) (a : RAtom) → is_atom count scope a ≡ true → is_sized a ≡ true
sized_atom count scope (atoms.Compare q op r) right =
    let parts = and_parts (is_term count scope q) (is_term count scope r) right in
    and_from (is_sized_term q) (is_sized_term r) (sized_term count scope q parts.0) (sized_term count scope r parts.1)
sized_atom count scope (atoms.Inside v n) right = refl
sized_atom count scope (atoms.Outside v n) right = refl
sized_atom count scope (atoms.Dist v u op c) right = (and_parts (nat_lt v count && nat_lt u count) (is_within READ_LIMIT c) right).1
sized_atom count scope (atoms.Sphere r vs) right =
    let outer = and_parts (is_list_of OBJECT_LIMIT vs && list_all (λ v. nat_lt v count) vs && int_le (pos 0) r) (is_within RADIUS_LIMIT r) right in
    let middle = and_parts (is_list_of OBJECT_LIMIT vs && list_all (λ v. nat_lt v count) vs) (int_le (pos 0) r) outer.0 in
    let inner = and_parts (is_list_of OBJECT_LIMIT vs) (list_all (λ v. nat_lt v count) vs) middle.0 in
    and_from (is_list_of OBJECT_LIMIT vs && int_le (pos 0) r) (is_within RADIUS_LIMIT r)
    (and_from (is_list_of OBJECT_LIMIT vs) (int_le (pos 0) r) inner.0 middle.1) outer.1
