-- How large the lists and numbers of terms and atoms are.
use Rattle.std.specs.Prelude.{pos, int_le, Bool, true, ◌&&◌, nat_le, unwrap_or, length}
use Rattle.std.specs.List.{list_all}
use Rattle.fixed_point.specs.declared.number.TheConstants.{READ_LIMIT}
use Rattle.geometry.specs.declared.limits.TheConstants.{RADIUS_LIMIT}
use Rattle.formula.specs.Resolved.{is_list_of, is_within}
use Rattle.formula_shape.specs.declared.limits.TheConstants.{FACTOR_LIMIT, OBJECT_LIMIT, TIMES_LIMIT}
use Rattle.formula.specs.declared.tree.RAtom.{RAtom}
use Rattle.formula.specs.declared.tree.RAtom.TheVariants as atoms
use Rattle.formula.specs.declared.tree.RSigned.{RSigned}
use Rattle.formula.specs.declared.tree.RTerm.{RTerm}

-- a multiplier of at most 10^6
abbrev pub is_sized_factor : RSigned → Bool
is_sized_factor s = nat_le (unwrap_or s.times 1) TIMES_LIMIT

-- at most 16 factors
abbrev pub is_sized_term : RTerm → Bool
is_sized_term q = nat_le (length q.factors) FACTOR_LIMIT && list_all is_sized_factor q.factors

-- a distance within 10^12 thousandths; 1 to 4 names in a circle, of a radius from 0 to 10^6
abbrev pub is_sized : RAtom → Bool
is_sized (atoms.Compare q op r) = is_sized_term q && is_sized_term r
is_sized (atoms.Inside v n) = true
is_sized (atoms.Outside v n) = true
is_sized (atoms.Dist v u op c) = is_within READ_LIMIT c
is_sized (atoms.Sphere r vs) = is_list_of OBJECT_LIMIT vs && int_le (pos 0) r && is_within RADIUS_LIMIT r
