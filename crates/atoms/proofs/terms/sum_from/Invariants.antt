use Rattle.std.proofs.Common.{◌≡◌, ℕ, ◌+◌, ◌≤◌, map, take}
use Rattle.std.specs.List.{fold}
use Rattle.std.specs.Option.{IfSome}
use Rattle.meaning.specs.Value.{factor_value, plus}
use Rattle.atoms.specs.Courses.{IsCourseOf, value_along}
use Rattle.atoms.specs.Parts.{shown}
use Rattle.atoms.proofs.terms.sum_from.Given as goal

-- the sum with the first of the factors
abbrev pub invariant-loop-factor : goal.invariant-loop-factor
invariant-loop-factor l = record {
  value : (t : ℕ) → l.part.span.lo ≤ t → t ≤ l.part.span.hi
      → value_along l.sum l.part.span.lo t
      ≡ fold plus (value_along l.fn.first l.part.span.lo t) (map (factor_value (shown l.part) l.env t) (take l.factor-index l.factors));
  small : IfSome l.sum (IsCourseOf (l.factor-index + 1));
}
