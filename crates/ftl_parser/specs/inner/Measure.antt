-- The sizes of a formula as they are kept beside it: counts that stay at the largest number.
use Rattle.std.specs.Prelude.{ℕ, ◌+◌, min, max, ◌-◌, ◌^◌}
use Rattle.ftl_parser.specs.declared.measured.Sizes.{Sizes}
use Rattle.ftl_parser.specs.Tree.{Tree}
use Rattle.ftl_parser.specs.Sizes.{nodes, depth, nesting, objects, factors}

-- a count that stays at the largest number of 64 bits
abbrev pub saturated : ℕ → ℕ
saturated n = min n (2 ^ 64 - 1)

-- the sizes of a formula
abbrev pub measure : Tree → Sizes
measure f = record { nodes = saturated (nodes f); depth = saturated (depth f); nesting = saturated (nesting f); objects = objects f; factors = factors f }

-- the sizes of a formula without parts
abbrev pub leaf : ℕ → ℕ → Sizes
leaf objects factors = record { nodes = 1; depth = 1; nesting = 0; objects = objects; factors = factors }

-- the sizes of an operator on a formula
abbrev pub under : Sizes → Sizes
under s = record { nodes = saturated (s.nodes + 1); depth = saturated (s.depth + 1); nesting = s.nesting; objects = s.objects; factors = s.factors }

-- the sizes of an assignment of a term with so many factors
abbrev pub assignment_sizes : Sizes → ℕ → Sizes
assignment_sizes s factors = record {
  nodes = saturated (s.nodes + 1);
  depth = saturated (s.depth + 1);
  nesting =
      saturated (s.nesting + 1);
  objects = s.objects;
  factors = max factors s.factors;
}

-- the sizes of an operator on two formulas
abbrev pub operator_sizes : Sizes → Sizes → Sizes
operator_sizes s t = record {
  nodes = saturated (saturated (s.nodes + t.nodes) + 1);
  depth = saturated (max s.depth t.depth + 1);
  nesting = max s.nesting t.nesting;
  objects = max s.objects t.objects;
  factors = max s.factors t.factors;
}
