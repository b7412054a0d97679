-- Distances that are to be at most a number.
use Rattle.std.specs.Prelude.{◌≡◌, ℕ, ◌==◌, Bool, true, ◌&&◌, ◌||◌}
use Rattle.case_table.specs.declared.compare.Op.{Op}
use Rattle.case_table.specs.Comparison.{is_at_most}
use Rattle.formula.specs.declared.tree.RAtom.TheVariants as atoms
use Rattle.pairs.specs.declared.distance.Distance.{Distance}

-- whether two variables are the first and the second one, either way round
abbrev pub are_both : ℕ → ℕ → Bool
are_both v u = ((v == 0) && (u == 1)) || ((v == 1) && (u == 0))

-- the atom compares the distance of the objects of the first two variables so with the number
pub record IsDistance (d : Distance) : Type 0 where
  pub from : ℕ
  pub to : ℕ
  pub op : Op
  pub is : d.atom.now ≡ atoms.Dist from to op d.most
  pub near : is_at_most op ≡ true
  pub both : are_both from to ≡ true
