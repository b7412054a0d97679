use Rattle.std.proofs.Common.{◌-◌}
use Rattle.nearest.proofs.slices.+add_slices.Given as goal

abbrev pub decreases-add_slices : goal.decreases-add_slices
decreases-add_slices l = l.slice.hi - l.slice.lo
