use Rattle.std.proofs.Common.{ℕ, ◌≤◌, take}
use Rattle.std.specs.Prelude.{count_by}
use Rattle.nearest.specs.Depth.{count_to}
use Rattle.nearest.specs.Sights.{is_surely_within}
use Rattle.nearest.proofs.thinning.mosts_of.Given as goal

abbrev pub invariant-courses : goal.invariant-courses
invariant-courses l = (m : ℕ) → count_to l.mosts.items m ≤ count_by (λ c. is_surely_within m c.sight) (take l.c-index l.seen)
