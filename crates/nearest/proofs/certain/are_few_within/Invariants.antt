use Rattle.std.proofs.Common.{◌≡◌, ◌+◌, ◌<◌, Some, take}
use Rattle.std.specs.Prelude.{count_by}
use Rattle.nearest.specs.Sights.{may_come_within}
use Rattle.nearest.proofs.certain.are_few_within.Given as goal

abbrev pub invariant-courses : goal.invariant-courses
invariant-courses l = record {
  some : 0 < l.left;
  counted : l.left + count_by (λ c. may_come_within (Some l.bound) c.sight) (take l.c-index l.courses) ≡ l.k;
}
