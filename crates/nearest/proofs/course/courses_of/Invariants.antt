use Rattle.std.proofs.Common.{◌≡◌, ◌+◌, ◌≤◌, map, take}
use Rattle.std.specs.Prelude.{◌==◌, All, not}
use Rattle.std.specs.List.{filter}
use Rattle.nearest.specs.Courses.{AreNumbered, IsOfStore}
use Rattle.nearest.proofs.course.courses_of.Given as goal

abbrev pub invariant-objects : goal.invariant-objects
invariant-objects g l = record {
  ids : map (λ c. c.id) l.courses.items ≡ filter (λ n. not (n == l.to)) (take l.id-index l.id-items);
  stored : All (IsOfStore l.store) l.courses.items;
  numbered : AreNumbered 0 l.courses.items;
  least : l.initial.reads ≤ l.reads;
  most : l.reads ≤ l.initial.reads + l.id-index;
}
