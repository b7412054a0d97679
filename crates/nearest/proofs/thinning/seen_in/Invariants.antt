use Rattle.std.proofs.Common.{◌≡◌, map, take}
use Rattle.std.specs.Prelude.{All}
use Rattle.nearest.specs.Sights.{IsSeenFrom, course_body}
use Rattle.nearest.proofs.thinning.seen_in.Given as goal

abbrev pub invariant-courses : goal.invariant-courses
invariant-courses l = record {
  bodies : map course_body l.seen.items ≡ map course_body (take l.c-index l.courses);
  seen : All (IsSeenFrom l.target l.slice) l.seen.items;
}
