use Rattle.std.proofs.Common.{◌≡◌, true, List, ◌++◌, length}
use Rattle.kept_rows.specs.declared.binding.Variable.{Variable}
use Rattle.live_queries.specs.Prepared.{HaveRoomFor}
use Rattle.live_queries.specs.Written.{AreVariablesWith, DoAscendWith}
use Rattle.live_queries.proofs.columns.numbers_with.Given as goal

-- the numbers so far and those of the rest are those of all columns
abbrev pub invariant-columns : goal.invariant-columns
invariant-columns l = record {
  room : l.arrival.grows ≡ true → HaveRoomFor l.arrival.object.now.class l.classes l.rest;
  ascending : DoAscendWith l.arrival.grows l.arrival.object.now.class l.classes l.arrival.object.now.id l.rest;
  made : (more : List Variable) → AreVariablesWith l.arrival.grows l.arrival.object.now.class l.classes l.arrival.object.now.id l.rest more
      → AreVariablesWith l.arrival.grows l.arrival.object.now.class l.classes l.arrival.object.now.id l.columns (l.numbers.items ++ more);
}

abbrev pub decreases-columns : goal.decreases-columns
decreases-columns l = length l.rest
