use Rattle.std.proofs.Common.{◌≡◌, ◌<◌, ◌++◌, map}
use Rattle.std.specs.Prelude.{All}
use Rattle.live_queries.specs.Told.{answer_of, row_of_line, target_count}
use Rattle.live_queries.proofs.query.LiveQuery.answer.Given as goal

-- the rows so far, and those of the lines that are left
abbrev pub invariant-told : goal.invariant-told
invariant-told l = record {
  next : goal.iterator-told.can_next l.line-iterator;
  finite : goal.iterator-told.is_finite l.line-iterator;
  below : All (λ line. line.0 < target_count l.self) l.line-iterator.rest.items;
  rows : l.rows.items ++ map (row_of_line l.self) l.line-iterator.rest.items ≡ answer_of l.self l.now;
}
