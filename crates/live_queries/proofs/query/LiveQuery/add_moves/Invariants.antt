use Rattle.std.proofs.Common.{◌≡◌, ◌<◌, ◌++◌, map}
use Rattle.std.specs.Prelude.{All}
use Rattle.live_queries.specs.Told.{move, moves_of, target_count}
use Rattle.live_queries.proofs.query.LiveQuery.add_moves.Given as goal

-- what is told so far, and what is left
abbrev pub invariant-told : goal.invariant-told
invariant-told l = record {
  next : goal.iterator-told.can_next l.one-iterator;
  finite : goal.iterator-told.is_finite l.one-iterator;
  below : All (λ x. x.target < target_count l.self) l.one-iterator.rest.items;
  moves : l.moves.items ++ map (move l.added l.self) l.one-iterator.rest.items ≡ l.fn.moves.items ++ moves_of l.added l.now l.self l.changes;
}
