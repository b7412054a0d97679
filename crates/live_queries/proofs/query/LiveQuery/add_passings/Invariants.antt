use Rattle.std.proofs.Common.{◌≡◌, ◌<◌, ◌++◌, map}
use Rattle.std.specs.Prelude.{All}
use Rattle.live_queries.specs.Told.{passing_change, passings_of, target_count}
use Rattle.live_queries.proofs.query.LiveQuery.add_passings.Given as goal

-- what is told so far, and what is left
abbrev pub invariant-told : goal.invariant-told
invariant-told l = record {
  next : goal.iterator-told.can_next l.passing-iterator;
  finite : goal.iterator-told.is_finite l.passing-iterator;
  below : All (λ x. x.0 < target_count l.self) l.passing-iterator.rest.items;
  moves : l.moves.items ++ map (passing_change l.self) l.passing-iterator.rest.items ≡ l.fn.moves.items ++ passings_of l.before l.now l.self;
}
