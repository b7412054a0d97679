use Rattle.std.proofs.Common.{◌<◌}
use Rattle.std.proofs.lemmas.List.Elements.{All-head, All-rest}
use Rattle.kept_rows.specs.Moves.{Moved}
use Rattle.live_queries.specs.Told.{move, target_count}
use Rattle.live_queries.proofs.ListLemmas.{one_told}
use Rattle.live_queries.proofs.query.LiveQuery.add_moves.Goals as goal

pub move_of_change-requires : goal.move_of_change-requires
move_of_change-requires c =
    All-head (λ (x : Moved). x.target < target_count c.args.self.now) c.in-Some-one.one c.next.new.self.rest.items
    (rw c.in-Some-one.ensures.steps.0 at c.told.invariant.below)

pub told-preserved : goal.told-preserved
told-preserved c = record {
  next = tt;
  finite = tt;
  below = All-rest (λ (x : Moved). x.target < target_count c.args.self.now) c.in-Some-one.one c.next.new.self.rest.items
      c.told.one-iterator.rest.items c.in-Some-one.ensures.steps.0 c.told.invariant.below;
  moves = one_told (move c.args.added c.args.self.now) c.told.moves.items c.push.new.self.items _
      c.told.one-iterator.rest.items c.next.new.self.rest.items c.in-Some-one.one c.move_of_change.result c.in_ok-push.ensures.items c.move_of_change.ensures
      c.in-Some-one.ensures.steps.0 c.told.invariant.moves;
}
