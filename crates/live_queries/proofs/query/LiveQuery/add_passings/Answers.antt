use Rattle.std.proofs.Common.{ℕ, ◌<◌, Bool}
use Rattle.std.proofs.lemmas.List.Elements.{All-head, All-rest}
use Rattle.live_queries.specs.Told.{passing_change, target_count}
use Rattle.live_queries.proofs.ListLemmas.{one_told}
use Rattle.live_queries.proofs.query.LiveQuery.add_passings.Goals as goal

pub move_of_passing-requires : goal.move_of_passing-requires
move_of_passing-requires c =
    All-head (λ (x : ℕ × Bool). x.0 < target_count c.args.self.now) c.in-Some.passing c.next.new.self.rest.items
    (rw c.in-Some.ensures.steps.0 at c.told.invariant.below)

pub told-preserved : goal.told-preserved
told-preserved c = record {
  next = tt;
  finite = tt;
  below = All-rest (λ (x : ℕ × Bool). x.0 < target_count c.args.self.now) c.in-Some.passing c.next.new.self.rest.items
      c.told.passing-iterator.rest.items c.in-Some.ensures.steps.0 c.told.invariant.below;
  moves = one_told (passing_change c.args.self.now) c.told.moves.items c.push.new.self.items _
      c.told.passing-iterator.rest.items c.next.new.self.rest.items c.in-Some.passing c.move_of_passing.result c.in_ok-push.ensures.items c.move_of_passing.ensures
      c.in-Some.ensures.steps.0 c.told.invariant.moves;
}
