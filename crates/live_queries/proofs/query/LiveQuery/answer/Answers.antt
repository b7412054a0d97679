use Rattle.std.proofs.Common.{ℕ, ◌<◌, List}
use Rattle.std.proofs.lemmas.List.Elements.{All-head, All-rest}
use Rattle.live_queries.specs.Told.{answer_of, row_of_line, target_count}
use Rattle.live_queries.proofs.ListLemmas.{one_told}
use Rattle.live_queries.proofs.query.LiveQuery.answer.Goals as goal

pub row-requires : goal.row-requires
row-requires c =
    All-head (λ (line : ℕ × List (ℕ × ℕ)). line.0 < target_count c.args.self.now) c.in-Some.line c.next.new.self.rest.items
    (rw c.in-Some.ensures.steps.0 at c.told.invariant.below)

pub told-preserved : goal.told-preserved
told-preserved c = record {
  next = tt;
  finite = tt;
  below = All-rest (λ (line : ℕ × List (ℕ × ℕ)). line.0 < target_count c.args.self.now) c.in-Some.line c.next.new.self.rest.items
      c.told.line-iterator.rest.items c.in-Some.ensures.steps.0 c.told.invariant.below;
  rows = one_told (row_of_line c.args.self.now) c.told.rows.items c.push.new.self.items (answer_of c.args.self.now c.args.now)
      c.told.line-iterator.rest.items c.next.new.self.rest.items c.in-Some.line c.row.result c.in_ok-push.ensures.items c.row.ensures
      c.in-Some.ensures.steps.0 c.told.invariant.rows;
}
