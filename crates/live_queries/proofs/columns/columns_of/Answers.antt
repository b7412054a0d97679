use Rattle.std.proofs.Common.{◌≡◌, ℕ, List, sym, ap, ◌∙◌}
use Rattle.std.specs.Prelude.{◌==◌}
use Rattle.std.proofs.lemmas.Bool.{or_left, or_right}
use Rattle.formula.specs.Tree.{resolved_view}
use Rattle.object_store.specs.Contents.{catalog_of}
use Rattle.live_queries.specs.Columns.{AreColumnsOf, order_of}
use Rattle.live_queries.proofs.ListLemmas.{pairs_begin, pairs_end, pairs_go_on}
use Rattle.live_queries.proofs.OrderLemmas.{among, order_below}
use Rattle.live_queries.proofs.columns.columns_of.Goals as goal
use Rattle.exact.proofs.Naturals.{equals_itself}

pub variables-init : goal.variables-init
variables-init c =
    let all : c.deref-rest.result.now ≡ order_of (resolved_view c.args.query.now) = c.deref-rest.ensures.value ∙ c.in_ok-order.ensures in
    record {
      below = λ v has. order_below (resolved_view c.args.query.now) c.requires.resolved v (ap (λ (vs : List ℕ). among vs v) (sym all) ∙ has);
      made = pairs_begin (AreColumnsOf (catalog_of c.args.store.now) c.args.query.now.classes) (order_of (resolved_view c.args.query.now))
          c.deref-rest.result.now c.in_ok-columns.columns.items all c.in_ok-columns.ensures.items;
    }

pub column-requires-clause-there : goal.column-requires-clause-there
column-requires-clause-there c =
    c.variables.invariant.below c.in-Some.variable.now
    (ap (λ (vs : List ℕ). among vs c.in-Some.variable.now) c.in-Some.ensures.cases.0
    ∙ or_left (c.in-Some.variable.now == c.in-Some.variable.now) (among c.in-Some.later.now c.in-Some.variable.now) (equals_itself c.in-Some.variable.now))

pub variables-preserved : goal.variables-preserved
variables-preserved c = record {
  below = λ v has. c.variables.invariant.below v
      (ap (λ (vs : List ℕ). among vs v) c.in-Some.ensures.cases.0 ∙ or_right (c.in-Some.variable.now == v) (among c.in-Some.later.now v) has);
  made = pairs_go_on (AreColumnsOf (catalog_of c.args.store.now) c.args.query.now.classes) (order_of (resolved_view c.args.query.now))
      c.variables.rest.now c.in-Some.later.now c.in-Some.variable.now c.variables.columns.items c.push.new.self.items c.in_ok-column.field-0
      c.in-Some.ensures.cases.0 c.in_ok-push.ensures.items (λ more is. (c.in_ok-column.ensures, is)) c.variables.invariant.made;
}

pub returns : goal.returns
returns c =
    pairs_end (AreColumnsOf (catalog_of c.args.store.now) c.args.query.now.classes) (order_of (resolved_view c.args.query.now))
    c.variables.rest.now c.variables.columns.items c.in_default.ensures.cases tt c.variables.invariant.made
