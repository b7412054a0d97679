use Rattle.std.proofs.Common.{◌≡◌, ◌||◌, List, map, sym, ap, subst, ◌∙◌, arith}
use Rattle.std.specs.Prelude.{All}
use Rattle.std.proofs.lemmas.List.Elements.{All-head, All-rest}
use Rattle.kept_rows.specs.Rows.{HasRoom, row_has}
use Rattle.relation.specs.declared.row.Row.{Row}
use Rattle.relation.specs.Rows.{has_at}
use Rattle.tick_set.specs.Runs.{spans_have}
use Rattle.tick_set.specs.declared.spans.Span.{Span}
use Rattle.live_queries.specs.Columns.{object_at_number}
use Rattle.live_queries.proofs.NumberedLemmas.{IsRowOf, all_moved, none_moved, none_moved_yet, objects_among, row_moved, rows_of_table}
use Rattle.live_queries.proofs.numbering.filled.Goals as goal

pub moved-init : goal.moved-init
moved-init c =
    let all : c.into_iter-row-iterator.result.rest.items ≡ c.args.full.rows = c.into_iter-row-iterator.ensures.into_iter_gives.0 ∙ c.into_rows-row-items.ensures in
    record {
      next = tt;
      finite = tt;
      room = subst (HasRoom c.in_ok-rows.rows) c.width.ensures.value c.in_ok-rows.ensures.room;
      each = subst (All (IsRowOf c.args.full)) (sym all)
          (rows_of_table c.args.full c.rows_stand_in_order.ensures.keys c.rows_stand_in_order.ensures.ticks);
      all = λ n t counted.
          ap (λ (xs : List (Row (List Span))). has_at spans_have xs (map (object_at_number c.args.columns.now n) c.args.full.vars) t
          || row_has spans_have c.in_ok-rows.rows n t) all
          ∙ none_moved_yet c.args.columns.now c.args.full c.requires.over (row_has spans_have c.in_ok-rows.rows) c.in_ok-rows.ensures.none n t;
      none = λ n t counted. c.in_ok-rows.ensures.none n t;
    }

pub number_of-number-requires-clause-ascend : goal.number_of-number-requires-clause-ascend
number_of-number-requires-clause-ascend c = c.requires.over.ascend

pub number_of-number-requires-clause-among : goal.number_of-number-requires-clause-among
number_of-number-requires-clause-among c =
    objects_among c.args.columns.now c.args.full c.requires.over c.in-Some.row.key
    (All-head (IsRowOf c.args.full) c.in-Some.row c.next.new.self.rest.items (rw c.in-Some.ensures.steps.0 at c.moved.invariant.each)).key

pub set_row-requires : goal.set_row-requires
set_row-requires c = omega (arith, c.number_of-number.ensures.below, c.moved.invariant.room)

pub moved-preserved : goal.moved-preserved
moved-preserved c =
    let is : IsRowOf c.args.full c.in-Some.row =
    All-head (IsRowOf c.args.full) c.in-Some.row c.next.new.self.rest.items (rw c.in-Some.ensures.steps.0 at c.moved.invariant.each) in
    record {
      next = tt;
      finite = tt;
      room = omega (arith, c.in_ok-set_row.ensures.len, c.moved.invariant.room);
      each = All-rest (IsRowOf c.args.full) c.in-Some.row c.next.new.self.rest.items c.moved.row-iterator.rest.items c.in-Some.ensures.steps.0 c.moved.invariant.each;
      all = row_moved c.args.columns.now c.args.full c.requires.over c.in-Some.row is c.number_of-number.result c.number_of-number.ensures
          c.moved.row-iterator.rest.items c.next.new.self.rest.items c.in-Some.ensures.steps.0 (row_has spans_have c.moved.rows) (row_has spans_have c.set_row.new.self)
          c.in_ok-set_row.ensures.rows c.moved.invariant.all;
      none = none_moved c.args.columns.now c.args.full c.requires.over c.in-Some.row is c.number_of-number.result c.number_of-number.ensures
          c.moved.row-iterator.rest.items c.next.new.self.rest.items c.in-Some.ensures.steps.0 (row_has spans_have c.moved.rows) (row_has spans_have c.set_row.new.self)
          c.in_ok-set_row.ensures.rows c.moved.invariant.none;
    }

pub returns-clause-rows : goal.returns-clause-rows
returns-clause-rows c =
    all_moved c.args.columns.now c.args.full c.requires.over (row_has spans_have c.moved.rows) c.moved.row-iterator.rest.items
    (sym c.moved.row-iterator.rest.ok.0 ∙ c.in-None.ensures.steps.0)
    c.moved.invariant.all c.moved.invariant.none
