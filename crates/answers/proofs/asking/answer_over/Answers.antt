use Rattle.std.proofs.Common.{◌≡◌, ℕ, List, true, ap, subst, ◌∙◌}
use Rattle.std.specs.List.{list_all}
use Rattle.tick_set.specs.Runs.{spans_have}
use Rattle.formula.specs.Tree.{resolved_view}
use Rattle.relation.specs.Frames.{Frame}
use Rattle.formula.specs.Resolved.{are_distinct}
use Rattle.relation.specs.Key.{has_id}
use Rattle.relation.specs.Projection.{IsPicked}
use Rattle.relation.specs.Rows.{table_has}
use Rattle.answers.specs.Told.{told_rows}
use Rattle.answers.proofs.AnswerLemmas.{AreInOrder, inside_domains, row_there, rows_are_the_answer}
use Rattle.answers.proofs.QueryLemmas.{distinct_targets, known_targets, targets_among}
use Rattle.answers.proofs.asking.answer_over.Goals as goal

pub over_targets-requires-clause-among : goal.over_targets-requires-clause-among
over_targets-requires-clause-among c =
    ap (λ (us : List ℕ). list_all (has_id us) c.items.result.now) c.requires.vars
    ∙ ap (list_all _) c.items.ensures
    ∙ targets_among (resolved_view c.args.q.now) c.requires.resolved

pub over_targets-requires-clause-distinct : goal.over_targets-requires-clause-distinct
over_targets-requires-clause-distinct c =
    ap are_distinct c.items.ensures ∙ distinct_targets (resolved_view c.args.q.now) c.requires.resolved

pub returns : goal.returns
returns c =
    let q = resolved_view c.args.q.now in
    let full = c.args.full in
    let rows = c.in_ok-rows.rows in
    let order : AreInOrder full = record {
      keys = c.rows_stand_in_order.ensures.keys;
      ticks = c.rows_stand_in_order.ensures.ticks;
      some = c.rows_stand_in_order.ensures.some;
      none = c.rows_stand_in_order.ensures.none;
    } in
    let in_order : AreInOrder rows = record {
      keys = c.rows_stand_in_order-2.ensures.keys;
      ticks = c.rows_stand_in_order-2.ensures.ticks;
      some = c.rows_stand_in_order-2.ensures.some;
      none = c.rows_stand_in_order-2.ensures.none;
    } in
    record {
      rows = λ u holds domains ticks.
          ap told_rows c.into_rows.ensures
          ∙ rows_are_the_answer u q holds
          (known_targets q c.requires.resolved) (distinct_targets q c.requires.resolved)
          c.args.w.lo c.args.w.hi c.args.w.ordered c.args.w.in_range full rows domains c.requires.vars ticks
          (λ key t there. inside_domains full order key (row_there full order key t there))
          (c.in_ok-rows.ensures.vars ∙ c.items.ensures)
          (ap (λ (f : Frame). f.domains) c.in_ok-rows.ensures.frame ∙ domains)
          c.in_ok-rows.ensures.all
          (subst (λ (targets : List ℕ). (b : ℕ → ℕ) (t : ℕ) → table_has spans_have rows b t ≡ true → IsPicked spans_have full targets b t) c.items.ensures c.in_ok-rows.ensures.some)
          in_order;
    }
