use Rattle.std.proofs.Common.{◌≡◌, ℕ, ◌+◌, ◌-◌, Bool, true, List, [], ◌∷◌, length, sym, ap, ◌∙◌, subst, arith}
use Rattle.std.specs.List.Sorted.{IsStrictlyIncreasing}
use Rattle.std.proofs.lemmas.Bool.{and_parts}
use Rattle.tick_set.specs.Runs.{spans_have}
use Rattle.formula.specs.Tree.{resolved_view}
use Rattle.kept_rows.specs.Rows.{row_has}
use Rattle.object_store.specs.Contents.{catalog_of}
use Rattle.live_queries.specs.Columns.{object_at_number}
use Rattle.live_queries.specs.Prepared.{is_of_class}
use Rattle.live_queries.specs.Written.{AreVariablesWith, IsVariableWith, ids_with, takes_object}
use Rattle.live_queries.proofs.GrowLemmas.{do_ascend}
use Rattle.live_queries.proofs.JudgedLemmas.{one_object, rows_are}
use Rattle.live_queries.proofs.MadeLemmas.{same_order}
use Rattle.live_queries.proofs.OneLemmas.{one_of_class, one_within}
use Rattle.answers.proofs.ReadLemmas.{most_within}
use Rattle.live_queries.proofs.evaluating.new_row.Goals as goal

pub evaluate_alone-requires-clause-object : goal.evaluate_alone-requires-clause-object
evaluate_alone-requires-clause-object g c =
    one_of_class c.args.judged.now.world.now.store.now (resolved_view c.args.judged.now.query.now) c.args.arrival.now.object.now.class c.args.arrival.now.object.now.id c.requires.arrival.object.class c.requires.alone c.requires.arrival.object.there

pub numbers_with-numbers-requires-clause-room : goal.numbers_with-numbers-requires-clause-room
numbers_with-numbers-requires-clause-room g c = λ e.
    let does : takes_object c.args.arrival.now.grows c.args.arrival.now.object.now.class c.args.judged.now.query.now.classes c.args.column.now ≡ true =
    sym (c.does_take-one_more.ensures ∙ ap (λ (ks : List ℕ). takes_object c.args.arrival.now.grows c.args.arrival.now.object.now.class ks c.args.column.now) c.items.ensures) ∙ e in
    let parts = and_parts c.args.arrival.now.grows (is_of_class c.args.judged.now.query.now.classes c.args.arrival.now.object.now.class c.args.column.now.variable) does in
    (c.requires.arrival.room parts.0).0 parts.1

pub numbers_with-numbers-requires-clause-ascending : goal.numbers_with-numbers-requires-clause-ascending
numbers_with-numbers-requires-clause-ascending g c =
    subst (λ (b : Bool). IsStrictlyIncreasing (ids_with b c.args.arrival.now.object.now.id c.args.column.now))
    (sym (c.does_take-one_more.ensures ∙ ap (λ (ks : List ℕ). takes_object c.args.arrival.now.grows c.args.arrival.now.object.now.class ks c.args.column.now) c.items.ensures))
    (do_ascend (catalog_of c.args.judged.now.world.now.store.now) c.args.arrival.now.grows c.args.arrival.now.object.now.class c.args.judged.now.query.now.classes c.args.arrival.now.object.now.id (c.args.column.now ∷ []) c.requires.arrival.objects).0

pub returns-clause-rows : goal.returns-clause-rows
returns-clause-rows g c = λ ds made.
    rows_are c.args.judged.now.world.now.store.now c.args.judged.now.world.now.regions.now (resolved_view c.args.judged.now.query.now) c.requires.judged.resolved c.args.arrival.now.object.now.class c.args.arrival.now.object.now.id c.requires.arrival.object.class
    c.args.judged.now.w.lo c.args.judged.now.w.hi c.args.judged.now.from c.args.arrival.now.grows (c.args.column.now ∷ []) c.from_ref.result.now
    (subst (AreVariablesWith c.args.arrival.now.grows c.args.arrival.now.object.now.class c.args.judged.now.query.now.classes c.args.arrival.now.object.now.id (c.args.column.now ∷ [])) (sym c.from_ref.ensures.value) (
      subst (λ (b : Bool). IsVariableWith b c.args.arrival.now.object.now.id c.args.column.now c.numbers_with-numbers.result)
          (c.does_take-one_more.ensures ∙ ap (λ (ks : List ℕ). takes_object c.args.arrival.now.grows c.args.arrival.now.object.now.class ks c.args.column.now) c.items.ensures)
          c.numbers_with-numbers.ensures,
      tt,
    ))
    (λ n t. spans_have c.in_ok-ticks.ticks t) (row_has spans_have c.args.judged.now.rows.now) _ c.in_ok-changes.ensures.rows ds made
    (λ n here holding t. c.in_ok-ticks.ensures.ticks (object_at_number ds n)
    (one_object (resolved_view c.args.judged.now.query.now) c.requires.judged.resolved (ap length c.requires.alone) ds
    (same_order c.args.arrival.now.grows c.args.arrival.now.object.now.class c.args.judged.now.query.now.classes c.args.arrival.now.object.now.id (c.args.column.now ∷ []) ds made ∙ c.requires.columns.order)
    c.args.arrival.now.object.now.id n holding) t)

pub returns-in_err-ticks-clause-reads : goal.returns-in_err-ticks-clause-reads
returns-in_err-ticks-clause-reads g c = record {
  least = omega arith;
  most = (most_within _ _ _ _ c.in_err-ticks.ensures.reads.most
      (one_within (catalog_of c.args.judged.now.world.now.store.now) (resolved_view c.args.judged.now.query.now) (c.args.judged.now.w.hi + 1 - c.args.judged.now.w.lo) c.args.arrival.now.object.now.class c.args.arrival.now.object.now.id c.requires.alone));
}

pub returns-in_err-changes-clause-reads : goal.returns-in_err-changes-clause-reads
returns-in_err-changes-clause-reads g c = record {
  least = omega arith;
  most = (most_within _ _ _ _ c.in_ok-ticks.ensures.reads.most
      (one_within (catalog_of c.args.judged.now.world.now.store.now) (resolved_view c.args.judged.now.query.now) (c.args.judged.now.w.hi + 1 - c.args.judged.now.w.lo) c.args.arrival.now.object.now.class c.args.arrival.now.object.now.id c.requires.alone));
}

pub returns-clause-reads : goal.returns-clause-reads
returns-clause-reads g c = record {
  least = omega arith;
  most = (most_within _ _ _ _ c.in_ok-ticks.ensures.reads.most
      (one_within (catalog_of c.args.judged.now.world.now.store.now) (resolved_view c.args.judged.now.query.now) (c.args.judged.now.w.hi + 1 - c.args.judged.now.w.lo) c.args.arrival.now.object.now.class c.args.arrival.now.object.now.id c.requires.alone));
}
