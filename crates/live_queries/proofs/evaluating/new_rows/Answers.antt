use Rattle.std.proofs.Common.{ℕ, ◌+◌, ◌-◌, ◌≤◌, List, length, sym, ap, ◌∙◌, subst, arith}
use Rattle.std.specs.List.{flat_map}
use Rattle.tick_set.specs.Runs.{spans_have}
use Rattle.tick_set.specs.Ticks.{between}
use Rattle.formula_shape.specs.declared.limits.TheConstants.{OBJECT_LIMIT}
use Rattle.formula.specs.Tree.{resolved_view}
use Rattle.kept_rows.specs.declared.binding.TheConstants.{BINDING_LIMIT}
use Rattle.kept_rows.specs.Changes.{AreRising}
use Rattle.kept_rows.specs.Rows.{HasRoom, row_has}
use Rattle.atoms.specs.Asked.{told_world}
use Rattle.object_store.specs.Contents.{catalog_of}
use Rattle.answers.proofs.AskLemmas.{few_classes}
use Rattle.live_queries.specs.Written.{ArePartsOf, AreVariablesWith, DoAscendWith, single_for}
use Rattle.live_queries.proofs.GrowLemmas.{do_ascend, size_with}
use Rattle.live_queries.proofs.JudgedLemmas.{new_rows_are, parts_are_of_classes}
use Rattle.answers.proofs.ReadLemmas.{most_within}
use Rattle.live_queries.proofs.ReadLemmas.{parts_within}
use Rattle.live_queries.proofs.evaluating.new_rows.Goals as goal

pub singles-requires : goal.singles-requires
singles-requires g c = subst (λ (ks : List ℕ). length ks ≤ OBJECT_LIMIT) (sym c.items-classes.ensures) (few_classes (resolved_view c.args.judged.now.query.now) c.requires.judged.resolved)

pub parts_of-requires-clause-domains : goal.parts_of-requires-clause-domains
parts_of-requires-clause-domains g c =
    parts_are_of_classes c.args.judged.now.world.now.store.now c.args.judged.now.world.now.regions.now (resolved_view c.args.judged.now.query.now) c.requires.judged.resolved c.args.arrival.now.object.now.class c.args.arrival.now.object.now.id c.requires.arrival.object.class
    c.requires.arrival.object.there c.deref.result.now
    (c.deref.ensures.value ∙ c.in_ok-singles.ensures
    ∙ ap (λ (ks : List ℕ). flat_map (single_for (catalog_of c.args.judged.now.world.now.store.now) ks c.args.arrival.now.object.now.class c.args.arrival.now.object.now.id) (between 0 (length ks))) c.items-classes.ensures)

pub numbers_with-requires-clause-ascending : goal.numbers_with-requires-clause-ascending
numbers_with-requires-clause-ascending g c =
    subst (λ (ks : List ℕ). DoAscendWith c.args.arrival.now.grows c.args.arrival.now.object.now.class ks c.args.arrival.now.object.now.id c.args.columns.now) (sym c.items-classes.ensures)
    (do_ascend (catalog_of c.args.judged.now.world.now.store.now) c.args.arrival.now.grows c.args.arrival.now.object.now.class c.args.judged.now.query.now.classes c.args.arrival.now.object.now.id c.args.columns.now c.requires.arrival.objects)

pub refresh-requires-clause-size : goal.refresh-requires-clause-size
refresh-requires-clause-size g c =
    subst (λ (n : ℕ). n ≤ BINDING_LIMIT)
    (sym (size_with (catalog_of c.args.judged.now.world.now.store.now) c.args.arrival.now.grows c.args.arrival.now.object.now.class c.args.judged.now.query.now.classes c.args.arrival.now.object.now.id c.args.columns.now c.deref-3.result.now
    (subst (AreVariablesWith c.args.arrival.now.grows c.args.arrival.now.object.now.class c.args.judged.now.query.now.classes c.args.arrival.now.object.now.id c.args.columns.now) (sym c.deref-3.ensures.value)
    (subst (λ (ks : List ℕ). AreVariablesWith c.args.arrival.now.grows c.args.arrival.now.object.now.class ks c.args.arrival.now.object.now.id c.args.columns.now c.in_ok-numbers.numbers.items) c.items-classes.ensures c.in_ok-numbers.ensures)))) c.requires.columns.size

pub refresh-requires-clause-room : goal.refresh-requires-clause-room
refresh-requires-clause-room g c =
    subst (HasRoom c.args.judged.now.rows.now)
    (sym (size_with (catalog_of c.args.judged.now.world.now.store.now) c.args.arrival.now.grows c.args.arrival.now.object.now.class c.args.judged.now.query.now.classes c.args.arrival.now.object.now.id c.args.columns.now c.deref-3.result.now
    (subst (AreVariablesWith c.args.arrival.now.grows c.args.arrival.now.object.now.class c.args.judged.now.query.now.classes c.args.arrival.now.object.now.id c.args.columns.now) (sym c.deref-3.ensures.value)
    (subst (λ (ks : List ℕ). AreVariablesWith c.args.arrival.now.grows c.args.arrival.now.object.now.class ks c.args.arrival.now.object.now.id c.args.columns.now c.in_ok-numbers.numbers.items) c.items-classes.ensures c.in_ok-numbers.ensures)))) c.requires.columns.pages

pub returns-clause-rising : goal.returns-clause-rising
returns-clause-rising g c =
    subst (λ (n : ℕ). AreRising n c.in_ok-changes.changes)
    (size_with (catalog_of c.args.judged.now.world.now.store.now) c.args.arrival.now.grows c.args.arrival.now.object.now.class c.args.judged.now.query.now.classes c.args.arrival.now.object.now.id c.args.columns.now c.deref-3.result.now
    (subst (AreVariablesWith c.args.arrival.now.grows c.args.arrival.now.object.now.class c.args.judged.now.query.now.classes c.args.arrival.now.object.now.id c.args.columns.now) (sym c.deref-3.ensures.value)
    (subst (λ (ks : List ℕ). AreVariablesWith c.args.arrival.now.grows c.args.arrival.now.object.now.class ks c.args.arrival.now.object.now.id c.args.columns.now c.in_ok-numbers.numbers.items) c.items-classes.ensures c.in_ok-numbers.ensures))) c.in_ok-changes.ensures.rising

pub returns-clause-rows : goal.returns-clause-rows
returns-clause-rows g c =
    new_rows_are c.args.judged.now.world.now.store.now c.args.judged.now.world.now.regions.now (resolved_view c.args.judged.now.query.now) c.requires.judged.resolved c.args.arrival.now.object.now.class c.args.arrival.now.object.now.id c.requires.arrival.object.class
    c.args.judged.now.w.lo c.args.judged.now.w.hi c.args.judged.now.from c.args.arrival.now.grows c.args.columns.now c.requires.columns.order c.requires.columns.counted c.requires.arrival.objects c.deref.result.now
    (c.deref.ensures.value ∙ c.in_ok-singles.ensures
    ∙ ap (λ (ks : List ℕ). flat_map (single_for (catalog_of c.args.judged.now.world.now.store.now) ks c.args.arrival.now.object.now.class c.args.arrival.now.object.now.id) (between 0 (length ks))) c.items-classes.ensures)
    c.deref-2.result.now
    (subst (ArePartsOf (told_world c.args.judged.now.world.now) (resolved_view c.args.judged.now.query.now) c.args.judged.now.w.lo c.args.judged.now.w.hi c.deref.result.now)
    (sym c.deref-2.ensures.value) c.in_ok-parts.ensures.parts)
    c.deref-3.result.now
    (subst (AreVariablesWith c.args.arrival.now.grows c.args.arrival.now.object.now.class c.args.judged.now.query.now.classes c.args.arrival.now.object.now.id c.args.columns.now) (sym c.deref-3.ensures.value)
    (subst (λ (ks : List ℕ). AreVariablesWith c.args.arrival.now.grows c.args.arrival.now.object.now.class ks c.args.arrival.now.object.now.id c.args.columns.now c.in_ok-numbers.numbers.items) c.items-classes.ensures c.in_ok-numbers.ensures))
    (row_has spans_have c.args.judged.now.rows.now) _ c.in_ok-changes.ensures.rows

pub returns-in_err-parts-clause-reads : goal.returns-in_err-parts-clause-reads
returns-in_err-parts-clause-reads g c = record {
  least = omega arith;
  most = (most_within _ _ _ _ c.in_err-parts.ensures.reads.most
      (parts_within (catalog_of c.args.judged.now.world.now.store.now) (resolved_view c.args.judged.now.query.now) (c.args.judged.now.w.hi + 1 - c.args.judged.now.w.lo) c.args.arrival.now.object.now.class c.args.arrival.now.object.now.id c.deref.result.now
      (c.deref.ensures.value ∙ c.in_ok-singles.ensures
      ∙ ap (λ (ks : List ℕ). flat_map (single_for (catalog_of c.args.judged.now.world.now.store.now) ks c.args.arrival.now.object.now.class c.args.arrival.now.object.now.id) (between 0 (length ks))) c.items-classes.ensures)));
}

pub returns-in_err-numbers-clause-reads : goal.returns-in_err-numbers-clause-reads
returns-in_err-numbers-clause-reads g c = record {
  least = omega arith;
  most = (most_within _ _ _ _ c.in_ok-parts.ensures.reads.most
      (parts_within (catalog_of c.args.judged.now.world.now.store.now) (resolved_view c.args.judged.now.query.now) (c.args.judged.now.w.hi + 1 - c.args.judged.now.w.lo) c.args.arrival.now.object.now.class c.args.arrival.now.object.now.id c.deref.result.now
      (c.deref.ensures.value ∙ c.in_ok-singles.ensures
      ∙ ap (λ (ks : List ℕ). flat_map (single_for (catalog_of c.args.judged.now.world.now.store.now) ks c.args.arrival.now.object.now.class c.args.arrival.now.object.now.id) (between 0 (length ks))) c.items-classes.ensures)));
}

pub returns-in_err-changes-clause-reads : goal.returns-in_err-changes-clause-reads
returns-in_err-changes-clause-reads g c = record {
  least = omega arith;
  most = (most_within _ _ _ _ c.in_ok-parts.ensures.reads.most
      (parts_within (catalog_of c.args.judged.now.world.now.store.now) (resolved_view c.args.judged.now.query.now) (c.args.judged.now.w.hi + 1 - c.args.judged.now.w.lo) c.args.arrival.now.object.now.class c.args.arrival.now.object.now.id c.deref.result.now
      (c.deref.ensures.value ∙ c.in_ok-singles.ensures
      ∙ ap (λ (ks : List ℕ). flat_map (single_for (catalog_of c.args.judged.now.world.now.store.now) ks c.args.arrival.now.object.now.class c.args.arrival.now.object.now.id) (between 0 (length ks))) c.items-classes.ensures)));
}

pub returns-clause-reads : goal.returns-clause-reads
returns-clause-reads g c = record {
  least = omega arith;
  most = (most_within _ _ _ _ c.in_ok-parts.ensures.reads.most
      (parts_within (catalog_of c.args.judged.now.world.now.store.now) (resolved_view c.args.judged.now.query.now) (c.args.judged.now.w.hi + 1 - c.args.judged.now.w.lo) c.args.arrival.now.object.now.class c.args.arrival.now.object.now.id c.deref.result.now
      (c.deref.ensures.value ∙ c.in_ok-singles.ensures
      ∙ ap (λ (ks : List ℕ). flat_map (single_for (catalog_of c.args.judged.now.world.now.store.now) ks c.args.arrival.now.object.now.class c.args.arrival.now.object.now.id) (between 0 (length ks))) c.items-classes.ensures)));
}
