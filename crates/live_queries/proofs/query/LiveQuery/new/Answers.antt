use Rattle.std.proofs.Common.{ℕ, ◌≤◌, ◌&&◌, List, length, take, drop, refl, sym, ap, ◌∙◌, subst, arith}
use Rattle.std.specs.Option.{ForSome}
use Rattle.tick_set.specs.declared.spans.Span.{Span}
use Rattle.tick_set.specs.Runs.{spans_have}
use Rattle.tick_set.specs.Ticks.{within}
use Rattle.formula.specs.Tree.{resolved_view}
use Rattle.kept_rows.specs.declared.binding.TheConstants.{BINDING_LIMIT}
use Rattle.kept_rows.specs.Exact.{AreFullRows}
use Rattle.kept_rows.specs.Numbers.{counts, size_of}
use Rattle.kept_rows.specs.Rows.{HasRoom, row_has}
use Rattle.meaning.specs.Binding.{holds_full}
use Rattle.meaning.specs.Reads.{sizes_of}
use Rattle.object_store.specs.Contents.{catalog_of}
use Rattle.atoms.specs.Asked.{told_world}
use Rattle.live_queries.specs.Columns.{Column, column_variables, object_at_number}
use Rattle.live_queries.specs.Lone.{IsLone}
use Rattle.live_queries.specs.Told.{told_info}
use Rattle.live_queries.proofs.AnewLemmas.{anew_is_kept, anew_is_registered, few_numbers, targets_first}
use Rattle.live_queries.proofs.ReadLemmas.{most_over}
use Rattle.live_queries.proofs.query.LiveQuery.new.Goals as goal

pub rows_between-requires-clause-size : goal.rows_between-requires-clause-size
rows_between-requires-clause-size g c =
    subst (λ (cs : List Column). size_of (column_variables cs) ≤ BINDING_LIMIT) (sym c.deref.ensures.value)
    (few_numbers (catalog_of c.args.present.now.world.now.store.now) (resolved_view c.args.query) c.in_ok-columns.columns.items c.requires.resolved c.in_ok-columns.ensures c.requires.size)

pub targets_of-targets-requires-clause-few : goal.targets_of-targets-requires-clause-few
targets_of-targets-requires-clause-few g c =
    let few = targets_first (catalog_of c.args.present.now.world.now.store.now) (resolved_view c.args.query) c.in_ok-columns.columns.items c.in_ok-columns.ensures in
    let targets = ap (λ (vs : List ℕ). length vs) c.items.ensures in
    let columns = ap (λ (cs : List Column). length cs) c.deref-2.ensures.value in
    omega (arith, few, targets, columns)

pub targets_of-targets-requires-clause-size : goal.targets_of-targets-requires-clause-size
targets_of-targets-requires-clause-size g c =
    subst (λ (cs : List Column). size_of (column_variables cs) ≤ BINDING_LIMIT) (sym c.deref-2.ensures.value)
    (few_numbers (catalog_of c.args.present.now.world.now.store.now) (resolved_view c.args.query) c.in_ok-columns.columns.items c.requires.resolved c.in_ok-columns.ensures c.requires.size)

pub invariant_of-result : goal.invariant_of-result
invariant_of-result g c = (
  (anew_is_kept (catalog_of c.args.present.now.world.now.store.now) _ c.requires.resolved
      (c.fitting_queries_can_be_asked.ensures.over (resolved_view c.args.query) c.requires.resolved) c.in_ok-columns.ensures
      (few_numbers (catalog_of c.args.present.now.world.now.store.now) (resolved_view c.args.query) c.in_ok-columns.columns.items c.requires.resolved c.in_ok-columns.ensures c.requires.size)
      (subst (λ (rows : List (List (List Span))). HasRoom rows (size_of (column_variables c.in_ok-columns.columns.items))) (sym c.file_rows.ensures)
      (subst (λ (cs : List Column). HasRoom c.in_ok-rows.rows (size_of (column_variables cs))) c.deref.ensures.value c.in_ok-rows.ensures.room))
      c.requires.ends.window c.requires.ends.last),
  c.targets_of-targets.ensures.count ∙ (λ i. size_of (column_variables (take (length (c.items.ensures i)) (c.deref-2.ensures.value i)))),
  c.targets_of-targets.ensures.width ∙ (λ i. size_of (column_variables (drop (length (c.items.ensures i)) (c.deref-2.ensures.value i)))),
  c.requires.ends.length,
  subst (λ (cs : List Column). ForSome c.lone_of-lone.result (IsLone c.args.query.classes cs)) c.deref-3.ensures.value c.lone_of-lone.ensures,
)

pub returns-clause-registered : goal.returns-clause-registered
returns-clause-registered g c =
    anew_is_registered (told_world c.args.present.now.world.now) c.args.present.now.tick (told_info c.args.info.now) _ c.first_told-lo.result refl c.requires.fits
    c.in_ok-columns.ensures c.first_told-lo.ensures.told
    (subst (λ (rows : List (List (List Span))). AreFullRows (row_has spans_have rows) (counts (column_variables c.in_ok-columns.columns.items))
    (λ n t. within c.first_told-lo.result c.args.info.now.expiry t
    && holds_full (told_world c.args.present.now.world.now) (resolved_view c.args.query) c.args.info.now.expiry (object_at_number c.in_ok-columns.columns.items n) t))
    (sym c.file_rows.ensures)
    (subst (λ (cs : List Column). AreFullRows (row_has spans_have c.in_ok-rows.rows) (counts (column_variables cs))
    (λ n t. within c.first_told-lo.result c.args.info.now.expiry t
    && holds_full (told_world c.args.present.now.world.now) (resolved_view c.args.query) c.args.info.now.expiry (object_at_number cs n) t))
    c.deref.ensures.value c.in_ok-rows.ensures.rows))

pub returns-clause-kept : goal.returns-clause-kept
returns-clause-kept g c =
    (anew_is_kept (catalog_of c.args.present.now.world.now.store.now) _ c.requires.resolved
    (c.fitting_queries_can_be_asked.ensures.over (resolved_view c.args.query) c.requires.resolved) c.in_ok-columns.ensures
    (few_numbers (catalog_of c.args.present.now.world.now.store.now) (resolved_view c.args.query) c.in_ok-columns.columns.items c.requires.resolved c.in_ok-columns.ensures c.requires.size)
    (subst (λ (rows : List (List (List Span))). HasRoom rows (size_of (column_variables c.in_ok-columns.columns.items))) (sym c.file_rows.ensures)
    (subst (λ (cs : List Column). HasRoom c.in_ok-rows.rows (size_of (column_variables cs))) c.deref.ensures.value c.in_ok-rows.ensures.room))
    c.requires.ends.window c.requires.ends.last)

pub returns-in_err-rows-clause-reads : goal.returns-in_err-rows-clause-reads
returns-in_err-rows-clause-reads g c = record {
  least = omega arith;
  most = (most_over (sizes_of (catalog_of c.args.present.now.world.now.store.now) (resolved_view c.args.query)) (resolved_view c.args.query) _ _ c.first_told-lo.result
      c.args.info.now.entry c.args.info.now.expiry c.first_told-lo.ensures.least c.in_err-rows.ensures.reads.most);
}

pub returns-clause-reads : goal.returns-clause-reads
returns-clause-reads g c = record {
  least = omega arith;
  most = (most_over (sizes_of (catalog_of c.args.present.now.world.now.store.now) (resolved_view c.args.query)) (resolved_view c.args.query) _ _ c.first_told-lo.result
      c.args.info.now.entry c.args.info.now.expiry c.first_told-lo.ensures.least c.in_ok-rows.ensures.reads.most);
}

pub returns-in_err-file_rows-clause-reads : goal.returns-in_err-file_rows-clause-reads
returns-in_err-file_rows-clause-reads g c = record {
  least = omega arith;
  most = (most_over (sizes_of (catalog_of c.args.present.now.world.now.store.now) (resolved_view c.args.query)) (resolved_view c.args.query) _ _ c.first_told-lo.result
      c.args.info.now.entry c.args.info.now.expiry c.first_told-lo.ensures.least c.in_ok-rows.ensures.reads.most);
}
