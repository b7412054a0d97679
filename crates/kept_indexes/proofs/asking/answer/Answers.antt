use Rattle.std.proofs.Common.{◌≡◌, ◌+◌, length, sym, ap, subst, ◌∙◌, arith}
use Rattle.std.specs.List.{list_all}
use Rattle.object_store.specs.Contents.{catalog_of, history_of}
use Rattle.plane.specs.Rows.{rows_in_range}
use Rattle.plane_index.specs.Rows.{told_range_rows}
use Rattle.database.specs.Rows.{has_objects}
use Rattle.kept_indexes.proofs.RangeLemmas.{answers_by, lacks_by, lines_by, looks_by, rows_by, rows_stored}
use Rattle.kept_indexes.proofs.asking.answer.Goals as goal

pub returns-in_err-rows-clause-right : goal.returns-in_err-rows-clause-right
returns-in_err-rows-clause-right g c =
    lacks_by c.args.present.now.journal.now c.args.present.now.database.now c.args.kept.now c.store-store.result.now c.store-store.ensures c.requires.keeps c.requires.right
    c.range_rows.new.self c.range_rows.ensures.grid c.range_rows.ensures.right c.in_err-rows.ensures.err

pub returns-in_err-rows-clause-reads : goal.returns-in_err-rows-clause-reads
returns-in_err-rows-clause-reads g c = record {
  least = omega arith;
  most = (looks_by c.args.present.now.journal.now c.args.present.now.database.now c.args.kept.now c.store-store.result.now c.store-store.ensures c.requires.keeps c.requires.right
      c.args.range.now.span c.args.range.now.least c.args.range.now.greatest _ _ _ _
      (c.window_of-window.ensures.ticks.0 ∙ c.clock.ensures) (c.window_of-window.ensures.ticks.1 ∙ ap (λ n. n + c.args.range.now.span) c.clock.ensures)
      c.requires.begun c.range_rows.ensures.reads.most);
}

pub push_rows-requires : goal.push_rows-requires
push_rows-requires g c =
    rows_stored c.args.present.now.journal.now c.args.present.now.database.now c.args.kept.now c.store-store.result.now c.store-store.ensures c.requires.keeps c.requires.right
    (told_range_rows c.deref.result.now) c.args.kept.now.index.grid.class c.args.kept.now.index.grid.attribute c.args.range.now.least c.args.range.now.greatest c.args.range.now.span
    (rows_by c.args.present.now.journal.now c.args.present.now.database.now c.args.kept.now c.store-store.result.now c.store-store.ensures c.requires.keeps c.requires.right
    (told_range_rows c.deref.result.now) c.args.kept.now.index.grid.class c.args.kept.now.index.grid.attribute c.args.range.now.least c.args.range.now.greatest _ _ c.args.range.now.span
    (c.window_of-window.ensures.ticks.0 ∙ c.clock.ensures) (c.window_of-window.ensures.ticks.1 ∙ ap (λ n. n + c.args.range.now.span) c.clock.ensures)
    (ap told_range_rows c.deref.ensures.value ∙ c.in_ok-rows.ensures.rows))

pub returns-in_err-push_rows-clause-right : goal.returns-in_err-push_rows-clause-right
returns-in_err-push_rows-clause-right g c =
    answers_by c.args.present.now.journal.now c.args.present.now.database.now c.args.kept.now c.store-store.result.now c.store-store.ensures c.requires.keeps c.requires.right
    c.range_rows.new.self c.args.kept.now.seen c.range_rows.ensures.grid c.requires.right.seen c.range_rows.ensures.right c.in_ok-rows.ensures.fresh

pub returns-in_err-push_rows-clause-reads : goal.returns-in_err-push_rows-clause-reads
returns-in_err-push_rows-clause-reads g c = record {
  least = omega arith;
  most = (looks_by c.args.present.now.journal.now c.args.present.now.database.now c.args.kept.now c.store-store.result.now c.store-store.ensures c.requires.keeps c.requires.right
      c.args.range.now.span c.args.range.now.least c.args.range.now.greatest _ _ _ _
      (c.window_of-window.ensures.ticks.0 ∙ c.clock.ensures) (c.window_of-window.ensures.ticks.1 ∙ ap (λ n. n + c.args.range.now.span) c.clock.ensures)
      c.requires.begun c.range_rows.ensures.reads.most);
}

pub returns-in_err-make_room-clause-right : goal.returns-in_err-make_room-clause-right
returns-in_err-make_room-clause-right g c =
    answers_by c.args.present.now.journal.now c.args.present.now.database.now c.args.kept.now c.store-store.result.now c.store-store.ensures c.requires.keeps c.requires.right
    c.range_rows.new.self c.args.kept.now.seen c.range_rows.ensures.grid c.requires.right.seen c.range_rows.ensures.right c.in_ok-rows.ensures.fresh

pub returns-in_err-make_room-clause-reads : goal.returns-in_err-make_room-clause-reads
returns-in_err-make_room-clause-reads g c = record {
  least = omega arith;
  most = (looks_by c.args.present.now.journal.now c.args.present.now.database.now c.args.kept.now c.store-store.result.now c.store-store.ensures c.requires.keeps c.requires.right
      c.args.range.now.span c.args.range.now.least c.args.range.now.greatest _ _ _ _
      (c.window_of-window.ensures.ticks.0 ∙ c.clock.ensures) (c.window_of-window.ensures.ticks.1 ∙ ap (λ n. n + c.args.range.now.span) c.clock.ensures)
      c.requires.begun c.range_rows.ensures.reads.most);
}

pub returns-clause-right : goal.returns-clause-right
returns-clause-right g c =
    let upto : c.len-kept.result ≡ length c.args.present.now.journal.now = c.len-kept.ensures.value in
    answers_by c.args.present.now.journal.now c.args.present.now.database.now c.args.kept.now c.store-store.result.now c.store-store.ensures c.requires.keeps c.requires.right
    c.range_rows.new.self c.len-kept.result c.range_rows.ensures.grid (omega (arith, upto)) c.range_rows.ensures.right c.in_ok-rows.ensures.fresh

pub returns-clause-rows : goal.returns-clause-rows
returns-clause-rows g c =
    lines_by c.args.present.now.journal.now c.args.present.now.database.now c.args.kept.now c.store-store.result.now c.store-store.ensures c.requires.keeps c.requires.right
    (told_range_rows c.deref.result.now) c.args.out.now.items c.make_room.new.out.items c.clock-2.result
    c.args.kept.now.index.grid.class c.args.kept.now.index.grid.attribute c.args.range.now.least c.args.range.now.greatest c.args.range.now.span c.clock-2.ensures
    (rows_by c.args.present.now.journal.now c.args.present.now.database.now c.args.kept.now c.store-store.result.now c.store-store.ensures c.requires.keeps c.requires.right
    (told_range_rows c.deref.result.now) c.args.kept.now.index.grid.class c.args.kept.now.index.grid.attribute c.args.range.now.least c.args.range.now.greatest _ _ c.args.range.now.span
    (c.window_of-window.ensures.ticks.0 ∙ c.clock.ensures) (c.window_of-window.ensures.ticks.1 ∙ ap (λ n. n + c.args.range.now.span) c.clock.ensures)
    (ap told_range_rows c.deref.ensures.value ∙ c.in_ok-rows.ensures.rows))
    (c.make_room.ensures.same ∙ c.in_ok-push_rows.ensures.ok)

pub returns-clause-reads : goal.returns-clause-reads
returns-clause-reads g c = record {
  least = omega arith;
  most = (looks_by c.args.present.now.journal.now c.args.present.now.database.now c.args.kept.now c.store-store.result.now c.store-store.ensures c.requires.keeps c.requires.right
      c.args.range.now.span c.args.range.now.least c.args.range.now.greatest _ _ _ _
      (c.window_of-window.ensures.ticks.0 ∙ c.clock.ensures) (c.window_of-window.ensures.ticks.1 ∙ ap (λ n. n + c.args.range.now.span) c.clock.ensures)
      c.requires.begun c.range_rows.ensures.reads.most);
}
