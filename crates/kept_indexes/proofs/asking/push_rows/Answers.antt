use Rattle.std.proofs.Common.{◌++◌, length, ap}
use Rattle.tick_set.specs.Runs.{pairs}
use Rattle.object_store.specs.Contents.{catalog_of}
use Rattle.line_meaning.specs.Reply.{rows_text}
use Rattle.plane_index.specs.Rows.{told_range_rows}
use Rattle.reply_text.proofs.BeginLemmas.{begins_through}
use Rattle.kept_indexes.proofs.RangeLemmas.{range_rest, range_step}
use Rattle.kept_indexes.proofs.asking.push_rows.Goals as goal

pub rows-preserved : goal.rows-preserved
rows-preserved c =
    let s = c.args.store.now in
    let split = c.in-Some.ensures.cases.0 in
    let rest = range_rest (length (catalog_of s).objects) c.in-Some.row.now c.in-Some.later.now c.rows.rest.now split c.rows.invariant.there in
    record {
      whole = range_step s c.args.tick c.name_of.result.now (pairs c.spans.result.now) c.in-Some.row.now c.in-Some.later.now c.rows.rest.now
          c.rows.out.items c.push_row.new.out.items (c.args.out.now.items ++ rows_text (catalog_of s) c.args.tick (told_range_rows c.args.rows.now))
          split c.name_of.ensures (ap pairs c.spans.ensures.value) c.in_ok-push_row.ensures.ok c.rows.invariant.whole;
      begins = begins_through _ _ _ c.rows.invariant.begins c.in_ok-push_row.ensures.begins;
      there = rest.1;
    }
