use Rattle.std.proofs.Common.{◌∙◌, sym, arith}
use Rattle.csv.specs.Records.{fields_of}
use Rattle.object_rows.proofs.RowLemmas.{settings_next, settings_stop, uneven_row}
use Rattle.object_rows.proofs.rows.read_settings.Goals as goal

pub returns-then-len-columns-clause-right : goal.returns-then-len-columns-clause-right
returns-then-len-columns-clause-right c = uneven_row c.args.columns.now (fields_of c.args.row.now) c.requires.named (λ e. c.if-len-columns.true (c.len.ensures ∙ e))

pub returns-in-None-clause-right : goal.returns-in-None-clause-right
returns-in-None-clause-right c =
    settings_stop c.args.columns.now (fields_of c.args.row.now) c.columns.sets.items c.columns.i c.index-columns-i.result _
    c.index-columns-i.is (omega (arith, c.columns-test.true)) (sym c.len.ensures ∙ c.if-len-columns.false) (sym c.part_at.ensures ∙ c.in-None.is)
    c.columns.invariant.whole

pub columns-preserved : goal.columns-preserved
columns-preserved c = record {
  whole = settings_next c.args.columns.now (fields_of c.args.row.now) c.columns.sets.items c.columns.i c.index-columns-i.result c.in-Some.part
      c.put_part.new.sets.items _
      c.index-columns-i.is (omega (arith, c.columns-test.true)) (sym c.part_at.ensures ∙ c.in-Some.is) c.put_part.ensures.value c.columns.invariant.whole;
  few = omega (arith, c.put_part.ensures.few, c.columns.invariant.few);
  room = omega (arith, c.put_part.ensures.capacity, c.columns.invariant.room);
}
