use Rattle.csv.specs.Records.{fields_of}
use Rattle.csv.specs.declared.writer.QuoteStyle.TheVariants as styles
use Rattle.std.proofs.Common.{◌≢◌}
use Rattle.csv.specs.Writing.{writer_setup}
use Rattle.object_rows.proofs.WriterLemmas.{row_written}
use Rattle.object_rows.proofs.export.write_row.Goals as goal
use Rattle.object_rows.proofs.export.write_row.Goals.{in-Ok, in-Err}

pub returns-clause-between : goal.returns-clause-between
returns-clause-between c = elim c.match-write_byte_record.branch [
  | in-Ok w ↦
      let was = c.requires.between in
      let plain : (writer_setup c.args.writer.now).style ≢ styles.NonNumeric = rw was.setup (λ e. cc e) in
      rw w.result-is (row_written c.args.writer.now c.write_byte_record.new.self (fields_of c.args.row.now) was
      (w.in-Ok.ensures.bytes was.fields was.wrote plain) w.in-Ok.ensures.ended w.in-Ok.ensures.clean w.in-Ok.ensures.setup).between
  | in-Err w ↦ rw w.result-is tt
]

pub returns-clause-text : goal.returns-clause-text
returns-clause-text c = elim c.match-write_byte_record.branch [
  | in-Ok w ↦
      let was = c.requires.between in
      let plain : (writer_setup c.args.writer.now).style ≢ styles.NonNumeric = rw was.setup (λ e. cc e) in
      rw w.result-is (row_written c.args.writer.now c.write_byte_record.new.self (fields_of c.args.row.now) was
      (w.in-Ok.ensures.bytes was.fields was.wrote plain) w.in-Ok.ensures.ended w.in-Ok.ensures.clean w.in-Ok.ensures.setup).text
  | in-Err w ↦ rw w.result-is tt
]
