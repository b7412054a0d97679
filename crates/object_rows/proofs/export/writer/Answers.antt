use Rattle.object_rows.proofs.WriterLemmas.{fresh_writer}
use Rattle.object_rows.proofs.export.writer.Goals as goal

pub returns : goal.returns
returns c =
    let from = c.from_writer.ensures in
    let f = fresh_writer c.from_writer.result c.new.result from.wtr c.new.ensures.items from.empty from.cfg from.fields from.wrote in
    record { between = f.between; text = f.text }
