use Rattle.csv.specs.Records.{fields_of}
use Rattle.object_rows.proofs.ReaderLemmas.{read_row}
use Rattle.object_rows.proofs.reading.next_row.Goals as goal

pub returns-clause-between : goal.returns-clause-between
returns-clause-between c =
    let was = c.requires.between in
    (read_row c.args.reader.now c.read_byte_record.new.self c.in-Ok.found (fields_of c.read_byte_record.new.row) was (c.in-Ok.ensures.reads was.trim was.ready)
    (c.in-Ok.ensures.ready was.trim)).between

pub returns-clause-left : goal.returns-clause-left
returns-clause-left c =
    let was = c.requires.between in
    (read_row c.args.reader.now c.read_byte_record.new.self c.in-Ok.found (fields_of c.read_byte_record.new.row) was (c.in-Ok.ensures.reads was.trim was.ready)
    (c.in-Ok.ensures.ready was.trim)).left
