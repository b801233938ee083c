-- The row is the first of those that are left, and the reader reads on.
use Rattle.csv.specs.Records.{fields_of}
use Rattle.trace.proofs.ReadRows.{row_read, reads_on}
use Rattle.trace.proofs.records.next_row.Goals as goal

pub returns-clause-rows : goal.returns-clause-rows
returns-clause-rows c =
    let step = c.in-Ok.ensures.reads c.requires.trim c.requires.ready in
    row_read c.args.rows.now c.read_byte_record.new.self c.in-Ok.found (fields_of c.read_byte_record.new.row) c.requires step

pub returns-clause-reading : goal.returns-clause-reading
returns-clause-reading c =
    let step = c.in-Ok.ensures.reads c.requires.trim c.requires.ready in
    λ found. reads_on c.args.rows.now c.read_byte_record.new.self c.in-Ok.found (fields_of c.read_byte_record.new.row) c.requires step (c.in-Ok.ensures.ready c.requires.trim) c.in-Ok.ensures.goes
