-- Of any steps, and of the steps of pieces.
use Rattle.pieces.proofs.Writers.{one_writer, no_writer, all_write, all_apart}
use Rattle.pieces.proofs.laws.steps_apart.Goals as goal

pub returns-clause-one_writer_decides : goal.returns-clause-one_writer_decides
returns-clause-one_writer_decides c = one_writer

pub returns-clause-no_writer_adds : goal.returns-clause-no_writer_adds
returns-clause-no_writer_adds c = no_writer

pub returns-clause-steps_write_what_changes : goal.returns-clause-steps_write_what_changes
returns-clause-steps_write_what_changes c = all_write

pub returns-clause-steps_are_apart : goal.returns-clause-steps_are_apart
returns-clause-steps_are_apart c = all_apart
