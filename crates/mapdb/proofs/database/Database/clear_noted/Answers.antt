-- What was held before the clear is what the database held when it was called.
use Rattle.std.proofs.Common.{subst}
use Rattle.model.specs.Definitions.Holdings.{Holdings}
use Rattle.mapdb.specs.Noted.{NotesChange}
use Rattle.mapdb.proofs.ToldNotes.{change_of}
use Rattle.mapdb.proofs.database.Database.clear_noted.Goals as goal

pub returns-clause-noted : goal.returns-clause-noted
returns-clause-noted g c =
    let held = c.in_ok-held-2.held.holdings in
    subst (λ (h : Holdings). NotesChange h held c.args.notes.now c.keep_told.new.notes) c.in_ok-held.ensures.held
    (change_of c.in_ok-held.held.holdings held c.args.notes.now c.clear_space.new.notes c.keep_told.new.notes c.in_ok-held-2.ensures.noted c.keep_told.ensures.asked c.in_ok-keep_told.ensures.told)
