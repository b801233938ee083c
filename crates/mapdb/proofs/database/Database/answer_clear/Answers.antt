-- The notes of the call before are forgotten.
use Rattle.mapdb.proofs.ToldNotes.{change_tells}
use Rattle.mapdb.proofs.database.Database.answer_clear.Goals as goal

pub returns-in-Ok-clause-noted : goal.returns-in-Ok-clause-noted
returns-in-Ok-clause-noted g c = change_tells c.args.self.now.holdings c.clear_noted.new.self.holdings c.args.scratch.now.notes c.forget-asked.new.self.notes c.clear_noted.new.notes c.forget-asked.ensures.kept c.forget-asked.ensures.none c.in-Ok.ensures.noted
