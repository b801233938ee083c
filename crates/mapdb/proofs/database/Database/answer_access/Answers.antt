-- An access changes no table.
use Rattle.std.proofs.Common.{sym, ap, ◌∙◌}
use Rattle.model.specs.Definitions.Holdings.{Holdings}
use Rattle.model.specs.Definitions.Changes.{tables_of}
use Rattle.model.proofs.TableChanges.{access_changes_no_table}
use Rattle.mapdb.specs.State.{State}
use Rattle.mapdb.proofs.ToldNotes.{none_tell}
use Rattle.mapdb.proofs.database.Database.answer_access.Goals as goal

pub returns-clause-noted : goal.returns-clause-noted
returns-clause-noted g c =
    let s : State = c.args.self.now in
    let lawful = c.limits.ensures.lawful (sym c.if-is_halted.ensures) in
    let left = ap (λ (n : State). n.holdings) c.in_ok-answers.ensures.left in
    none_tell s.holdings c.access_all.new.self.holdings c.args.scratch.now.notes c.forget.new.self c.forget.ensures.asked c.forget.ensures.list
    (λ p. ap (λ (h : Holdings). tables_of h p) left ∙ access_changes_no_table s.limits s.holdings lawful c.args.access.0 c.args.access.1 p)
