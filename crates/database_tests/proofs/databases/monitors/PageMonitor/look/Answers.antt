-- The words before the unmap and after it say what the page holds then.
use Rattle.std.proofs.Common.{inl, inr, ⊎_elim, ◌∙◌}
use Rattle.pieces.specs.Applied.{worked}
use Rattle.database_tests.specs.Monitors.{left_by}
use Rattle.database_tests.proofs.Pages.{found}
use Rattle.database_tests.proofs.databases.monitors.PageMonitor.look.Goals as goal

pub returns-clause-found : goal.returns-clause-found
returns-clause-found c =
    let m = c.args.self.now in
    let o = c.args.shared.now.opening in
    let old = m.database.value in
    let phase = c.requires.beside.phase in
    let index = c.requires.beside.at_index in
    ⊎_elim (λ is. inl (is ∙ found old.layout old.holdings o.words phase.before m.page m.index index))
    (λ is. inr (is ∙ found old.layout (left_by old m.space m.control.flush m.fpage) (worked o.words o.pieces) phase.after m.page m.index index))
    c.look.ensures.one
