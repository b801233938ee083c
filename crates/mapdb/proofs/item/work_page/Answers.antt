-- A page that goes is flushed at its target, where something is held.
use Rattle.std.proofs.Common.{[], ◌∷◌, sym}
use Rattle.mapdb.proofs.Ends.{none_replaced, one_replaced}
use Rattle.mapdb.proofs.item.work_page.Goals as goal

pub work_phases-requires-in-Some-2-clause-replaced : goal.work_phases-requires-in-Some-2-clause-replaced
work_phases-requires-in-Some-2-clause-replaced g c =
    let h = c.args.held.holdings in
    let p = c.args.pages.now in
    let o = c.outcome-outcome.result in
    one_replaced h p.source p.target o [] (c.in-Some.transfer ∷ []) [] c.replaced.result.now c.outcome-outcome.ensures.free c.outcome-outcome.ensures.held (none_replaced h) (sym c.in-Some.ensures) c.replaced.ensures
