use Rattle.crew.proofs.WorkerSums.{new_worker}
use Rattle.crew.proofs.worker.Worker.new.Goals as goal

pub invariant_of-result : goal.invariant_of-result
invariant_of-result g c =
    new_worker g.N.Which.shared g.M.Crewed.crew c.args.own c.args.passes.items c.args.turns.items c.requires.none c.requires.parts c.requires.passes c.requires.turns
