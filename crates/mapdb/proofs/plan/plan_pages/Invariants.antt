-- The pages so far are decided.
use Rattle.mapdb.specs.Sending.{IsDecided}
use Rattle.mapdb.proofs.plan.plan_pages.Given as goal

abbrev pub invariant-loop-i : goal.invariant-loop-i
invariant-loop-i l = IsDecided l.held.holdings l.pages l.i l.plan
