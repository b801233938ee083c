-- The nodes so far are deeper.
use Rattle.std.proofs.Common.{arith}
use Rattle.maptree.proofs.Positions.{run_more, run_stops, run_all}
use Rattle.maptree.proofs.scans.deeper.Goals as goal

pub loop-i-init : goal.loop-i-init
loop-i-init c = omega arith

pub returns-then-nodes-i : goal.returns-then-nodes-i
returns-then-nodes-i c = run_stops _ _ _ _ c.loop-i.invariant c.loop-i-test.true c.if-nodes-i.true

pub loop-i-preserved : goal.loop-i-preserved
loop-i-preserved c = run_more _ _ _ _ c.loop-i.invariant c.loop-i-test.true c.if-nodes-i.false

pub returns : goal.returns
returns c = run_all _ _ c.loop-i.i c.loop-i.invariant (omega arith)
