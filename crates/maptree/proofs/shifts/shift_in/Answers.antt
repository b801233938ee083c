-- The nodes behind stand one higher.
use Rattle.maptree.proofs.BlockChanges.{shifted_in}
use Rattle.maptree.proofs.shifts.shift_in.Goals as goal

pub returns : goal.returns
returns c = shifted_in c.args.nodes.now c.args.i c.args.node c.copy_within.new.self c.requires c.copy_within.ensures.after
