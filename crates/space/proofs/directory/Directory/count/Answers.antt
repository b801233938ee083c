-- No more shards are there than there can be.
use Rattle.space.proofs.Leaves.{found_in, few_there}
use Rattle.space.proofs.directory.Directory.count.Goals as goal

pub returns-clause-few : goal.returns-clause-few
returns-clause-few c = let d = c.args.self.now in few_there d.most d.count d.branches.items d.leaves.items d.positions.items (found_in d)
