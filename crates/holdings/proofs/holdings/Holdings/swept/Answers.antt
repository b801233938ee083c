-- What is dead is not seen from outside.
use Rattle.holdings.proofs.Contents.SameEntries.{made_says, sound_stays, same_kept}
use Rattle.holdings.proofs.holdings.Holdings.swept.Goals as goal

pub invariant_of-result-2 : goal.invariant_of-result-2
invariant_of-result-2 c =
    let is = c.sweep.ensures in
    sound_stays c.self.inside.shards c.sweep.new.self c.self.inside.trees.items (made_says c.self.inside.shards c.sweep.new.self is.made is.present) c.self.invariant

pub returns : goal.returns
returns c =
    let is = c.sweep.ensures in
    same_kept c.self.inside.shards c.sweep.new.self c.self.inside.trees.items is.made is.layout is.present c.args.self c.self.view_is
