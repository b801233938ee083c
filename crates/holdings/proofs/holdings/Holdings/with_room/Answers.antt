-- Room is not seen from outside.
use Rattle.holdings.proofs.Contents.SameEntries.{made_says, sound_stays, same_kept}
use Rattle.holdings.proofs.holdings.Holdings.with_room.Goals as goal

pub invariant_of-result : goal.invariant_of-result
invariant_of-result c =
    let is = c.reserve.ensures in
    sound_stays c.self.inside.shards c.reserve.new.self c.self.inside.trees.items (made_says c.self.inside.shards c.reserve.new.self is.made is.present) c.self.invariant

pub returns : goal.returns
returns c =
    let is = c.reserve.ensures in
    same_kept c.self.inside.shards c.reserve.new.self c.self.inside.trees.items is.made is.layout is.present c.args.self c.self.view_is
