use Rattle.std.proofs.Common.{rules, ◌<◌, length, get_or}
use Rattle.turns.proofs.Rising.{none_between}
use Rattle.turns.proofs.shared_words.listed_place.Goals as goal

pub returns-else-k-at : goal.returns-else-k-at
returns-else-k-at c =
    let above : c.loop-k-2.k < length c.args.at.now → c.args.index < get_or c.args.at.now c.loop-k-2.k 0 = search rules in
    none_between c.args.at.now c.args.index c.loop-k-2.k c.requires.rise c.loop-k-2.invariant.0 c.loop-k-2.invariant.1 above
