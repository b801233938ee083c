-- Each time there is a cut less.
use Rattle.std.proofs.Common.{◌+◌, ◌*◌, length}
use Rattle.crew.proofs.change.+parts.Given as goal

abbrev pub decreases-change_both : goal.decreases-change_both
decreases-change_both g l = length l.cuts.now * 3 + 2

abbrev pub decreases-change_parts : goal.decreases-change_parts
decreases-change_parts g l = length l.cuts.now * 3

abbrev pub decreases-change_both-ours : goal.decreases-change_both-ours
decreases-change_both-ours g l = length l.cuts.now * 3 + 1
