-- The watchers so far.
use Rattle.std.proofs.Common.{◌≡◌, length, take}
use Rattle.turns.specs.Closing.{AreMarked, watcher_numbers}
use Rattle.turns.proofs.open.mark_watchers.Given as goal

abbrev pub invariant-loop-watcher : goal.invariant-loop-watcher
invariant-loop-watcher l = (length l.flags ≡ length l.initial.flags) × AreMarked l.flags (watcher_numbers (take l.watcher-index l.watchers))
