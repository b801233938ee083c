-- The words so far.
use Rattle.std.proofs.Common.{◌≡◌, take}
use Rattle.std.specs.Slots.{slots_items}
use Rattle.turns.specs.SharedWords.{replaced}
use Rattle.turns.proofs.shared_words.put_listed_back.Given as goal

abbrev pub invariant-loop-k : goal.invariant-loop-k
invariant-loop-k l = l.words ≡ replaced l.initial.words (take l.k l.at) (slots_items l.shared.words)
