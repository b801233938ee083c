-- The words so far.
use Rattle.std.proofs.Common.{◌≡◌, length, take}
use Rattle.std.specs.List.{range_with_len}
use Rattle.std.specs.Slots.{slots_items}
use Rattle.turns.specs.SharedWords.{replaced}
use Rattle.turns.proofs.shared_words.put_all_back.Given as goal

abbrev pub invariant-loop-k : goal.invariant-loop-k
invariant-loop-k l = l.words ≡ replaced l.initial.words (take l.k (range_with_len 0 (length l.initial.words))) (slots_items l.shared.words)
