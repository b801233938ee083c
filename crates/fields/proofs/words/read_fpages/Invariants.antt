-- the fpages so far and those of the words that are left are the fpages of all
use Rattle.std.proofs.Common.{◌≡◌, take, drop}
use Rattle.std.specs.List.{All, zip}
use Rattle.fpage.specs.Fpage.{IsFpageOf}
use Rattle.model.specs.Definitions.Records.{read_words}
use Rattle.fields.proofs.ReadWords.{named_after}
use Rattle.fields.proofs.words.read_fpages.Given as goal

abbrev pub invariant-loop-i : goal.invariant-loop-i
invariant-loop-i l = record {
  read : named_after (zip (take l.i l.words) (take l.i l.fpages)) (read_words l.bits (drop l.i l.words)) ≡ read_words l.bits l.words;
  within : All (IsFpageOf l.bits) (take l.i l.fpages);
}
