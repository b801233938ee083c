-- the items so far and those of the words that are left are the items of all
use Rattle.std.proofs.Common.{◌≡◌, ◌*◌, take, drop}
use Rattle.std.specs.List.{All}
use Rattle.fpage.specs.Fpage.{IsFpageOf}
use Rattle.model.specs.Definitions.Records.{read_items}
use Rattle.fields.proofs.ReadWords.{items_after}
use Rattle.fields.proofs.words.read_items.Given as goal

abbrev pub invariant-loop-i : goal.invariant-loop-i
invariant-loop-i l = record {
  items : items_after (take l.i l.items) (read_items l.bits (drop (2 * l.i) l.words)) ≡ read_items l.bits l.words;
  within : All (λ item. IsFpageOf l.bits item.sent) (take l.i l.items);
}
