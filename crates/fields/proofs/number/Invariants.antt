-- the value so far and the digits that are left spell the number
use Rattle.std.proofs.Common.{◌≡◌, ◌<◌, ◌^◌, drop}
use Rattle.model.specs.Definitions.Records.{value_of}
use Rattle.fields.proofs.SpelledDigits.{spelled}
use Rattle.fields.proofs.number.Given as goal

abbrev pub invariant-loop-byte : goal.invariant-loop-byte
invariant-loop-byte l = record {
  spells : spelled l.base l.value (drop l.byte-index l.field) ≡ value_of l.base l.field;
  small : l.value < l.base ^ l.byte-index;
}
