-- The roots of the frames so far are held, and nothing else.
use Rattle.std.proofs.Common.{◌≡◌, ◌≤◌, ◌-◌}
use Rattle.std.specs.Prelude.{IsFalse}
use Rattle.space.specs.declared.place.Place.{Place}
use Rattle.space.specs.Shards.{spaces_of, bits_of, IsPlace, entry_at, is_taken}
use Rattle.holdings.specs.Inner.Start.{root_entry}
use Rattle.holdings.proofs.start.root_words.Given as goal

abbrev pub invariant-loop-from : goal.invariant-loop-from
invariant-loop-from l = record {
  upto : l.from ≤ l.limits.frames;
  spaces : spaces_of l.shards ≡ l.limits.spaces;
  bits : bits_of l.shards ≡ l.limits.bits;
  present : IsFalse (is_taken l.shards);
  entries : (p : Place) → IsPlace l.shards p → entry_at l.shards p ≡ root_entry l.from p;
}

abbrev pub decreases-loop-from : goal.decreases-loop-from
decreases-loop-from l = l.limits.frames - l.from
