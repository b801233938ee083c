-- The roots of the frames so far are held, and nothing else.
use Rattle.std.proofs.Common.{◌≡◌}
use Rattle.std.specs.Prelude.{IsFalse}
use Rattle.space.specs.declared.place.Place.{Place}
use Rattle.space.specs.Shards.{IsLaidOutAs, IsPlace, entry_at, is_taken}
use Rattle.holdings.specs.Inner.Start.{root_entry}
use Rattle.holdings.proofs.start.put_roots.Given as goal

abbrev pub invariant-loop-frame : goal.invariant-loop-frame
invariant-loop-frame l = record {
  layout : IsLaidOutAs l.fn.shards l.shards;
  present : IsFalse (is_taken l.shards);
  entries : (p : Place) → IsPlace l.shards p → entry_at l.shards p ≡ root_entry l.frame p;
}
