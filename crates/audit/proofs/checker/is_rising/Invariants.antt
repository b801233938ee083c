-- Whether they rise is decided by the lines from the one before on.
use Rattle.std.proofs.Common.{◌≡◌, ◌-◌, drop, map}
use Rattle.std.specs.FinMap.Entries.{is_sorted}
use Rattle.space.specs.Place.{place_cmp}
use Rattle.mapdb.specs.Held.{mapped_of}
use Rattle.audit.proofs.checker.is_rising.Given as goal

abbrev pub invariant-loop-i : goal.invariant-loop-i
invariant-loop-i l = is_sorted place_cmp (map mapped_of l.lines) ≡ is_sorted place_cmp (map mapped_of (drop (l.i - 1) l.lines))
