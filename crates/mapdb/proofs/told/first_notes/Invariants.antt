-- The notes so far, from the last one on.
use Rattle.std.proofs.Common.{◌≡◌, ◌-◌, drop, length}
use Rattle.std.specs.BTreeMap.{get}
use Rattle.space.specs.Place.{place_cmp}
use Rattle.space.specs.declared.place.Place.{Place}
use Rattle.model.specs.Definitions.Holdings.{is_held}
use Rattle.holdings.specs.Noting.{first_note}
use Rattle.mapdb.specs.Noted.{unless_held}
use Rattle.mapdb.proofs.told.first_notes.Given as goal

abbrev pub invariant-loop-i : goal.invariant-loop-i
invariant-loop-i l = (p : Place) → get place_cmp l.firsts p ≡ unless_held (is_held l.held.holdings p) (first_note (drop (length l.notes - l.i) l.notes) p)
