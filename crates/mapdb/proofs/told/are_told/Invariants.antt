-- The pages so far are to be told, and those of the last run are held.
use Rattle.std.proofs.Common.{◌≡◌, true, Some, take}
use Rattle.std.specs.List.{list_all}
use Rattle.space.specs.declared.place.Place.{Place}
use Rattle.model.specs.Definitions.Holdings.{is_held}
use Rattle.mapdb.specs.Noted.{is_told, IsInRun}
use Rattle.mapdb.proofs.told.are_told.Given as goal

abbrev pub invariant-loop-note : goal.invariant-loop-note
invariant-loop-note l = record {
  told : list_all (λ n. is_told (Some n.was_held) (is_held l.held.holdings n.place)) (take l.note-index l.notes) ≡ true;
  run : (p : Place) → IsInRun l.run p → is_held l.held.holdings p ≡ true;
}
