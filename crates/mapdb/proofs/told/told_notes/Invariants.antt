-- The notes so far that are to be told.
use Rattle.std.proofs.Common.{◌≡◌, filter, take}
use Rattle.std.specs.BTreeMap.{get}
use Rattle.space.specs.Place.{place_cmp}
use Rattle.model.specs.Definitions.Holdings.{is_held}
use Rattle.mapdb.specs.Noted.{is_told}
use Rattle.mapdb.proofs.told.told_notes.Given as goal

abbrev pub invariant-loop-note : goal.invariant-loop-note
invariant-loop-note l = l.told.items ≡ filter (λ n. is_told (get place_cmp l.firsts n.place) (is_held l.held.holdings n.place)) (take l.note-index l.notes)
