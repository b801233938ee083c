-- The pages so far are noted.
use Rattle.std.proofs.Common.{◌≡◌, take}
use Rattle.holdings.specs.Inner.Held.{holdings_in}
use Rattle.holdings.specs.Inner.Notes.{IsStripNoted}
use Rattle.holdings.specs.Places.{any_of}
use Rattle.holdings.proofs.holdings.Holdings.note_strip.Given as goal

abbrev pub invariant-loop-place : goal.invariant-loop-place
invariant-loop-place l = record {
  asked : l.notes.asked ≡ l.fn.notes.asked;
  noted : IsStripNoted (holdings_in l.self-inside.shards l.self-inside.trees.items) (any_of (take l.place-index l.places)) l.revoked l.flush l.fn.notes.list.items l.notes.list.items;
}
