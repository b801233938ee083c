-- The held pages of the places so far.
use Rattle.std.proofs.Common.{take}
use Rattle.holdings.specs.Places.{any_of}
use Rattle.holdings.specs.Inner.Stripping.{AreHeldPages}
use Rattle.holdings.proofs.pages.held_pages.Given as goal

abbrev pub invariant-loop-place : goal.invariant-loop-place
invariant-loop-place l = AreHeldPages l.shards (any_of (take l.place-index l.places)) l.pages.items
