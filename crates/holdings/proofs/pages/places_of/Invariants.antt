-- The places so far.
use Rattle.std.proofs.Common.{◌≡◌, take}
use Rattle.holdings.specs.Inner.Stripping.{places_in}
use Rattle.holdings.proofs.pages.places_of.Given as goal

abbrev pub invariant-loop-page : goal.invariant-loop-page
invariant-loop-page l = l.places.items ≡ places_in (take l.page-index l.pages)
