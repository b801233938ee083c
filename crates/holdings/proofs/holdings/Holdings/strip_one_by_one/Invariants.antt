-- The places so far are visited, and what they changed is noted.
use Rattle.holdings.specs.Inner.Held.{holdings_in}
use Rattle.holdings.specs.Noting.{NotesFollow}
use Rattle.holdings.proofs.Recursions.PlaceByPlace.{AreVisitedUpTo}
use Rattle.holdings.proofs.holdings.Holdings.strip_one_by_one.Given as goal

abbrev pub invariant-loop-place : goal.invariant-loop-place
invariant-loop-place l = record {
  visited : AreVisitedUpTo l.initial.shards l.initial.trees.items l.places l.place-index l.revoked l.flush l.shards l.trees.items l.status;
  noted : NotesFollow (holdings_in l.initial.shards l.initial.trees.items) (holdings_in l.shards l.trees.items) l.fn.notes l.notes;
}
