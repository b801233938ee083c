-- The shards of the places so far are there.
use Rattle.std.proofs.Common.{ℕ, ◌<◌, get_or}
use Rattle.std.specs.Prelude.{IsFalse}
use Rattle.std.specs.List.{list_any}
use Rattle.space.specs.declared.place.Place.{Place}
use Rattle.space.specs.Shards.{HasWord, is_taken, IsMade, AreOnlyMade, are_beside}
use Rattle.space.proofs.shards.Shards.make.Given as goal

abbrev pub invariant-loop-place : goal.invariant-loop-place
invariant-loop-place l = record {
  made : IsMade l.initial.self l.self;
  there : (k : ℕ) (d : Place) → k < l.place-index → HasWord l.self (get_or l.places k d);
  only : AreOnlyMade l.initial.self l.self (λ p. list_any (λ place. are_beside place p) l.places);
  present : IsFalse (is_taken l.self);
}
