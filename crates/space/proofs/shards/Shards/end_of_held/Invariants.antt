-- Each page before this one is held.
use Rattle.std.proofs.Common.{◌≡◌, ◌<◌, ◌≤◌, IsTrue, is_some}
use Rattle.space.specs.declared.place.Place.{Place}
use Rattle.space.specs.Shards.{entry_at}
use Rattle.space.proofs.shards.Shards.end_of_held.Given as goal

abbrev pub invariant-loop-page : goal.invariant-loop-page
invariant-loop-page l = (p : Place) → p.space ≡ l.space → l.fn.place.page ≤ p.page → p.page < l.page → IsTrue (is_some (entry_at l.self p))
