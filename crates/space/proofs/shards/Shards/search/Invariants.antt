-- No page before this one is held.
use Rattle.std.proofs.Common.{◌-◌, ◌≡◌, ◌<◌, ◌≤◌, None}
use Rattle.space.specs.declared.place.Place.{Place}
use Rattle.space.specs.Shards.{entry_at}
use Rattle.space.proofs.shards.Shards.search.Given as goal

abbrev pub invariant-loop-page : goal.invariant-loop-page
invariant-loop-page l = record {
  from : l.fn.place.page ≤ l.page;
  end : l.page ≤ l.end;
  absent : (p : Place) → p.space ≡ l.fn.place.space → l.fn.place.page ≤ p.page → p.page < l.page → entry_at l.self p ≡ None;
}

abbrev pub decreases-loop-page : goal.decreases-loop-page
decreases-loop-page l = l.end - l.page
