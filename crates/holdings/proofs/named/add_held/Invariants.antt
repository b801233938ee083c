-- The held pages so far, with those of the pages to come, are all of them.
use Rattle.std.proofs.Common.{◌≡◌, ◌-◌, ◌≤◌, ◌++◌, filter}
use Rattle.holdings.specs.Places.{pages_from}
use Rattle.holdings.specs.Inner.Held.{has_entry}
use Rattle.holdings.proofs.named.add_held.Given as goal

abbrev pub invariant-loop-page : goal.invariant-loop-page
invariant-loop-page l = record {
  from : l.first.page ≤ l.page;
  upto : l.page ≤ l.end;
  pages : l.places.items ++ filter (has_entry l.shards) (pages_from l.first.space l.page (l.end - l.page))
      ≡ l.initial.places.items ++ filter (has_entry l.shards) (pages_from l.first.space l.first.page (l.end - l.first.page));
}

abbrev pub decreases-loop-page : goal.decreases-loop-page
decreases-loop-page l = l.end - l.page
