-- Nothing has changed but marks.
use Rattle.std.proofs.Common.{◌-◌, ◌≤◌}
use Rattle.std.specs.Prelude.{IsFalse}
use Rattle.space.specs.Shards.{IsLaidOutAs, IsMade, is_taken}
use Rattle.space.proofs.shards.Shards.sweep.Given as goal

abbrev pub invariant-loop-page : goal.invariant-loop-page
invariant-loop-page l = record {
  from : l.fn.place.page ≤ l.page;
  upto : l.page ≤ l.end;
  made : IsMade l.initial.self l.self;
  layout : IsLaidOutAs l.initial.self l.self;
  present : IsFalse (is_taken l.self);
}

abbrev pub invariant-loop-run : goal.invariant-loop-run
invariant-loop-run l = record {
  made : IsMade l.initial.self l.self;
  layout : IsLaidOutAs l.initial.self l.self;
  present : IsFalse (is_taken l.self);
}

abbrev pub decreases-loop-page : goal.decreases-loop-page
decreases-loop-page l = l.end - l.page
