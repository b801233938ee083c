-- The walk so far, and what it saw.
use Rattle.std.proofs.Common.{◌≡◌, ◌-◌, ◌<◌, ◌≤◌}
use Rattle.holdings.specs.Inner.Held.{links_in}
use Rattle.holdings.specs.Inner.Notes.{AreLosersNoted, NotesAdd, losing_from}
use Rattle.holdings.proofs.Stripping.Walks.{IsWalked, stands_at}
use Rattle.holdings.proofs.Stripping.LeftOfRuns.{IsSeen}
use Rattle.holdings.proofs.one_by_one.strip_run.Given as goal

abbrev pub invariant-loop-from : goal.invariant-loop-from
invariant-loop-from l = record {
  nodes : l.nodes ≡ links_in l.trees l.frame;
  behind : l.run.start < l.from;
  upto : l.from ≤ l.run.end;
  walked : IsWalked l.fn.shards l.trees l.frame l.run.start (stands_at l.trees l.frame l.run.start) l.revoked l.flush l.from l.shards l.status;
  seen : IsSeen l.left l.shards (links_in l.trees l.frame) l.run.start l.from;
  noted : NotesAdd (AreLosersNoted l.fn.shards (links_in l.trees l.frame) (losing_from l.flush l.run.start) l.from l.revoked) l.fn.notes l.notes;
}

abbrev pub decreases-loop-from : goal.decreases-loop-from
decreases-loop-from l = l.run.end - l.from

-- the same, with the words of the next places found
abbrev pub invariant-loop-i : goal.invariant-loop-i
invariant-loop-i l = record {
  walked : IsWalked l.fn.shards l.trees l.frame l.run.start (stands_at l.trees l.frame l.run.start) l.revoked l.flush l.i l.shards l.status;
  seen : IsSeen l.left l.shards (links_in l.trees l.frame) l.run.start l.i;
  nodes : l.nodes ≡ links_in l.trees l.frame;
  noted : NotesAdd (AreLosersNoted l.fn.shards (links_in l.trees l.frame) (losing_from l.flush l.run.start) l.i l.revoked) l.fn.notes l.notes;
}
