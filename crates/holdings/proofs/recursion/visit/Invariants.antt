-- The visit so far.
use Rattle.std.proofs.Common.{length}
use Rattle.holdings.proofs.Recursions.Visits.{IsVisiting}
use Rattle.holdings.proofs.recursion.visit.Given as goal

abbrev pub invariant-loop-i : goal.invariant-loop-i
invariant-loop-i l = IsVisiting l.fn.shards l.trees l.frame l.run.start l.first l.revoked l.flush l.i l.begun.items l.shards l.status

-- pages whose visits end before the next one begins
abbrev pub invariant-loop-page : goal.invariant-loop-page
invariant-loop-page l = IsVisiting l.fn.shards l.trees l.frame l.run.start l.first l.revoked l.flush l.i l.begun.items l.shards l.status

abbrev pub decreases-loop-page : goal.decreases-loop-page
decreases-loop-page l = length l.begun.items

-- and at the end
abbrev pub invariant-loop-page-2 : goal.invariant-loop-page-2
invariant-loop-page-2 l = IsVisiting l.fn.shards l.trees l.frame l.run.start l.first l.revoked l.flush l.run.end l.begun.items l.shards l.status

abbrev pub decreases-loop-page-2 : goal.decreases-loop-page-2
decreases-loop-page-2 l = length l.begun.items
