-- The places of the run so far are noted.
use Rattle.std.proofs.Common.{◌≡◌}
use Rattle.holdings.specs.Inner.Notes.{AreLosersNoted}
use Rattle.holdings.proofs.noting.note_run.Given as goal

abbrev pub invariant-loop-at : goal.invariant-loop-at
invariant-loop-at l = record {
  nodes : l.nodes ≡ l.tree.links;
  adds : AreLosersNoted l.shards l.tree.links l.run.start l.at l.revoked l.fn.list.items l.list.items;
}
