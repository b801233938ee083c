-- Replies are written or left, and those to the records that are left follow.
use Rattle.std.proofs.Common.{◌≡◌, true, length}
use Rattle.model.specs.Definitions.Records.{are_limits}
use Rattle.model.specs.Definitions.Replay.{start}
use Rattle.mapdb.specs.State.{laid_out, left_with, new_state}
use Rattle.replay.specs.Steps.{told_of}
use Rattle.replay.proofs.Steps.{SoFar}
use Rattle.replay.proofs.replay.replay_trace.Given as goal

abbrev pub invariant-loop-alloc : goal.invariant-loop-alloc
invariant-loop-alloc g l = record {
  served : are_limits l.initial.trace.limits ≡ true;
  so_far : SoFar (told_of l.initial.trace.version l.initial.trace.limits l.initial.trace.records (start l.initial.trace.limits)) l.initial.trace.version l.initial.trace.limits l.trace.records l.database.holdings l.number
      (g.W.Sink.contents l.fn.writer) (g.W.Sink.contents l.writer) l.lines l.refused;
  works : g.W.Sink.failed l.writer ≡ g.W.Sink.failed l.fn.writer;
  keeps : l.database ≡ laid_out (left_with (new_state l.initial.trace.limits) l.database.holdings) l.database.layout;
  number : l.number ≡ l.trace.number;
  version : l.trace.version ≡ l.initial.trace.version;
}

-- there are fewer of them
abbrev pub decreases-loop-alloc : goal.decreases-loop-alloc
decreases-loop-alloc g l = length l.trace.records
