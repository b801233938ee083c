-- what was taken from the source is what was kept
use Rattle.std.proofs.Common.{◌≡◌, length}
use Rattle.std.specs.Io.KnownBytes.{Consumes}
use Rattle.trace.proofs.stream.read_to_end.Given as goal

abbrev pub invariant-loop : goal.invariant-loop
invariant-loop g l = record {
  taken : Consumes (g.S.Source.remaining l.fn.source) (g.S.Source.remaining l.source) l.incoming;
  failed : g.S.Source.failed l.source ≡ g.S.Source.failed l.fn.source;
  chunk : length l.chunk ≡ 8192;
}
