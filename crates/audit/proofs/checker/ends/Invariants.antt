-- Whether the chain ends is decided by the origins to come.
use Rattle.std.proofs.Common.{◌≡◌, ◌-◌, length, map}
use Rattle.model.specs.Definitions.Lawful.{ends}
use Rattle.mapdb.specs.Held.{mapped_of}
use Rattle.audit.proofs.checker.ends.Given as goal

abbrev pub invariant-loop : goal.invariant-loop
invariant-loop l = ends (length (map mapped_of l.lines)) (map mapped_of l.lines) l.fn.origin ≡ ends (length l.lines - l.counter) (map mapped_of l.lines) l.origin
