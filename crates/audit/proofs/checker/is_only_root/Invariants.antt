-- Whether it is the only root is decided by the lines to come.
use Rattle.std.proofs.Common.{◌≡◌, drop, map}
use Rattle.std.specs.List.{list_all}
use Rattle.mapdb.specs.Held.{mapped_of}
use Rattle.audit.proofs.Checks.{is_other_root}
use Rattle.audit.proofs.checker.is_only_root.Given as goal

abbrev pub invariant-loop-other : goal.invariant-loop-other
invariant-loop-other l =
    list_all (is_other_root (mapped_of l.line)) (map mapped_of l.lines) ≡ list_all (is_other_root (mapped_of l.line)) (map mapped_of (drop l.other-index l.lines))
