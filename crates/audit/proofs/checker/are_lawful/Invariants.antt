-- Whether all are lawful is decided by the lines to come.
use Rattle.std.proofs.Common.{◌≡◌, drop, map}
use Rattle.std.specs.List.{list_all}
use Rattle.model.specs.Definitions.Lawful.{is_lawful_at}
use Rattle.mapdb.specs.Held.{mapped_of}
use Rattle.audit.proofs.checker.are_lawful.Given as goal

abbrev pub invariant-loop-line : goal.invariant-loop-line
invariant-loop-line l =
    list_all (is_lawful_at (map mapped_of l.lines)) (map mapped_of l.lines) ≡ list_all (is_lawful_at (map mapped_of l.lines)) (map mapped_of (drop l.line-index l.lines))
