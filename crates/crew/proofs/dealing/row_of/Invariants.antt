-- The passes so far.
use Rattle.std.proofs.Common.{◌≡◌, ◌++◌, map, take, drop}
use Rattle.crew.specs.Crews.{pass_on, fewer}
use Rattle.crew.proofs.dealing.row_of.Given as goal

abbrev pub invariant-loop-own : goal.invariant-loop-own
invariant-loop-own g l =
    (l.owns ≡ map fewer (take l.own-index l.initial.owns) ++ drop l.own-index l.initial.owns) × (l.passes.items ≡ map pass_on (take l.own-index l.initial.owns))
