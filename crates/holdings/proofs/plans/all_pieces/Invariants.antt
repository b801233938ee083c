-- The plans so far were made, and these are their pieces.
use Rattle.std.proofs.Common.{◌≡◌, is_ok, true}
use Rattle.std.specs.List.{All}
use Rattle.holdings.specs.Inner.Phases.{all_pieces}
use Rattle.holdings.proofs.plans.all_pieces.Given as goal

abbrev pub invariant-loop-part : goal.invariant-loop-part
invariant-loop-part l = record {
  made : All (λ plan. is_ok plan ≡ true) l.yielded;
  pieces : l.pieces.items ≡ all_pieces l.yielded;
}
