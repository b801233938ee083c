-- The pieces so far are those of the transfers before the rest.
use Rattle.std.proofs.Common.{◌≡◌, true, length}
use Rattle.std.specs.List.{All}
use Rattle.space.specs.Shards.{IsPlace}
use Rattle.pieces.specs.Contents.{ends_of}
use Rattle.pieces.specs.Distinct.{are_distinct}
use Rattle.pieces.specs.declared.piece.Piece.TheVariants as piece
use Rattle.holdings.specs.Inner.Planning.{word_pairs}
use Rattle.holdings.specs.Inner.Words.{IsThere}
use Rattle.holdings.proofs.Phases.InParts.{IsCutUpTo}
use Rattle.holdings.proofs.moves_in_pieces.move_pieces.Given as goal

abbrev pub invariant-loop-rest : goal.invariant-loop-rest
invariant-loop-rest l = record {
  cut : IsCutUpTo piece.Move (word_pairs l.shards l.rest) (word_pairs l.shards l.transfers) l.pieces.items;
  places : All (λ t. IsPlace l.shards t.source × IsThere l.shards t.target) l.rest;
  distinct : are_distinct (ends_of (word_pairs l.shards l.rest)) ≡ true;
}

abbrev pub decreases-loop-rest : goal.decreases-loop-rest
decreases-loop-rest l = length l.rest
