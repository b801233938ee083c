-- The next transfers give pieces of their own.
use Rattle.std.proofs.Common.{◌≡◌, ◌∙◌, ◌++◌, ◌∷◌, [], List, length, map, take, drop, refl, sym, ap, subst, arith}
use Rattle.std.proofs.lemmas.Bool.{eqb-true}
use Rattle.std.proofs.lemmas.List.Elements.{All-drop}
use Rattle.std.proofs.lemmas.List.{take-append-drop}
use Rattle.std.specs.List.{All}
use Rattle.space.specs.Shards.{IsPlace}
use Rattle.space.specs.Slices.{pieces}
use Rattle.space.specs.declared.shards.Shards.{Shards}
use Rattle.pieces.specs.Contents.{ends_of}
use Rattle.pieces.specs.Distinct.{are_distinct}
use Rattle.pieces.specs.declared.piece.Piece.TheVariants as piece
use Rattle.holdings.specs.declared.transfer.Transfer.{Transfer}
use Rattle.holdings.specs.Inner.Planning.{word_pairs}
use Rattle.holdings.specs.Inner.Words.{IsThere}
use Rattle.holdings.proofs.Phases.InParts.{IsCutUpTo, none_cut, more_cut, all_cut}
use Rattle.holdings.proofs.Phases.ItemParts.{both_pairs, pairs_apart}
use Rattle.holdings.proofs.moves_in_pieces.move_pieces.Goals as goal

-- those of the next transfers, and of the others
parted : (s : Shards) (n : _) (rest first others : List Transfer) → first ≡ take n rest → others ≡ drop n rest → word_pairs s rest ≡ word_pairs s first ++ word_pairs s others
parted s n rest first others first_is others_is =
    ap (word_pairs s) (sym (take-append-drop n rest) ∙ ap (λ us. us ++ drop n rest) (sym first_is) ∙ ap (λ us. first ++ us) (sym others_is)) ∙ both_pairs s first others

pub loop-rest-init : goal.loop-rest-init
loop-rest-init c = record {
  cut = subst (IsCutUpTo piece.Move (word_pairs c.args.shards.now c.args.transfers.now) (word_pairs c.args.shards.now c.args.transfers.now)) (sym c.in_ok-pieces.ensures.items) (none_cut piece.Move (word_pairs c.args.shards.now c.args.transfers.now));
  places = c.requires.places;
  distinct = c.requires.distinct;
}

pub moves-requires-clause-distinct : goal.moves-requires-clause-distinct
moves-requires-clause-distinct c =
    let first = c.split_at.result.0.now in
    let others = c.split_at.result.1.now in
    let apart = parted c.args.shards.now c.min.result c.loop-rest.rest.now first others c.split_at.ensures.front c.split_at.ensures.back in
    ap (λ xs. are_distinct (ends_of xs)) c.in_ok-pairs.ensures ∙ (pairs_apart (word_pairs c.args.shards.now first) (word_pairs c.args.shards.now others) (word_pairs c.args.shards.now c.loop-rest.rest.now) apart c.loop-rest.invariant.distinct).0

pub loop-rest-preserved : goal.loop-rest-preserved
loop-rest-preserved c =
    let rest = c.loop-rest.rest.now in
    let first = c.split_at.result.0.now in
    let others = c.split_at.result.1.now in
    let apart = parted c.args.shards.now c.min.result rest first others c.split_at.ensures.front c.split_at.ensures.back in
    let all = word_pairs c.args.shards.now c.args.transfers.now in
    record {
      cut = more_cut piece.Move c.args.most c.requires.most (word_pairs c.args.shards.now first) (word_pairs c.args.shards.now others) all c.loop-rest.pieces.items _ _
          (subst (λ xs. IsCutUpTo piece.Move xs all c.loop-rest.pieces.items) apart c.loop-rest.invariant.cut)
          (c.in_ok-its_pieces.ensures ∙ ap (λ xs. map piece.Move (pieces (length xs) c.args.most xs)) c.in_ok-pairs.ensures)
          c.in_ok-append.ensures.items;
      places = subst (All (λ t. IsPlace c.args.shards.now t.source × IsThere c.args.shards.now t.target)) (sym c.split_at.ensures.back) (All-drop (λ t. IsPlace c.args.shards.now t.source × IsThere c.args.shards.now t.target) c.min.result rest c.loop-rest.invariant.places);
      distinct = (pairs_apart (word_pairs c.args.shards.now first) (word_pairs c.args.shards.now others) (word_pairs c.args.shards.now rest) apart c.loop-rest.invariant.distinct).1;
    }

none_left : (ts : List Transfer) → length ts ≡ 0 → ts ≡ []
none_left [] none = refl
none_left (t ∷ ts) none = absurd (omega (arith, none))

pub returns : goal.returns
returns c =
    let all = word_pairs c.args.shards.now c.args.transfers.now in
    let none = none_left c.loop-rest.rest.now (eqb-true (length c.loop-rest.rest.now) 0 (sym c.loop-rest-test.ensures)) in
    all_cut piece.Move all c.loop-rest.pieces.items (subst (λ ts. IsCutUpTo piece.Move (word_pairs c.args.shards.now ts) all c.loop-rest.pieces.items) none c.loop-rest.invariant.cut)
