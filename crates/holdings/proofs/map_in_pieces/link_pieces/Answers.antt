-- The next transfers give pieces of their own.
use Rattle.std.proofs.Common.{◌≡◌, ◌∙◌, ◌++◌, ◌∷◌, [], List, length, map, take, drop, refl, sym, ap, subst, arith}
use Rattle.std.proofs.lemmas.Bool.{eqb-true}
use Rattle.std.proofs.lemmas.List.Elements.{All-drop}
use Rattle.std.proofs.lemmas.List.{take-append-drop}
use Rattle.fpage.specs.declared.rights.Rights.{Rights}
use Rattle.std.specs.List.{All}
use Rattle.space.specs.Shards.{IsPlace}
use Rattle.space.specs.Slices.{pieces}
use Rattle.space.specs.declared.shards.Shards.{Shards}
use Rattle.pieces.specs.Contents.{puts_of}
use Rattle.pieces.specs.Distinct.{are_distinct}
use Rattle.pieces.specs.declared.piece.Piece.TheVariants as piece
use Rattle.holdings.specs.declared.transfer.Transfer.{Transfer}
use Rattle.holdings.specs.Inner.Planning.{stores_of}
use Rattle.holdings.specs.Inner.Words.{IsThere}
use Rattle.holdings.proofs.Phases.InParts.{IsCutUpTo, none_cut, more_cut, all_cut}
use Rattle.holdings.proofs.Phases.ItemParts.{both_stores, stores_apart}
use Rattle.holdings.proofs.map_in_pieces.link_pieces.Goals as goal

-- those of the next transfers, and of the others
parted : (s : Shards) (rights : Rights) (n : _) (rest first others : List Transfer) → first ≡ take n rest → others ≡ drop n rest → stores_of s rights rest ≡ stores_of s rights first ++ stores_of s rights others
parted s rights n rest first others first_is others_is =
    ap (stores_of s rights) (sym (take-append-drop n rest) ∙ ap (λ us. us ++ drop n rest) (sym first_is) ∙ ap (λ us. first ++ us) (sym others_is)) ∙ both_stores s rights first others

pub loop-rest-init : goal.loop-rest-init
loop-rest-init c = record {
  cut = subst (IsCutUpTo piece.Link (stores_of c.args.shards.now c.args.rights c.args.transfers.now) (stores_of c.args.shards.now c.args.rights c.args.transfers.now)) (sym c.in_ok-pieces.ensures.items) (none_cut piece.Link (stores_of c.args.shards.now c.args.rights c.args.transfers.now));
  places = c.requires.places;
  distinct = c.requires.distinct;
}

pub links-requires-clause-distinct : goal.links-requires-clause-distinct
links-requires-clause-distinct c =
    let first = c.split_at.result.0.now in
    let others = c.split_at.result.1.now in
    let apart = parted c.args.shards.now c.args.rights c.min.result c.loop-rest.rest.now first others c.split_at.ensures.front c.split_at.ensures.back in
    ap (λ xs. are_distinct (puts_of xs)) c.in_ok-stores.ensures ∙ (stores_apart (stores_of c.args.shards.now c.args.rights first) (stores_of c.args.shards.now c.args.rights others) (stores_of c.args.shards.now c.args.rights c.loop-rest.rest.now) apart c.loop-rest.invariant.distinct).0

pub loop-rest-preserved : goal.loop-rest-preserved
loop-rest-preserved c =
    let rest = c.loop-rest.rest.now in
    let first = c.split_at.result.0.now in
    let others = c.split_at.result.1.now in
    let apart = parted c.args.shards.now c.args.rights c.min.result rest first others c.split_at.ensures.front c.split_at.ensures.back in
    let all = stores_of c.args.shards.now c.args.rights c.args.transfers.now in
    record {
      cut = more_cut piece.Link c.args.most c.requires.most (stores_of c.args.shards.now c.args.rights first) (stores_of c.args.shards.now c.args.rights others) all c.loop-rest.pieces.items _ _
          (subst (λ xs. IsCutUpTo piece.Link xs all c.loop-rest.pieces.items) apart c.loop-rest.invariant.cut)
          (c.in_ok-its_pieces.ensures ∙ ap (λ xs. map piece.Link (pieces (length xs) c.args.most xs)) c.in_ok-stores.ensures)
          c.in_ok-append.ensures.items;
      places = subst (All (λ t. IsPlace c.args.shards.now t.source × IsThere c.args.shards.now t.target)) (sym c.split_at.ensures.back) (All-drop (λ t. IsPlace c.args.shards.now t.source × IsThere c.args.shards.now t.target) c.min.result rest c.loop-rest.invariant.places);
      distinct = (stores_apart (stores_of c.args.shards.now c.args.rights first) (stores_of c.args.shards.now c.args.rights others) (stores_of c.args.shards.now c.args.rights rest) apart c.loop-rest.invariant.distinct).1;
    }

none_left : (ts : List Transfer) → length ts ≡ 0 → ts ≡ []
none_left [] none = refl
none_left (t ∷ ts) none = absurd (omega (arith, none))

pub returns : goal.returns
returns c =
    let all = stores_of c.args.shards.now c.args.rights c.args.transfers.now in
    let none = none_left c.loop-rest.rest.now (eqb-true (length c.loop-rest.rest.now) 0 (sym c.loop-rest-test.ensures)) in
    all_cut piece.Link all c.loop-rest.pieces.items (subst (λ ts. IsCutUpTo piece.Link (stores_of c.args.shards.now c.args.rights ts) all c.loop-rest.pieces.items) none c.loop-rest.invariant.cut)
