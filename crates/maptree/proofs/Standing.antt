-- Where places are distinct, one that stands somewhere is found there.
use Rattle.std.proofs.Common.{◌≡◌, ℕ, ◌+◌, ◌<◌, true, List, length, take, get_or, Option, Some, None, refl, sym, ap, ◌∙◌, arith}
use Rattle.std.specs.Prelude.{position}
use Rattle.std.proofs.lemmas.List.Quantifiers.{position-Some}
use Rattle.space.specs.declared.place.Place.{Place}
use Rattle.space.specs.Place.{same_place}
use Rattle.space.proofs.Places.{same_is}
use Rattle.space.specs.declared.node.Node.{Node}
use Rattle.maptree.specs.Nodes.{are_distinct}
use Rattle.maptree.specs.Blocks.{nodes_in}
use Rattle.maptree.proofs.Positions.{one_position, place_of_read}
use Rattle.maptree.proofs.Searches.{none_stands}
use Rattle.maptree.proofs.InBlocks.{as_read, at_seat, counts}
use Rattle.space.proofs.Lists.{blank}

pub stands_at : (ns : List Node) (p : Place) (i : ℕ) (d : Node) → are_distinct ns ≡ true → i < length ns → same_place p (get_or ns i d).place ≡ true → position (λ n. same_place p n.place) ns ≡ Some i
stands_at ns p i d distinct within here = by (position (λ n. same_place p n.place) ns) refl
  where
    by : (o : Option ℕ) → position (λ n. same_place p n.place) ns ≡ o → o ≡ Some i
    by None is = let none = none_stands (λ (n : Node). same_place p n.place) ns is i d within in absurd (cc (here, none))
    by (Some r) is =
        let at = position-Some (λ (n : Node). same_place p n.place) ns r d is in
        let one : p ≡ (get_or ns r d).place = same_is p (get_or ns r d).place at.1 in
        let other : p ≡ (get_or ns i d).place = same_is p (get_or ns i d).place here in
        ap Some (one_position ns distinct r i p p at.0 within (place_of_read ns r p d at.0 ∙ sym one ∙ other ∙ sym (place_of_read ns i p d within)))

-- one that stands in a block
pub stands_in_block : (bs : List (List Node)) (k : ℕ) (b : List Node) (p : Place) (off : ℕ) → are_distinct (nodes_in bs) ≡ true → k < length bs → b ≡ get_or bs k b
    → off < length b → same_place p (get_or b off blank).place ≡ true → position (λ n. same_place p n.place) (nodes_in bs) ≡ Some (length (nodes_in (take k bs)) + off)
stands_in_block bs k b p off distinct within is inside stands =
    let read = as_read bs k b within is in
    let upto = (counts bs k b within is).upto in
    let size = ap length read in
    let here : get_or (nodes_in bs) (length (nodes_in (take k bs)) + off) blank ≡ get_or b off blank =
    at_seat bs k off blank within (omega (arith, inside, size)) ∙ ap (λ x. get_or x off blank) (sym read) in
    stands_at (nodes_in bs) p (length (nodes_in (take k bs)) + off) blank distinct (omega (arith, inside, upto)) (ap (λ (n : Node). same_place p n.place) here ∙ stands)
