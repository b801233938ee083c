-- The node that is read at a seat stands at its position.
use Rattle.std.proofs.Common.{◌≡◌, ℕ, ◌<◌, List, [], length, take, get_or, sym, ap, ◌∙◌}
use Rattle.std.proofs.lemmas.List.{get_or_default}
use Rattle.space.specs.declared.node.Node.{Node}
use Rattle.maptree.specs.declared.blocks.Seat.{Seat}
use Rattle.maptree.specs.Nodes.{last_less, origin_at}
use Rattle.maptree.specs.Blocks.{nodes_in, IsSeat}
use Rattle.maptree.proofs.InBlocks.{as_read, at_seat, read_of}

pub node_at_seat : (items bs : List (List Node)) (i : ℕ) (seat : Seat) (b : List Node) (n : Node) → items ≡ bs → IsSeat bs i seat → seat.offset < length (get_or bs seat.block [])
    → b ≡ get_or items seat.block b → n ≡ get_or b seat.offset n → n ≡ get_or (nodes_in bs) i n
node_at_seat items bs i seat b n same is inside block read =
    let there = as_read bs seat.block b is.within (read_of items bs seat.block b same block) in
    read ∙ ap (λ l. get_or l seat.offset n) there
    ∙ sym (at_seat bs seat.block seat.offset n is.within inside)
    ∙ ap (λ k. get_or (nodes_in bs) k n) is.before

-- the depth of a node that is read, whatever stands for one that is not there
pub depth_as_read : (ns : List Node) (i : ℕ) (n d : Node) → i < length ns → n ≡ get_or ns i n → n.depth ≡ (get_or ns i d).depth
depth_as_read ns i n d within read = ap (λ m. m.depth) (read ∙ get_or_default ns i n d within)

-- what is less deep than it is looked for before it
pub origin_as_read : (ns : List Node) (i : ℕ) (n d : Node) → i < length ns → n ≡ get_or ns i n → last_less n.depth (take i ns) ≡ origin_at ns i d
origin_as_read ns i n d within read = ap (λ depth. last_less depth (take i ns)) (depth_as_read ns i n d within read)
