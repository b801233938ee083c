-- A list of nodes in blocks.
use Rattle.std.specs.Prelude.{◌≡◌, ℕ, ◌+◌, ◌*◌, ◌/◌, ◌^◌, ◌<◌, ◌≤◌, nat_le, ◌&&◌, Bool, true, List, [], ◌∷◌, length, take, drop, get_or, set, insert, slice_index, Some}
use Rattle.std.specs.List.{flat_map}
use Rattle.space.specs.declared.node.Node.{Node}
use Rattle.maptree.specs.declared.blocks.Seat.{Seat}
use Rattle.maptree.specs.Nodes.{is_forest, origin_at}

-- how many nodes a block has at most
abbrev pub block_size : ℕ
block_size = 128

-- no node is less deep than this
abbrev pub is_least : ℕ → List Node → Bool
is_least least [] = true
is_least least (n ∷ ns) = nat_le least n.depth && is_least least ns

-- no node is deeper than this
abbrev pub is_most : ℕ → List Node → Bool
is_most most [] = true
is_most most (n ∷ ns) = nat_le n.depth most && is_most most ns

-- the nodes of all blocks, in their order
abbrev pub nodes_in : List (List Node) → List Node
nodes_in bs = flat_map (λ b. b) bs

-- so many blocks, and so many nodes of the next, are so many nodes
pub record IsSeat (bs : List (List Node)) (i : ℕ) (seat : Seat) : Type 0 where
  pub within : seat.block < length bs
  pub upto : seat.offset ≤ length (get_or bs seat.block [])
  pub before : length (nodes_in (take seat.block bs)) + seat.offset ≡ i

-- how many nodes stand before a seat
abbrev pub nodes_before : List (List Node) → Seat → ℕ
nodes_before bs seat = length (nodes_in (take seat.block bs)) + seat.offset

-- a node stands at a seat
pub record HasNode (bs : List (List Node)) (seat : Seat) : Type 0 where
  pub within : seat.block < length bs
  pub inside : seat.offset < length (get_or bs seat.block [])

-- each node but the first has that as its origin
abbrev pub IsFan : List Node → Type 0
IsFan ns = is_forest ns ≡ true → (i : ℕ) (d : Node) → 0 < i → i < length ns → origin_at ns i d ≡ Some 0

-- the blocks with the nodes of one from a position on in a block of their own behind it
abbrev pub split_block : ℕ → List (List Node) → ℕ → List (List Node)
split_block at bs k = insert (set bs k (take at (get_or bs k []))) (k + 1) (drop at (get_or bs k []))

-- a list in blocks: for how many more nodes there is room
pub record Blocked : Type 0 where
  pub blocks : List (List Node)
  pub room : ℕ

-- a list of nodes: for how many more there is room
pub record Listed : Type 0 where
  pub nodes : List Node
  pub room : ℕ

-- numbers in groups of 64, each as what it is more than that of its group, with room for so many
pub record Grouped : Type 0 where
  pub groups : List ℕ
  pub inside : List ℕ
  pub capacity : ℕ

-- one of the numbers
abbrev pub number_at : Grouped → ℕ → ℕ
number_at s k = slice_index s.groups (k / 64) + slice_index s.inside k

-- as many groups as there have to be, and the first number of each is that of the group
pub record AreGrouped (s : Grouped) : Type 0 where
  pub enough : length s.inside ≤ 64 * length s.groups
  pub few : 64 * length s.groups < length s.inside + 64
  pub first : (g : ℕ) → 64 * g < length s.inside → slice_index s.inside (64 * g) ≡ 0
  pub fits : (k : ℕ) → k < length s.inside → number_at s k < 2 ^ 64

-- groups and numbers, whatever their room
abbrev pub grouped : List ℕ → List ℕ → Grouped
grouped groups inside = record { groups = groups; inside = inside; capacity = 0 }

-- a number was put in at a block, and each from there on stands one further, but for the last, which is told
pub record IsShifted (old new : Grouped) (block before last : ℕ) : Type 0 where
  pub inside_count : length new.inside ≡ length old.inside
  pub groups_count : length new.groups ≡ length old.groups
  pub upto : (k : ℕ) → k < block → number_at new k ≡ number_at old k
  pub here : block < length old.inside → number_at new block ≡ before
  pub behind : (k : ℕ) → block ≤ k → k + 1 < length old.inside → number_at new (k + 1) ≡ number_at old k
  pub first : (g : ℕ) → 64 * g < length old.inside → slice_index new.inside (64 * g) ≡ 0
  pub last_none : length old.inside ≡ block → last ≡ before
  pub last_some : (k : ℕ) → block ≤ k → k + 1 ≡ length old.inside → last ≡ number_at old k

-- for each block how many nodes stand before it
pub record AreStarts (bs : List (List Node)) (starts : Grouped) : Type 0 where
  pub count : length starts.inside ≡ length bs
  pub each : (k : ℕ) → k < length bs → number_at starts k ≡ length (nodes_in (take k bs))

-- a depth for each block, with room for so many
pub record Bounds : Type 0 where
  pub min_depths : List ℕ
  pub capacity : ℕ

-- for each group of 64 a number that is no greater than theirs
pub record AreLow (groups numbers : List ℕ) : Type 0 where
  pub enough : length numbers ≤ 64 * length groups
  pub few : 64 * length groups < length numbers + 64
  pub each : (k : ℕ) → k < length numbers → slice_index groups (k / 64) ≤ slice_index numbers k

-- for each block a depth that none of its nodes goes below
pub record AreMinDepths (bs : List (List Node)) (min_depths : List ℕ) : Type 0 where
  pub count : length min_depths ≡ length bs
  pub each : (k : ℕ) → k < length bs → is_least (slice_index min_depths k) (get_or bs k []) ≡ true
