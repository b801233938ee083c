-- Where shards stand, as branches of sixteen leaves and leaves of sixteen positions tell it, and entries with one leaf or one shard alone.
use Rattle.std.specs.Prelude.{◌≡◌, ℕ, ◌+◌, ◌-◌, ◌*◌, ◌/◌, ◌%◌, ◌^◌, ◌<◌, ◌≤◌, ◌==◌, Bool, not, nat_lt, zero, suc, if◌then◌else◌, List, ◌++◌, replicate, length, slice_index, slice_set}
use Rattle.std.specs.Int.{div_ceil}

-- the position of what is not there
abbrev pub nowhere : ℕ
nowhere = 2 ^ 32 - 1

-- an entry for a run of 256 shards from here on is no number of a branch: it has the one leaf of the run
abbrev pub lone_leaf : ℕ
lone_leaf = 2 ^ 30

-- an entry from here on is no number of a block and no leaf: it has the one shard that is there in its run
abbrev pub alone : ℕ
alone = 2 ^ 31

-- the block that an entry names, if it is below a limit; that of another, as of 0, is the first one, in which nothing is
abbrev pub block_of : ℕ → ℕ → ℕ
block_of limit entry = if nat_lt entry limit then entry else 0

-- the entry with one leaf, of a run of 16 shards; it has the run's place in a run of 256
abbrev pub with_leaf : ℕ → ℕ → ℕ
with_leaf leaf run = lone_leaf + leaf * 256 + run % 16 * 16

-- the leaf of a run of 16 shards by an entry that has one leaf
abbrev pub leaf_alone : ℕ → ℕ → ℕ
leaf_alone entry run = if nat_lt entry lone_leaf then 0 else (if nat_lt entry alone then (if entry % 256 / 16 == run % 16 then (entry - lone_leaf) / 256 else 0) else 0)

-- what a branch has for the one leaf or the one shard of such an entry
abbrev pub in_branch : ℕ → ℕ
in_branch entry = if nat_lt entry alone then (entry - lone_leaf) / 256 else entry

-- the entry with one shard, at a position; it has the shard's place in a run of 256
abbrev pub with_one : ℕ → ℕ → ℕ
with_one position shard = alone + position * 256 + shard % 256

-- the position of a shard by an entry that has it alone
abbrev pub position_alone : ℕ → ℕ → ℕ
position_alone entry shard = if nat_lt entry alone then nowhere else (if entry % 256 == shard % 256 then (entry - alone) / 256 else nowhere)

-- the first, or else the other
abbrev pub or_else : ℕ → ℕ → ℕ
or_else position other = if position == nowhere then other else position

-- where among numbers in blocks of sixteen that of a key stands, if each run of sixteen keys has such a block
abbrev pub slot_in : (ℕ → ℕ) → ℕ → ℕ
slot_in block key = block (key / 16) * 16 + key % 16

-- the number of a key
abbrev pub number_at : (ℕ → ℕ) → List ℕ → ℕ → ℕ
number_at block numbers key = slice_index numbers (slot_in block key)

-- the branch of a run of 256 shards
abbrev pub branch_at : List ℕ → ℕ → ℕ
branch_at branches run = block_of lone_leaf (slice_index branches run)

-- what a branch has for a run of 16 shards
abbrev pub entry_at : List ℕ → List ℕ → ℕ → ℕ
entry_at branches leaves run = number_at (branch_at branches) leaves run

-- the leaf of a run of 16 shards: alone in its run of 256, or in a branch; one of these is 0
abbrev pub leaf_at : List ℕ → List ℕ → ℕ → ℕ
leaf_at branches leaves run = leaf_alone (slice_index branches (run / 16)) run + block_of alone (entry_at branches leaves run)

-- the position of a shard: alone in its run of 256, or alone in its run of 16, or in its leaf
abbrev pub position_at : List ℕ → List ℕ → List ℕ → ℕ → ℕ
position_at branches leaves positions shard =
    or_else (position_alone (slice_index branches (shard / 256)) shard)
    (or_else (position_alone (entry_at branches leaves (shard / 16)) shard) (number_at (leaf_at branches leaves) positions shard))

-- numbers, and one block more behind them, with a number at one place of it and a filler at the others
abbrev pub with_block : ℕ → List ℕ → ℕ → ℕ → List ℕ
with_block filler numbers place number = slice_set (numbers ++ replicate 16 filler) (length numbers + place) number

-- how many numbers below one pass
abbrev pub count_up : (ℕ → Bool) → ℕ → ℕ
count_up f zero = 0
count_up f (suc n) = (if f n then 1 else 0) + count_up f n

-- whether a run has a block of its own
abbrev pub has_block : (ℕ → ℕ) → ℕ → Bool
has_block block run = nat_lt 0 (block run)

-- whether a shard is there
abbrev pub is_there : List ℕ → List ℕ → List ℕ → ℕ → Bool
is_there branches leaves positions shard = not (position_at branches leaves positions shard == nowhere)

-- blocks of sixteen numbers each, the first of which is empty; each of so many runs has that one or one of its own
pub record AreBlocks (absent runs : ℕ) (block : ℕ → ℕ) (numbers : List ℕ) : Type 0 where
  pub past : (run : ℕ) → runs ≤ run → block run ≡ 0
  pub how_many : length numbers ≡ (count_up (has_block block) runs + 1) * 16
  pub within : (run : ℕ) → block run * 16 + 16 ≤ length numbers
  pub own : (i j : ℕ) → 0 < block i → block i ≡ block j → i ≡ j
  pub empty : (slot : ℕ) → slot < 16 → slice_index numbers slot ≡ absent

-- the leaves of branches, and the positions of leaves
pub data AreLaid (branches leaves positions : List ℕ) : Type 0 where
  laid : AreBlocks 0 (length branches) (branch_at branches) leaves → AreBlocks nowhere (length branches * 16) (leaf_at branches leaves) positions → AreLaid branches leaves positions

-- shards that are there have each a position of its own, below their number
pub data ArePlaced (most count : ℕ) (branches leaves positions : List ℕ) : Type 0 where
  placed : count ≡ count_up (is_there branches leaves positions) most
      → ((shard : ℕ) → (position_at branches leaves positions shard ≡ nowhere → ⊥) → position_at branches leaves positions shard < count)
      → ((j k : ℕ) → position_at branches leaves positions j < count → position_at branches leaves positions j ≡ position_at branches leaves positions k → j ≡ k)
      → ArePlaced most count branches leaves positions

-- branches with leaves, leaves with positions, and shards at these
pub record IsDirectory (most count : ℕ) (branches leaves positions : List ℕ) : Type 0 where
  pub few : most ≤ 2 ^ 23
  pub runs : length branches ≡ div_ceil most 256
  pub are_laid : AreLaid branches leaves positions
  pub are_placed : ArePlaced most count branches leaves positions

-- the same, closed: who has a directory need not look into it

abbrev pub IsFound : ℕ → ℕ → List ℕ → List ℕ → List ℕ → Type 0
IsFound most count branches leaves positions = ∥ IsDirectory most count branches leaves positions ∥₁
