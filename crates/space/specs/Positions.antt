-- The directory of shards: which are there, and where.
use Rattle.std.specs.Prelude.{◌≡◌, ℕ, ◌+◌, ◌/◌, ◌%◌, ◌<◌, List, length, slice_index}
use Rattle.std.specs.Int.{bit_at}
use Rattle.space.specs.declared.directory.Directory.{Directory}
use Rattle.space.specs.Leaves as leaves

-- the position of a shard that is not there
abbrev pub nowhere : ℕ
nowhere = leaves.nowhere

-- how many shards there can be
abbrev pub most_of : Directory → ℕ
most_of d = d.most

-- how many are there
abbrev pub count_of : Directory → ℕ
count_of d = d.count

-- what stands for a run of 256 shards
abbrev pub first_in : Directory → ℕ → ℕ
first_in d run = slice_index d.branches.items run

-- what its branch has for a run of 16 shards
abbrev pub entry_in : Directory → ℕ → ℕ
entry_in d run = leaves.entry_at d.branches.items d.leaves.items run

-- its leaf
abbrev pub leaf_in : Directory → ℕ → ℕ
leaf_in d run = leaves.leaf_at d.branches.items d.leaves.items run

-- the position of a shard
unfoldable pub position_in : Directory → ℕ → ℕ
position_in d shard = leaves.position_at d.branches.items d.leaves.items d.positions.items shard

-- a list that says of each of the first shards what the directory says
abbrev pub AreCopied : Directory → List ℕ → Type 0
AreCopied d positions = (shard : ℕ) → shard < length positions → slice_index positions shard ≡ position_in d shard

-- each shard is where it was
pub record IsSame (old new : Directory) : Type 0 where
  pub most : most_of new ≡ most_of old
  pub count : count_of new ≡ count_of old
  pub positions : (shard : ℕ) → position_in new shard ≡ position_in old shard

-- a shard was added behind the others
pub record IsAdded (old new : Directory) (shard : ℕ) : Type 0 where
  pub most : most_of new ≡ most_of old
  pub count : count_of new ≡ count_of old + 1
  pub there : position_in new shard ≡ count_of old
  pub elsewhere : (other : ℕ) → (other ≡ shard → ⊥) → position_in new other ≡ position_in old other

-- where bit j below 16 of a run's number is 0, the shards of its run j of 16 are dead; where bit 16 + j is, none is there
pub record AreRuns (d : Directory) (live runs : List ℕ) : Type 0 where
  pub dead : (shard : ℕ) → shard < most_of d → bit_at (slice_index runs (shard / 256)) (shard / 16 % 16) ≡ 0 → slice_index live (position_in d shard) ≡ 0
  pub absent : (shard : ℕ) → shard < most_of d → bit_at (slice_index runs (shard / 256)) (16 + shard / 16 % 16) ≡ 0 → position_in d shard ≡ nowhere

-- the same, closed: who has shards need not look into it
abbrev pub AreRunsOf : Directory → List ℕ → List ℕ → Type 0
AreRunsOf d live runs = ∥ AreRuns d live runs ∥₁
