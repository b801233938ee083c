-- Bytes that stand in blocks.
use Rattle.std.specs.Prelude.{ℕ, List, drop, ◌++◌, reverse}
use Rattle.std.specs.List.{flat_map}
use Rattle.std.specs.declared.alloc.Global.{Global}
use Rattle.std.specs.declared.vec.Vec.{Vec}

-- the bytes of all blocks, block after block
abbrev pub all_of : List (Vec ℕ Global) → List ℕ
all_of blocks = flat_map (λ b. b.items) blocks

-- those that are left of the block in front, and those of the blocks behind it, of which the last comes first
abbrev pub left_of : ℕ → Vec ℕ Global → List (Vec ℕ Global) → List ℕ
left_of read front behind = drop read front.items ++ all_of (reverse behind)
