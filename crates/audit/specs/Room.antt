-- What a text takes that is put behind another.
use Rattle.std.specs.Prelude.{ℕ, ◌+◌, ◌≤◌, ⊤, Result, vec_len, vec_capacity, IsOk}
use Rattle.std.specs.declared.vec.Vec.{Vec}
use Rattle.std.specs.declared.alloc.AllocError.{AllocError}
use Rattle.std.specs.declared.alloc.Global.{Global}

-- at most so many bytes, for which memory is not asked where there is room
pub record TakesAtMost (most : ℕ) (result : Result ⊤ AllocError) (old new : Vec ℕ Global) : Type 0 where
  pub succeeds : vec_len old + most ≤ vec_capacity old → IsOk result
  pub len : vec_len new ≤ vec_len old + most
  pub capacity : vec_capacity old ≤ vec_capacity new
