-- Pieces at work: how far each is, and what it has found out so far.
use Rattle.std.specs.Prelude.{◌≡◌, ℕ, ◌≤◌, ◌+◌, true, List, length, map, take, min, get_or, suc, if◌then◌else◌}
use Rattle.pieces.specs.Contents.{IsStrip}
use Rattle.pieces.specs.Steps.{status_in, may_access, access_steps, steps}
use Rattle.pieces.specs.declared.touch.WordAccess.{WordAccess}
use Rattle.std.specs.List.{flat_map}
use Rattle.pieces.proofs.Keeping.{IsFront}
use Rattle.pieces.specs.declared.piece.Piece.{Piece}
use Rattle.pieces.specs.declared.piece.Piece.TheVariants as piece
use Rattle.turns.specs.declared.work.Work.{Work}
use Rattle.turns.specs.declared.work.Work.TheVariants as work
use Rattle.turns.specs.declared.strip_work.StripWork.{StripWork}
use Rattle.turns.specs.declared.touch_work.TouchWork.{TouchWork}

-- a strip of which so many steps were done: its nodes that are left with a right stand in front, and their status is known
pub record IsStripWork (w : List ℕ) (job : StripWork) (k : ℕ) : Type 0 where
  pub strip : IsStrip job.of.value
  pub masks : job.masks ≡ job.of.value.masks
  pub indexes : job.indexes.items ≡ job.of.value.indexes
  pub fold : job.fold ≡ job.of.value.fold
  pub many : length job.slice.nodes.items ≡ length job.of.value.nodes
  pub front : IsFront w job.of.value.nodes job.of.value.indexes job.of.value.masks (min k (length job.of.value.nodes)) job.kept job.slice.nodes.items
  pub status : job.status ≡ status_in w (take k job.of.value.indexes)

-- how many steps some accesses have
abbrev pub steps_of : List ℕ → List WordAccess → ℕ
steps_of w list = length (flat_map (access_steps w) list)

-- a touch of which so many steps were done: each access that was seen is answered, and marked, but for the last if its mark is next
pub record IsTouchWork (w : List ℕ) (job : TouchWork) (k : ℕ) : Type 0 where
  pub many : length job.answers.items ≡ length job.touch
  pub within : job.seen ≤ length job.touch
  pub answered : take job.seen job.answers.items ≡ map (may_access w) (take job.seen job.touch)
  pub steps : k + (if job.marks then 1 else 0) ≡ steps_of w (take job.seen job.touch)
  pub last : job.marks ≡ true → (i : ℕ) × (job.seen ≡ suc i) × ((d : WordAccess) → may_access w (get_or job.touch i d) ≡ true)

-- a piece of which so many steps were done
abbrev pub IsWork : List ℕ → Piece → Work → ℕ → Type 0
IsWork w p (work.Strip job) k = (p ≡ piece.Strip job.of.value) × IsStripWork w job k
IsWork w p (work.Link link hint) k = p ≡ piece.Link link
IsWork w p (work.Move pairs hint) k = p ≡ piece.Move pairs
IsWork w p (work.Touch job) k = (p ≡ piece.Touch job.touch) × IsTouchWork w job k

-- how many steps a piece has
abbrev pub step_count : List ℕ → Piece → ℕ
step_count w p = length (steps w p)
