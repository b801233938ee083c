-- What a handle owns.
use Rattle.std.specs.Prelude.{◌≡◌, Option, Some, None}
use base.Fml.{Fml, ftrue, fex}
use denote.RattleType.{RattleType}
use denote.RawPtr.{Ptr, null_ptr}
use Rattle.std.specs.declared.alloc.Global.{Global}
use Rattle.std.specs.contracts.impls.GlobalAllocator.TheImpl.{ghosts}
use Rattle.std.specs.Box.Ownership.{box_owns}

-- the value at the pointer, with the right to give its memory back to the heap; or a null pointer, if there is none
abbrev pub owned_at : (R : RattleType) → Ptr → Option R.Denot → Fml
owned_at R p None = fex (p ≡ null_ptr) (λ _. ftrue)
owned_at R p (Some x) = fex Global (λ heap. box_owns (ghosts.dealloc_token heap) R p x)
