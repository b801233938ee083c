-- Calls, replies and refusals.
use Rattle.std.specs.Prelude.{ℕ, Bool, List, Result}
use Rattle.fpage.specs.Fpage.{Flexpage}
use Rattle.fpage.specs.declared.rights.Access.{Access}
use Rattle.fpage.specs.declared.rights.Rights.{Rights}
use Rattle.fpage.specs.declared.item.Item.{Item}
use Rattle.fpage.specs.declared.error.FpageError.{FpageError}
use Rattle.fpage.specs.declared.error.FpageError.TheVariants as word
use Rattle.space.specs.declared.place.Place.{Place}
use Rattle.model.specs.Definitions.Items.{Counts}

-- how many spaces there are, of how many bytes (as a power of two), and how many frames
pub record Limits : Type 0 where
  pub spaces : ℕ
  pub bits : ℕ
  pub frames : ℕ

-- a word of an Unmap, with the pages that it names
abbrev pub Named : Type 0
Named = ℕ × Flexpage

-- send: from a space to a space, the receiver's window, the items; access: a page, and how;
-- unmap: of a space, whether its own pages lose the rights too, and the words; clear: of a space, all of it
pub data Call : Type 0 where
  send : ℕ → ℕ → Flexpage → List Item → Call
  access : Place → Access → Call
  unmap : ℕ → Bool → List Named → Call
  clear : ℕ → Call

-- why a record is refused
pub data Refusal : Type 0 where
  bad_size : Refusal
  misaligned : Refusal
  out_of_space : Refusal
  not_an_item : Refusal
  bad_control : Refusal
  no_such_space : Refusal
  same_space : Refusal
  no_window : Refusal
  bad_record : Refusal

-- the refusal that a word's error is
abbrev pub refusal_of : FpageError → Refusal
refusal_of word.BadSize = bad_size
refusal_of word.Misaligned = misaligned
refusal_of word.OutOfSpace = out_of_space
refusal_of word.NotAnItem = not_an_item
refusal_of word.BadControl = bad_control

-- what a record is answered
pub data Reply : Type 0 where
  sent : Counts → Reply
  accessed : Bool → Reply
  unmapped : List ℕ → Reply
  cleared : Rights → Reply
  refused : Refusal → Reply

-- what a record asks for: a call, or a refusal that its fields and the limits decide
abbrev pub Request : Type 0
Request = Result Call Refusal
