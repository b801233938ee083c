-- Why a call is refused: the first cause that fits, and no call without one.
use Rattle.std.specs.Prelude.{◌≡◌, ℕ, ◌+◌, ◌*◌, ◌^◌, ◌≤◌, ◌<◌, Bool, ◌↔◌, List, Some, Ok, Err}
use Rattle.fpage.specs.Fpage.{Flexpage}
use Rattle.fpage.specs.declared.item.Item.{Item}
use Rattle.fpage.specs.declared.rights.Rights.{Rights}
use Rattle.model.specs.Definitions.Holdings.{Holdings}
use Rattle.model.specs.Definitions.Items.{Counts}
use Rattle.model.specs.Definitions.Calls.{Limits, send, access, unmap, clear, Named, no_such_space, same_space, no_window, out_of_space, Reply, sent, unmapped, cleared, refused, Request}
use Rattle.model.specs.Definitions.Answers.{answer}
use Rattle.model.specs.Definitions.Records.{AccessFields, access_request}

-- ---- send

-- sender and receiver are spaces that are there
pub record AreSpaces (limits : Limits) (from to : ℕ) : Type 0 where
  pub sender : from < limits.spaces
  pub receiver : to < limits.spaces

-- the reply of a send that is worked
pub record HasCounts (r : Reply) : Type 0 where
  pub counts : Counts
  pub is : r ≡ sent counts

-- a send is refused for a space that is not there, else for one space that is both, else for a window without pages;
-- else it is worked
pub record IsSendReply (limits : Limits) (from to : ℕ) (window : Flexpage) (r : Reply) : Type 0 where
  pub no_space : (r ≡ refused no_such_space) ↔ (AreSpaces limits from to → ⊥)
  pub one_space : (r ≡ refused same_space) ↔ (AreSpaces limits from to × (from ≡ to))
  pub no_pages : (r ≡ refused no_window) ↔ (AreSpaces limits from to × (from ≡ to → ⊥) × (window.count ≡ 0))
  pub worked : HasCounts r ↔ (AreSpaces limits from to × (from ≡ to → ⊥) × (window.count ≡ 0 → ⊥))

-- whatever its items and what is held
abbrev pub SendRefusals : Type 0
SendRefusals =
    (limits : Limits) (h : Holdings) (from to : ℕ) (window : Flexpage) (items : List Item) → IsSendReply limits from to window (answer limits h (Ok (send from to window items))).reply

-- ---- unmap

-- the reply of an unmap that is worked
pub record HasWords (r : Reply) : Type 0 where
  pub words : List ℕ
  pub is : r ≡ unmapped words

-- an unmap is refused for a space that is not there; else it is worked
pub record IsUnmapReply (limits : Limits) (space : ℕ) (r : Reply) : Type 0 where
  pub no_space : (r ≡ refused no_such_space) ↔ (space < limits.spaces → ⊥)
  pub worked : HasWords r ↔ (space < limits.spaces)

-- whatever its words and what is held
abbrev pub UnmapRefusals : Type 0
UnmapRefusals = (limits : Limits) (h : Holdings) (space : ℕ) (f : Bool) (words : List Named) → IsUnmapReply limits space (answer limits h (Ok (unmap space f words))).reply

-- ---- clear

-- the reply of a clear that is worked
pub record HasStatus (r : Reply) : Type 0 where
  pub status : Rights
  pub is : r ≡ cleared status

-- a clear is refused for a space that is not there; else it is worked
pub record IsClearReply (limits : Limits) (space : ℕ) (r : Reply) : Type 0 where
  pub no_space : (r ≡ refused no_such_space) ↔ (space < limits.spaces → ⊥)
  pub worked : HasStatus r ↔ (space < limits.spaces)

-- whatever is held
abbrev pub ClearRefusals : Type 0
ClearRefusals = (limits : Limits) (h : Holdings) (space : ℕ) → IsClearReply limits space (answer limits h (Ok (clear space))).reply

-- ---- access

-- the page of an access: its 4096 bytes have the address
pub record HasAddress (page address : ℕ) : Type 0 where
  pub low : 4096 * page ≤ address
  pub high : address < 4096 * page + 4096

-- an access is refused for a space that is not there, else for an address past the end of the space; else it asks for the
-- page of the address in that space
pub record IsAccessRequest (limits : Limits) (a : AccessFields) (request : Request) : Type 0 where
  pub no_space : (request ≡ Err no_such_space) ↔ (a.space < limits.spaces → ⊥)
  pub past_end : (request ≡ Err out_of_space) ↔ ((a.space < limits.spaces) × (a.address < 2 ^ limits.bits → ⊥))
  pub asks : (page : ℕ) → (request ≡ Ok (access (record { space = a.space; page = page }) a.kind)) ↔ ((a.space < limits.spaces) × (a.address < 2 ^ limits.bits) × HasAddress page a.address)

-- whatever its fields
abbrev pub AccessRefusals : Type 0
AccessRefusals = (limits : Limits) (a : AccessFields) → IsAccessRequest limits a (access_request limits (Some a))
