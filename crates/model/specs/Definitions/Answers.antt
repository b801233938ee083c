-- One call: its reply, and the holdings after it.
use Rattle.std.specs.Prelude.{ℕ, Bool, true, ◌&&◌, ◌==◌, nat_lt, not, List, [], ◌∷◌, Option, Some, None, Ok, Err, if◌then◌else◌}
use Rattle.fpage.specs.Fpage.{Flexpage, is_page_of}
use Rattle.fpage.specs.Rights.{all_rights}
use Rattle.fpage.specs.Control.{with_status}
use Rattle.fpage.specs.declared.item.Item.{Item}
use Rattle.fpage.specs.declared.item.ItemKind.{ItemKind}
use Rattle.fpage.specs.declared.item.ItemKind.TheVariants as kind
use Rattle.fpage.specs.declared.rights.Rights.{Rights}
use Rattle.model.specs.Definitions.Holdings.{Holdings, PlaceSet}
use Rattle.model.specs.Definitions.Touch.{can_touch, touch}
use Rattle.model.specs.Definitions.Strip.{strip, strip_word}
use Rattle.model.specs.Definitions.Items.{Job, Counts, job_of, counts, no_counts, add_counts}
use Rattle.model.specs.Definitions.Map.{mapped}
use Rattle.model.specs.Definitions.Grant.{granted}
use Rattle.model.specs.Definitions.Calls.{Limits, Call, send, access, unmap, clear, Named, Refusal, no_such_space, same_space, no_window, Reply, sent, accessed, unmapped, cleared, refused, Request}

-- a reply, and the holdings after it
pub record Answer : Type 0 where
  pub reply : Reply
  pub left : Holdings

-- the six counts of a send, and the holdings after it
pub record SendAnswer : Type 0 where
  pub counts : Counts
  pub left : Holdings

-- what an item leaves
abbrev pub after_job : ItemKind → Holdings → Job → Holdings
after_job kind.Map h job = mapped h job
after_job kind.Grant h job = granted h job

-- what an item is answered, and what it leaves
abbrev pub item_answer : Holdings → Job → SendAnswer
item_answer h job = record { counts = counts h job; left = after_job job.kind h job }

-- the items in order, their counts added (profile)
abbrev pub send_answer : ℕ → ℕ → Flexpage → List Item → Holdings → SendAnswer
send_answer from to window [] h = record { counts = no_counts; left = h }
send_answer from to window (item ∷ items) h =
    let first = item_answer h (job_of from to window item) in
    let others = send_answer from to window items first.left in
    record { counts = add_counts first.counts others.counts; left = others.left }

-- the pages of a space that an fpage names
abbrev pub pages_in : ℕ → Flexpage → PlaceSet
pages_in space f p = (p.space == space) && is_page_of f p.page

-- the reply words of an Unmap, and the holdings after it
pub record UnmapAnswer : Type 0 where
  pub words : List ℕ
  pub left : Holdings

-- the words in order: the caller's pages that a word names are stripped of its rights, and the word comes back with
-- their status (L4 X.2, Unmap)
abbrev pub unmap_answer : ℕ → Bool → List Named → Holdings → UnmapAnswer
unmap_answer space f [] h = record { words = []; left = h }
unmap_answer space f (w ∷ ws) h =
    let named = pages_in space w.1 in
    let others = unmap_answer space f ws (strip h named w.1.rights f) in
    record { words = with_status w.0 (strip_word h named) ∷ others.words; left = others.left }

-- all pages of a space
abbrev pub in_space : ℕ → PlaceSet
in_space space p = p.space == space

-- the status that a clear is answered with, and the holdings after it
pub record ClearAnswer : Type 0 where
  pub status : Rights
  pub left : Holdings

-- all pages of a space are stripped of all rights, with f: they and all that derives from them are gone, and their
-- status is told (profile)
abbrev pub clear_answer : ℕ → Holdings → ClearAnswer
clear_answer space h = record { status = strip_word h (in_space space); left = strip h (in_space space) all_rights true }

-- as the answer to a call
abbrev pub sent_answer : SendAnswer → Answer
sent_answer a = record { reply = sent a.counts; left = a.left }

-- an unmap's, as the answer to a call
abbrev pub unmapped_answer : UnmapAnswer → Answer
unmapped_answer a = record { reply = unmapped a.words; left = a.left }

-- a clear's, as the answer to a call
abbrev pub cleared_answer : ClearAnswer → Answer
cleared_answer a = record { reply = cleared a.status; left = a.left }

-- one accepted call
abbrev pub call_answer : Holdings → Call → Answer
call_answer h (send from to window items) = sent_answer (send_answer from to window items h)
call_answer h (access p a) = record { reply = accessed (can_touch h p a); left = touch h p a }
call_answer h (unmap space f words) = unmapped_answer (unmap_answer space f words h)
call_answer h (clear space) = cleared_answer (clear_answer space h)

-- why a call is refused: the first that fits. The space of an access was looked at with its record
abbrev pub call_refusal : Limits → Call → Option Refusal
call_refusal limits (send from to window items) =
    if not (nat_lt from limits.spaces && nat_lt to limits.spaces) then Some no_such_space
    else if from == to then Some same_space
    else if window.count == 0 then Some no_window
    else None
call_refusal limits (access p a) = None
call_refusal limits (unmap space f words) = if nat_lt space limits.spaces then None else Some no_such_space
call_refusal limits (clear space) = if nat_lt space limits.spaces then None else Some no_such_space

-- a refused call answers its refusal and leaves the holdings
abbrev pub unless_refused : Option Refusal → Holdings → Answer → Answer
unless_refused None h a = a
unless_refused (Some r) h a = record { reply = refused r; left = h }

-- what a record is answered, and the holdings after it
abbrev pub answer : Limits → Holdings → Request → Answer
answer limits h (Err r) = record { reply = refused r; left = h }
answer limits h (Ok call) = unless_refused (call_refusal limits call) h (call_answer h call)
