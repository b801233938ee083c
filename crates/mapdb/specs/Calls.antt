-- What calls, refusals and replies stand for in the definitions.
use Rattle.std.specs.Prelude.{◌≡◌, ⊤, ℕ, List, length}
use Rattle.std.specs.List.{All, zip}
use Rattle.fpage.specs.Fpage.{Flexpage, IsFpageOf}
use Rattle.fpage.specs.declared.error.FpageError.{FpageError}
use Rattle.model.specs.Definitions.Calls as calls
use Rattle.model.specs.Definitions.Calls.{Limits, Call, send, access, unmap, clear, Refusal, bad_size, misaligned, out_of_space, not_an_item, bad_control, no_such_space, same_space, no_window, bad_record, Reply, sent, accessed, unmapped, cleared, refused}
use Rattle.holdings.specs.Places.{IsWithin}
use Rattle.mapdb.specs.Meaning.{counts_of}
use Rattle.mapdb.specs.declared.call.Call.{Call as TheCall}
use Rattle.mapdb.specs.declared.call.Call.TheVariants.{Send, Access, Unmap, Clear}
use Rattle.mapdb.specs.declared.call.Sending.{Sending}
use Rattle.mapdb.specs.declared.call.Unmap.{Unmap as TheUnmap}
use Rattle.mapdb.specs.declared.call.Refusal.{Refusal as TheRefusal}
use Rattle.mapdb.specs.declared.call.Refusal.TheVariants as why
use Rattle.mapdb.specs.declared.reply.Reply.{Reply as TheReply}
use Rattle.mapdb.specs.declared.reply.Reply.TheVariants.{Sent, Accessed, Unmapped, Cleared, Refused}

-- the refusal that one of the program is
abbrev pub refusal_of : TheRefusal → Refusal
refusal_of why.BadSize = bad_size
refusal_of why.Misaligned = misaligned
refusal_of why.OutOfSpace = out_of_space
refusal_of why.NotAnItem = not_an_item
refusal_of why.BadControl = bad_control
refusal_of why.NoSuchSpace = no_such_space
refusal_of why.SameSpace = same_space
refusal_of why.NoWindow = no_window
refusal_of why.BadRecord = bad_record

-- the refusal that a word's error is
abbrev pub IsRefusalOf : FpageError → TheRefusal → Type 0
IsRefusalOf e r = refusal_of r ≡ calls.refusal_of e

-- the call that one of the program is
abbrev pub call_of : TheCall → Call
call_of (Send from to window items) = send from to window items.items
call_of (Access place kind) = access place kind
call_of (Unmap space control words fpages) = unmap space control.flush (zip words.items fpages.items)
call_of (Clear space) = clear space

-- the same of a send
abbrev pub send_of : Sending → Call
send_of s = send s.from s.to s.window s.items.now

-- the same of an unmap, whose words are given
abbrev pub unmap_of : TheUnmap → List ℕ → Call
unmap_of u words = unmap u.space u.control.flush (zip words u.fpages.now)

-- each word of an unmap has its fpage, which lies within a space
abbrev pub AreWordsWithin : Limits → List ℕ → List Flexpage → Type 0
AreWordsWithin limits words fpages = All (IsFpageOf limits.bits) fpages × (length fpages ≡ length words)

-- the pages that a call names lie within the limits, and each word of an unmap has its fpage
abbrev pub IsWithinLimits : Limits → TheCall → Type 0
IsWithinLimits limits (Send from to window items) = IsFpageOf limits.bits window × All (λ item. IsFpageOf limits.bits item.sent) items.items
IsWithinLimits limits (Access place kind) = IsWithin limits place
IsWithinLimits limits (Unmap space control words fpages) = AreWordsWithin limits words.items fpages.items
IsWithinLimits limits (Clear space) = ⊤

-- the reply that one of the program is
abbrev pub reply_of : TheReply → Reply
reply_of (Sent r) = sent (counts_of r)
reply_of (Accessed ok) = accessed ok
reply_of (Unmapped words) = unmapped words.items
reply_of (Cleared status) = cleared status
reply_of (Refused r) = refused (refusal_of r)
