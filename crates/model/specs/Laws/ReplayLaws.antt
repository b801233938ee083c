-- What changes nothing, and what a replay of two traces is.
use Rattle.std.specs.Prelude.{◌≡◌, ℕ, ◌<◌, Bool, true, false, List, [], ◌++◌, IsTrue, IsFalse, Some, None}
use Rattle.fpage.specs.Rights.{no_rights}
use Rattle.fpage.specs.Fpage.{Flexpage}
use Rattle.fpage.specs.declared.rights.Rights.{Rights}
use Rattle.fpage.specs.declared.item.Item.{Item}
use Rattle.space.specs.declared.place.Place.{Place}
use Rattle.model.specs.Definitions.Holdings.{Held, Holdings, PlaceSet, at, is_held}
use Rattle.model.specs.Definitions.Lawful.{is_lawful}
use Rattle.model.specs.Definitions.Strip.{strip, strip_word}
use Rattle.model.specs.Definitions.Items.{job_of, no_counts}
use Rattle.model.specs.Definitions.Calls.{Limits, Refusal, Request, refused, accessed}
use Rattle.model.specs.Definitions.Answers.{Answer, answer, item_answer, send_answer, unmap_answer}
use Rattle.model.specs.Definitions.Replay.{Told, replay, start}

-- a request that is refused changes nothing
abbrev pub RefusedChangesNothing : Type 0
RefusedChangesNothing = (limits : Limits) (h : Holdings) (request : Request) (r : Refusal) → (answer limits h request).reply ≡ refused r → (answer limits h request).left ≡ h

-- nor does an access that is a fault
abbrev pub FaultChangesNothing : Type 0
FaultChangesNothing = (limits : Limits) (h : Holdings) (request : Request) → (answer limits h request).reply ≡ accessed false → (answer limits h request).left ≡ h

-- nor does an unmap of pages of which none is held; it returns no status
abbrev pub NoPageNamed : Type 0
NoPageNamed =
    (h : Holdings) → IsTrue (is_lawful h) → (set : PlaceSet) → ((p : Place) → IsTrue (is_held h p) → IsFalse (set p))
    → (a : Rights) (f : Bool) → (strip h set a f ≡ h) × (strip_word h set ≡ no_rights)

-- nor does an item without pages, which has no pairs
abbrev pub NilpageSends : Type 0
NilpageSends =
    (h : Holdings) → IsTrue (is_lawful h) → (from to : ℕ) (window : Flexpage) (item : Item) → item.sent.count ≡ 0
    → item_answer h (job_of from to window item) ≡ record { counts = no_counts; left = h }

-- nor do calls without items or words
abbrev pub NothingAsked : Type 0
NothingAsked =
    (h : Holdings) (from to : ℕ) (window : Flexpage) (space : ℕ) (f : Bool)
    → (send_answer from to window [] h ≡ record { counts = no_counts; left = h }) × (unmap_answer space f [] h ≡ record { words = []; left = h })

-- what is held at the start
pub record IsAtStart (limits : Limits) (h : Holdings) : Type 0 where
  -- page i of space 0, for each frame i, as a root of that frame, with r, w and x and no status
  pub roots : (i : ℕ) → i < limits.frames
      → at h (record { space = 0; page = i })
      ≡ Some (record { frame = i; rights = record { read = true; write = true; execute = true }; status = record { read = false; write = false; execute = false }; origin = None })
  -- and nothing else
  pub others : (p : Place) (m : Held) → at h p ≡ Some m → (p.space ≡ 0) × (p.page < limits.frames)

-- with any limits
abbrev pub StartSays : Type 0
StartSays = (limits : Limits) → IsAtStart limits (start limits)

-- the second trace from where the first ended
abbrev pub one_after_another : Told → (Holdings → Told) → Told
one_after_another first second = let rest = second first.last in record { replies = first.replies ++ rest.replies; last = rest.last }

-- two traces one after the other are the first, and the second from where the first ended
abbrev pub ReplaysJoin : Type 0
ReplaysJoin =
    (answer_one : Holdings → Request → Answer) (h : Holdings) (rs ss : List Request)
    → replay answer_one h (rs ++ ss) ≡ one_after_another (replay answer_one h rs) (λ last. replay answer_one last ss)
