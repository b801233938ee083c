-- No status bit is lost, over whole calls and whole replays.
use Rattle.std.specs.Prelude.{◌≡◌, ℕ, Bool, ◌⊎◌, List, [], ◌∷◌, IsTrue, Some, Ok}
use Rattle.fpage.specs.Rights.{of_bits, has, marks}
use Rattle.fpage.specs.Fpage.{Flexpage}
use Rattle.fpage.specs.declared.rights.Access.{Access}
use Rattle.fpage.specs.declared.item.Item.{Item}
use Rattle.fpage.specs.declared.item.ItemKind.TheVariants.{Grant}
use Rattle.space.specs.declared.place.Place.{Place}
use Rattle.model.specs.Definitions.Holdings.{Held, Holdings, only, at}
use Rattle.model.specs.Definitions.Lawful.{is_lawful}
use Rattle.model.specs.Definitions.Strip.{strip}
use Rattle.model.specs.Definitions.Items.{Job, job_of, going, sources_of}
use Rattle.model.specs.Definitions.Calls.{Limits, send, access, unmap, clear, Named, Reply, sent, unmapped, cleared, Request}
use Rattle.model.specs.Definitions.Answers.{item_answer, pages_in, in_space, answer}
use Rattle.model.specs.Definitions.Replay.{replay}
use Rattle.model.specs.Laws.DerivationLaws.{LeadsInto}
use Rattle.model.specs.Laws.StatusLaws.{HasBit}
use Rattle.model.specs.Laws.SendLaws.{IsReplaced}
use Rattle.model.specs.Laws.TouchLaws.{MayAccess}

-- an item takes a page: it replaces the page, or it grants the page or one from which the page derives. The status of
-- that page and of what derives from it is cleared then, and what it was passes to the origin, if there is one
abbrev pub IsTaken : Holdings → Job → Place → Type 0
IsTaken h job q = IsReplaced h job q ⊎ ((job.kind ≡ Grant) × LeadsInto h 0 (sources_of (going h job)) q)

-- one of the items of a send takes the page
abbrev pub IsTakenByItems : ℕ → ℕ → Flexpage → List Item → Holdings → Place → Type 0
IsTakenByItems from to window [] h q = ⊥
IsTakenByItems from to window (item ∷ items) h q =
    let job = job_of from to window item in
    IsTaken h job q ⊎ IsTakenByItems from to window items (item_answer h job).left q

-- one of the words of an unmap names the page, or a page from which it derives, and comes back with the bit
abbrev pub IsToldByWords : ℕ → Bool → List Named → List ℕ → Holdings → Place → Access → Type 0
IsToldByWords space f [] replies h q b = ⊥
IsToldByWords space f (w ∷ ws) [] h q b = ⊥
IsToldByWords space f (w ∷ ws) (reply ∷ replies) h q b =
    let named = pages_in space w.1 in
    (LeadsInto h 0 named q × IsTrue (has (of_bits reply) b)) ⊎ IsToldByWords space f ws replies (strip h named w.1.rights f) q b

-- what a request does with a bit of a page, by its reply: a send that is not refused may take the page; an unmap may
-- tell the bit, and so may a clear of the space of the page, or of one from which it derives; nothing else touches it
abbrev pub IsToldOrTaken : Holdings → Request → Reply → Place → Access → Type 0
IsToldOrTaken h (Ok (send from to window items)) (sent c) q b = IsTakenByItems from to window items h q
IsToldOrTaken h (Ok (unmap space f words)) (unmapped replies) q b = IsToldByWords space f words replies h q b
IsToldOrTaken h (Ok (clear space)) (cleared status) q b = LeadsInto h 0 (in_space space) q × IsTrue (has status b)
IsToldOrTaken h request reply q b = ⊥

-- a status bit of a page, or of one that derives from it, is told or taken by the request, or is still there
-- afterwards, at the page or at one that derives from it
abbrev pub CallKeepsBits : Type 0
CallKeepsBits =
    (limits : Limits) (h : Holdings) → IsTrue (is_lawful h) → (request : Request) (q : Place) (b : Access) → HasBit h (only q) b
    → let given = answer limits h request in
    IsToldOrTaken h request given.reply q b ⊎ HasBit given.left (only q) b

-- one of the requests of a trace tells the bit or takes the page
abbrev pub IsToldOrTakenSince : Limits → Holdings → List Request → Place → Access → Type 0
IsToldOrTakenSince limits h [] q b = ⊥
IsToldOrTakenSince limits h (r ∷ rs) q b =
    let given = answer limits h r in
    IsToldOrTaken h r given.reply q b ⊎ IsToldOrTakenSince limits given.left rs q b

-- whatever is asked in whatever order, a status bit that is set at a page is not lost to any place from which the page
-- derives, nor to the page itself: a request since then told it or took that place, or it stands at that place or at
-- one that derives from it. So, of all places from the page up to its root, those that are never taken keep the bit
-- until it is told, and it can end untold only where the root itself is taken, which has no origin
abbrev pub ReplayKeepsBits : Type 0
ReplayKeepsBits =
    (limits : Limits) (h : Holdings) → IsTrue (is_lawful h) → (rs : List Request) (p : Place) (m : Held) (b : Access) → at h p ≡ Some m → IsTrue (has m.status b)
    → (q : Place) → LeadsInto h 0 (only q) p → IsToldOrTakenSince limits h rs q b ⊎ HasBit (replay (answer limits) h rs).last (only q) b

-- ---- where bits come from

-- a request is an access of the page, or of one that derives from it, which is ok and leaves the bit
abbrev pub MarksBit : Holdings → Request → Place → Access → Type 0
MarksBit h (Ok (access p a)) q b = MayAccess h p a × LeadsInto h 0 (only q) p × IsTrue (has (marks a) b)
MarksBit h request q b = ⊥

-- one of the requests of a trace is such an access
abbrev pub IsMarkedSince : Limits → Holdings → List Request → Place → Access → Type 0
IsMarkedSince limits h [] q b = ⊥
IsMarkedSince limits h (r ∷ rs) q b = MarksBit h r q b ⊎ IsMarkedSince limits (answer limits h r).left rs q b

-- a status bit comes from an access alone: one that stands at a page, or at one that derives from it, stood there at the
-- start, or an access has left it since
abbrev pub BitsComeFromAccesses : Type 0
BitsComeFromAccesses =
    (limits : Limits) (h : Holdings) → IsTrue (is_lawful h) → (rs : List Request) (q : Place) (b : Access)
    → HasBit (replay (answer limits) h rs).last (only q) b → HasBit h (only q) b ⊎ IsMarkedSince limits h rs q b
