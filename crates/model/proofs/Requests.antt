-- Each request keeps holdings lawful, and so does a replay.
use Rattle.std.proofs.Common.{◌≡◌, ℕ, true, false, Bool, ◌==◌, ◌&&◌, nat_lt, not, [], ◌∷◌, List, Option, Some, None, Ok, Err, refl, if◌then◌else◌}
use Rattle.std.proofs.lemmas.Bool.{eq-eqb}
use Rattle.fpage.specs.Fpage.{Flexpage}
use Rattle.fpage.specs.Rights.{all_rights}
use Rattle.fpage.specs.declared.item.Item.{Item}
use Rattle.fpage.specs.declared.item.ItemKind.{ItemKind}
use Rattle.fpage.specs.declared.item.ItemKind.TheVariants as kind
use Rattle.model.specs.Definitions.Holdings.{Holdings}
use Rattle.model.specs.Definitions.Strip.{strip}
use Rattle.model.specs.Definitions.Items.{Job, job_of}
use Rattle.model.specs.Definitions.Calls.{Limits, Call, send, access, unmap, clear, Named, Refusal, no_such_space, same_space, no_window, Request}
use Rattle.model.specs.Definitions.Answers.{answer, after_job, send_answer, pages_in, in_space, unmap_answer, call_answer, call_refusal, unless_refused}
use Rattle.model.specs.Definitions.Replay.{start, replay}
use Rattle.model.specs.Laws.LawfulLaws.{MapKeepsLawful, GrantKeepsLawful, RequestKeepsLawful, ReplayIsLawful}
use Rattle.model.proofs.LawfulParts.{IsLawful, lawful_parts, lawful_from}
use Rattle.model.proofs.StripAt.{lawful_strip}
use Rattle.model.proofs.Touches.{lawful_touch}
use Rattle.model.proofs.Starts.{lawful_roots}
use Rattle.model.proofs.Jobs.{IsJob, job_is}
use Rattle.model.proofs.LawfulMaps.{lawful_mapped}
use Rattle.model.proofs.Grants.{lawful_granted}

pub lawful_after : (k : ItemKind) (h : Holdings) → IsLawful h → (job : Job) → IsJob job → IsLawful (after_job k h job)
lawful_after kind.Map h l job is = lawful_mapped h job l is
lawful_after kind.Grant h l job is = lawful_granted h job l is

module _ (from to : ℕ) (differ : from ≡ to → ⊥) (window : Flexpage) where
  lawful_sent : (items : List Item) (h : Holdings) → IsLawful h → IsLawful (send_answer from to window items h).left
  lawful_sent [] h l = l
  lawful_sent (item ∷ items) h l = lawful_sent items _ (lawful_after item.kind h l (job_of from to window item) (job_is from to window item differ))

lawful_unmapped : (space : ℕ) (f : Bool) (words : List Named) (h : Holdings) → IsLawful h → IsLawful (unmap_answer space f words h).left
lawful_unmapped space f [] h l = l
lawful_unmapped space f (w ∷ ws) h l = lawful_unmapped space f ws (strip h (pages_in space w.1) w.1.rights f) (lawful_strip h (pages_in space w.1) w.1.rights f l)

-- a send that is not refused is between two spaces
pub spaces_differ : (limits : Limits) (from to : ℕ) (window : Flexpage) (items : List Item) → call_refusal limits (send from to window items) ≡ None → from ≡ to → ⊥
spaces_differ limits from to window items accepted same = by (nat_lt from limits.spaces && nat_lt to limits.spaces) (from == to) accepted (eq-eqb from to same)
  where
    by : (x y : Bool) → (if not x then Some no_such_space else if y then Some same_space else if window.count == 0 then Some no_window else None) ≡ None → y ≡ true → ⊥
    by true true accepted is = cc accepted
    by false true accepted is = cc accepted
    by x false accepted is = cc is

module _ (limits : Limits) (h : Holdings) (l : IsLawful h) where
  lawful_call : (call : Call) → call_refusal limits call ≡ None → IsLawful (call_answer h call).left
  lawful_call (send from to window items) accepted = lawful_sent from to (spaces_differ limits from to window items accepted) window items h l
  lawful_call (access p a) accepted = lawful_touch h l p a
  lawful_call (unmap space f words) accepted = lawful_unmapped space f words h l
  lawful_call (clear space) accepted = lawful_strip h (in_space space) all_rights true l

  lawful_unless : (call : Call) (why : Option Refusal) → call_refusal limits call ≡ why → IsLawful (unless_refused why h (call_answer h call)).left
  lawful_unless call None is = lawful_call call is
  lawful_unless call (Some r) is = l

  pub lawful_answer : (request : Request) → IsLawful (answer limits h request).left
  lawful_answer (Err r) = l
  lawful_answer (Ok call) = lawful_unless call (call_refusal limits call) refl

lawful_replay : (limits : Limits) (requests : List Request) (h : Holdings) → IsLawful h → IsLawful (replay (answer limits) h requests).last
lawful_replay limits [] h l = l
lawful_replay limits (r ∷ rs) h l = lawful_replay limits rs (answer limits h r).left (lawful_answer limits h l r)

pub map_keeps_lawful : MapKeepsLawful
map_keeps_lawful h lawful from to differ window item =
    let job = job_of from to window item in
    lawful_from _ (lawful_mapped h job (lawful_parts h lawful) (job_is from to window item differ))

pub grant_keeps_lawful : GrantKeepsLawful
grant_keeps_lawful h lawful from to differ window item =
    let job = job_of from to window item in
    lawful_from _ (lawful_granted h job (lawful_parts h lawful) (job_is from to window item differ))

pub request_keeps_lawful : RequestKeepsLawful
request_keeps_lawful limits h lawful request = lawful_from _ (lawful_answer limits h (lawful_parts h lawful) request)

pub replay_is_lawful : ReplayIsLawful
replay_is_lawful limits requests = lawful_from _ (lawful_replay limits requests (start limits) (lawful_roots 0 limits.frames))
