-- What changes nothing, and replays one after another.
use Rattle.std.proofs.Common.{◌≡◌, min, true, false, [], ◌∷◌, Option, Some, None, Ok, Err, refl, ap, arith}
use Rattle.std.specs.Ordering.{is_lt}
use Rattle.std.specs.declared.cmp.Ordering.{Ordering}
use Rattle.std.specs.declared.cmp.Ordering.TheVariants.{Less, Equal, Greater}
use Rattle.std.specs.FinMap.Entries.{put, below_all, is_sorted, by_order}
use Rattle.std.proofs.lemmas.Bool.{false_from_ne_true, and_parts}
use Rattle.fpage.specs.Rights.{all_rights, without}
use Rattle.fpage.specs.declared.rights.Rights.{Rights}
use Rattle.fpage.specs.declared.rights.Access.{Access}
use Rattle.fpage.specs.declared.item.ItemKind.{ItemKind}
use Rattle.fpage.specs.declared.item.ItemKind.TheVariants as kind
use Rattle.space.specs.declared.place.Place.{Place}
use Rattle.space.specs.Place.{place_cmp}
use Rattle.model.specs.Definitions.Holdings.{Held, Holdings, is_held}
use Rattle.model.specs.Definitions.Derived.{is_below}
use Rattle.model.specs.Definitions.Touch.{can_touch, touch}
use Rattle.model.specs.Definitions.Strip.{strip}
use Rattle.model.specs.Definitions.Items.{flush}
use Rattle.model.specs.Definitions.Grant.{moved, renamed}
use Rattle.model.specs.Definitions.Calls.{Limits, Call, send, access, unmap, clear, Refusal, Request, accessed, refused}
use Rattle.model.specs.Definitions.Answers.{answer, call_answer, call_refusal, unless_refused, after_job}
use Rattle.model.specs.Definitions.Replay.{told_after}
use Rattle.model.specs.Laws.ReplayLaws.{RefusedChangesNothing, FaultChangesNothing, NoPageNamed, NilpageSends, NothingAsked, ReplaysJoin}
use Rattle.model.proofs.Lookups.{Sorted}
use Rattle.model.proofs.LawfulParts.{IsLawful, lawful_parts}
use Rattle.model.proofs.Derivations.{below_leads, chains_are_held}
use Rattle.model.proofs.StripUnions.{strip_nothing, word_nothing}
use Rattle.model.proofs.NoPlaces.{strip_none}

-- ---- refusals

module _ (limits : Limits) (h : Holdings) where
  -- an accepted call has a reply of its own kind
  accepted : (call : Call) (r : Refusal) → (call_answer h call).reply ≡ refused r → (call_answer h call).left ≡ h
  accepted (send from to window items) r is = absurd (cc is)
  accepted (access p a) r is = absurd (cc is)
  accepted (unmap space f words) r is = absurd (cc is)
  accepted (clear space) r is = absurd (cc is)

  refused_leaves : (call : Call) (why : Option Refusal) (r : Refusal) → (unless_refused why h (call_answer h call)).reply ≡ refused r → (unless_refused why h (call_answer h call)).left ≡ h
  refused_leaves call None r is = accepted call r is
  refused_leaves call (Some _) r is = refl

  refused_by : (request : Request) (r : Refusal) → (answer limits h request).reply ≡ refused r → (answer limits h request).left ≡ h
  refused_by (Err _) r is = refl
  refused_by (Ok call) r is = refused_leaves call (call_refusal limits call) r is

  touch_fault : (p : Place) (a : Access) → can_touch h p a ≡ false → touch h p a ≡ h
  touch_fault p a cannot = rw cannot refl

  fault : (call : Call) → (call_answer h call).reply ≡ accessed false → (call_answer h call).left ≡ h
  fault (send from to window items) is = absurd (cc is)
  fault (access p a) is = touch_fault p a (cc is)
  fault (unmap space f words) is = absurd (cc is)
  fault (clear space) is = absurd (cc is)

  fault_leaves : (call : Call) (why : Option Refusal) → (unless_refused why h (call_answer h call)).reply ≡ accessed false → (unless_refused why h (call_answer h call)).left ≡ h
  fault_leaves call None is = fault call is
  fault_leaves call (Some _) is = absurd (cc is)

  fault_by : (request : Request) → (answer limits h request).reply ≡ accessed false → (answer limits h request).left ≡ h
  fault_by (Err _) is = absurd (cc is)
  fault_by (Ok call) is = fault_leaves call (call_refusal limits call) is

pub refused_changes_nothing : RefusedChangesNothing
refused_changes_nothing limits h request r is = refused_by limits h request r is

pub fault_changes_nothing : FaultChangesNothing
fault_changes_nothing limits h request is = fault_by limits h request is

-- ---- no page named

pub no_page_named : NoPageNamed
no_page_named h lawful set none a f = (strip_nothing h l set a f out, word_nothing h set l out)
  where
    l : IsLawful h
    l = lawful_parts h lawful

    out : (p : Place) → is_held h p ≡ true → is_below h set p ≡ false
    out p held = false_from_ne_true _ (λ below.
        let chain = below_leads h l set p below in
        cc (none chain.into (chains_are_held h lawful p held chain.origins chain.into chain.leads), chain.within))

-- ---- empty calls

-- a mapping that does not move
not_moved : (p : Place) (m : Held) → moved [] p m ≡ m
not_moved p m = by m.origin refl
  where
    by : (o : Option Place) → m.origin ≡ o → moved [] p m ≡ m
    by None is = rw is refl
    by (Some o) is = rw is refl

put_first : (p : Place) (m : Held) (h : Holdings) → below_all place_cmp p h ≡ true → put place_cmp p m h ≡ (p, m) ∷ h
put_first p m [] low = refl
put_first p m (e ∷ h) low = by (place_cmp p e.0) (and_parts (is_lt (place_cmp p e.0)) (below_all place_cmp p h) low).0
  where
    by : (o : Ordering) → is_lt o ≡ true → by_order o ((p, m) ∷ e ∷ h) ((e.0, m) ∷ h) (e ∷ put place_cmp p m h) ≡ (p, m) ∷ e ∷ h
    by Less less = refl
    by Equal less = absurd (cc less)
    by Greater less = absurd (cc less)

none_renamed : (h : Holdings) → Sorted h → renamed [] h ≡ h
none_renamed [] sorted = refl
none_renamed (e ∷ h) sorted =
    let parts = and_parts (below_all place_cmp e.0 h) (is_sorted place_cmp h) sorted in
    rw (none_renamed h parts.1, not_moved e.0 e.1) (put_first e.0 e.1 h parts.0)

no_pairs : (k : ItemKind) (h : Holdings) (r : Rights) → Sorted h → after_job k h (record { kind = k; rights = r; pairs = [] }) ≡ h
no_pairs kind.Map h r sorted = strip_none h _ all_rights (λ p. refl)
no_pairs kind.Grant h r sorted =
    let flushed : flush h [] ≡ h = strip_none h _ all_rights (λ p. refl) in
    let stripped : strip h (λ p. false) (without all_rights r) true ≡ h = strip_none h _ (without all_rights r) (λ p. refl) in
    rw (flushed, stripped) (none_renamed h sorted)

pub nilpage_sends : NilpageSends
nilpage_sends h lawful from to window item none =
    let no_page : min item.sent.count window.count ≡ 0 = omega arith in
    rw (no_page, no_pairs item.kind h item.sent.rights (lawful_parts h lawful).sorted) refl

pub nothing_asked : NothingAsked
nothing_asked h from to window space f = (refl, refl)

-- ---- replays

pub replays_join : ReplaysJoin
replays_join answer_one h [] ss = refl
replays_join answer_one h (r ∷ rs) ss = let first = answer_one h r in ap (told_after first) (replays_join answer_one first.left rs ss)
