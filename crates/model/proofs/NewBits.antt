-- A status bit comes from an access alone.
use Rattle.std.proofs.Common.{◌≡◌, ℕ, true, false, Bool, List, [], ◌∷◌, Option, Some, None, Ok, Err, option_map, refl, sym, ap, ◌∙◌, subst, ◌⊎◌, inl, inr, if◌then◌else◌}
use Rattle.std.specs.Option.{is_some, option_and_then, option_map_or}
use Rattle.std.proofs.lemmas.Bool.{or_cases, or_parts, false_from_ne_true}
use Rattle.fpage.specs.Rights.{all_rights, no_rights, has, marks, without}
use Rattle.fpage.specs.Fpage.{Flexpage}
use Rattle.fpage.specs.declared.rights.Access.{Access}
use Rattle.fpage.specs.declared.item.Item.{Item}
use Rattle.fpage.specs.declared.item.ItemKind.{ItemKind}
use Rattle.fpage.specs.declared.item.ItemKind.TheVariants as kind
use Rattle.space.specs.declared.place.Place.{Place}
use Rattle.space.specs.Place.{same_place}
use Rattle.model.specs.Definitions.Holdings.{Held, Holdings, PlaceSet, only, at, origin_at, each}
use Rattle.model.specs.Definitions.Derived.{is_below}
use Rattle.model.specs.Definitions.Touch.{can_touch, marked, touch}
use Rattle.model.specs.Definitions.Strip.{strip}
use Rattle.model.specs.Definitions.Items.{Job, Pair, job_of, going, sources_of}
use Rattle.model.specs.Definitions.Map.{mapped}
use Rattle.model.specs.Definitions.Grant.{moved_to, granted}
use Rattle.model.specs.Definitions.Calls.{Limits, Call, send, access, unmap, clear, Named, Refusal, Request}
use Rattle.model.specs.Definitions.Answers.{after_job, send_answer, pages_in, in_space, unmap_answer, call_answer, call_refusal, unless_refused, answer}
use Rattle.model.specs.Definitions.Replay.{replay}
use Rattle.model.specs.Laws.StatusLaws.{HasBit}
use Rattle.model.specs.Laws.SendLaws.{In}
use Rattle.model.specs.Laws.KeptStatusLaws.{MarksBit, IsMarkedSince, BitsComeFromAccesses}
use Rattle.space.proofs.Places.{same_is}
use Rattle.fpage.proofs.RightSets.{has-join, has-none}
use Rattle.model.proofs.Lookups.{sorted_each}
use Rattle.model.proofs.LawfulParts.{IsLawful, lawful_parts}
use Rattle.model.proofs.Chains.{along, below_cases, below_from, in_below}
use Rattle.model.proofs.EvenChanges.{was_held, below_each}
use Rattle.model.proofs.StatusSums.{over_has, over_from}
use Rattle.model.proofs.StripAt.{lawful_strip, strip_below}
use Rattle.model.proofs.Derivations.{below_leads}
use Rattle.model.proofs.Statuses.{word_has, word_from, cleared, bit_was_there}
use Rattle.model.proofs.Touches.{touching, touch_even}
use Rattle.model.proofs.Jobs.{IsJob, job_is, in_sources}
use Rattle.model.proofs.Growths.{IsGrown}
use Rattle.model.proofs.Flushes.{held_targets, lawful_flush}
use Rattle.model.proofs.Maps.{flushed_for}
use Rattle.model.proofs.LawfulMaps.{Came, old, widened, new, came, mapped_grown, lawful_mapped}
use Rattle.model.proofs.Renames.{moved_cases}
use Rattle.model.proofs.Grants.{moving_for, withheld_for, lawful_withheld, lawful_granted, granted_was, granted_other}
use Rattle.model.proofs.AccessOutcomes.{may_from}
use Rattle.model.proofs.Requests.{lawful_after, spaces_differ, lawful_answer}
use Rattle.model.proofs.KeptBits.{IsSet}

-- ---- access

module _ (h : Holdings) (l : IsLawful h) (t : Place) (a : Access) (q : Place) (b : Access) where
  -- a bit of a page that an access marked, or of one below it
  new_mark : IsSet (each (touching t a) h) q b → IsSet h q b ⊎ ((is_below h (only q) t ≡ true) × (has (marks a) b ≡ true))
  new_mark bit =
      let after = each (touching t a) h in
      let s = over_from (is_below after (only q)) b after (sorted_each (touching t a) h l.sorted) bit in
      let w = was_held h (touching t a) l s.place s.held s.is in
      let below : is_below h (only q) s.place ≡ true = sym (below_each h (touching t a) l (touch_even h l t a) (only q) s.place (ap is_some s.is)) ∙ s.within in
      let left : Some (if same_place t s.place then marked a w.before else w.before) ≡ Some s.held = w.left in
      by (same_place t s.place) s.place w.before w.held below (ap (λ y. option_map_or (λ k. has k.status b) y false) left ∙ s.bit) (same_is t s.place)
    where
      by : (x : Bool) (p : Place) (m : Held) → at h p ≡ Some m → is_below h (only q) p ≡ true → has (if x then marked a m else m).status b ≡ true → (x ≡ true → t ≡ p)
          → IsSet h q b ⊎ ((is_below h (only q) t ≡ true) × (has (marks a) b ≡ true))
      by false p m held below bit here = inl (over_has (is_below h (only q)) b h p m held below bit)
      by true p m held below bit here = either (or_cases (has m.status b) (has (marks a) b) (sym (has-join m.status (marks a) b) ∙ bit))
        where
          either : (has m.status b ≡ true) ⊎ (has (marks a) b ≡ true) → IsSet h q b ⊎ ((is_below h (only q) t ≡ true) × (has (marks a) b ≡ true))
          either (inl own) = inl (over_has (is_below h (only q)) b h p m held below own)
          either (inr mark) = inr (subst (λ y. is_below h (only q) y ≡ true) (sym (here refl)) below, mark)

  touch_brings : IsSet (touch h t a) q b → IsSet h q b ⊎ MarksBit h (Ok (access t a)) q b
  touch_brings bit = by (can_touch h t a) refl bit
    where
      by : (x : Bool) → can_touch h t a ≡ x → IsSet (if x then each (touching t a) h else h) q b → IsSet h q b ⊎ MarksBit h (Ok (access t a)) q b
      by false is bit = inl bit
      by true is bit = either (new_mark bit)
        where
          either : IsSet h q b ⊎ ((is_below h (only q) t ≡ true) × (has (marks a) b ≡ true)) → IsSet h q b ⊎ MarksBit h (Ok (access t a)) q b
          either (inl before) = inl before
          either (inr (below, mark)) = inr (may_from h t a is, below_leads h l (only q) t below, mark)

-- ---- unmap

words_bring_none : (space : ℕ) (f : Bool) (q : Place) (b : Access) (ws : List Named) (h : Holdings) → IsLawful h → IsSet (unmap_answer space f ws h).left q b → IsSet h q b
words_bring_none space f q b [] h l bit = bit
words_bring_none space f q b (w ∷ ws) h l bit =
    let named = pages_in space w.1 in
    bit_was_there h l named w.1.rights f q b (words_bring_none space f q b ws (strip h named w.1.rights f) (lawful_strip h named w.1.rights f l) bit)

-- ---- map

module _ (before after : Holdings) (l : IsLawful before) (l' : IsLawful after) (g : IsGrown before after) where
  -- a place that was held is below no set that it was not below
  shrunk_below : (set : PlaceSet) (p : Place) → (m : Held) → at before p ≡ Some m → is_below after set p ≡ true → is_below before set p ≡ true
  shrunk_below set = along after l' (λ p. (m : Held) → at before p ≡ Some m → is_below after set p ≡ true → is_below before set p ≡ true) (λ p ih m held below. by p ih m held (below_cases after l' set p below))
    where
      by : (p : Place) → ((o : Place) → origin_at after p ≡ Some o → (m : Held) → at before o ≡ Some m → is_below after set o ≡ true → is_below before set o ≡ true) → (m : Held) → at before p ≡ Some m
          → (set p ≡ true) ⊎ ((o : Place) × (origin_at after p ≡ Some o) × (is_below after set o ≡ true)) → is_below before set p ≡ true
      by p ih m held (inl is) = in_below before l set p is
      by p ih m held (inr (o, from, below)) =
          let s = g.still p m held in
          let from_before : m.origin ≡ Some o = sym s.origin ∙ sym (ap (option_and_then (λ k. k.origin)) s.is) ∙ from in
          let origin = l.origin p o m held from_before in
          below_from before l set p o (ap (option_and_then (λ k. k.origin)) held ∙ from_before) (ih o from origin.held origin.is below)

module _ (h : Holdings) (job : Job) (l : IsLawful h) (j : IsJob job) (q : Place) (b : Access) where
  lawful_flushed : IsLawful (flushed_for h job)
  lawful_flushed = lawful_flush h (going h job) l

  map_brings_none : IsSet (mapped h job) q b → IsSet (flushed_for h job) q b
  map_brings_none bit =
      let s = over_from (is_below (mapped h job) (only q)) b (mapped h job) (lawful_mapped h job l j).sorted bit in
      by s.place s.held (came h job l j s.place s.held s.is) s.within s.bit
    where
      at_old : (p : Place) (m : Held) → at (flushed_for h job) p ≡ Some m → is_below (mapped h job) (only q) p ≡ true → has m.status b ≡ true → IsSet (flushed_for h job) q b
      at_old p m held within bit =
          over_has (is_below (flushed_for h job) (only q)) b (flushed_for h job) p m held
          (shrunk_below (flushed_for h job) (mapped h job) lawful_flushed (lawful_mapped h job l j) (mapped_grown h job l j) (only q) p m held within) bit

      by : (p : Place) (k : Held) → Came h job l j p k → is_below (mapped h job) (only q) p ≡ true → has k.status b ≡ true → IsSet (flushed_for h job) q b
      by p k (old held) within bit = at_old p k held within bit
      by p k (widened w) within bit =
          at_old p w.target (subst (λ x. at (flushed_for h job) x ≡ Some w.target) w.place w.at_target) within (ap (λ x. has x.status b) (sym w.is) ∙ bit)
      by p k (new n) within bit = absurd (cc (bit, ap (λ x. has x.status b) n.is, has-none b))

  flush_brings_none : IsSet (flushed_for h job) q b → IsSet h q b
  flush_brings_none bit = bit_was_there h l (held_targets h (going h job)) all_rights true q b bit

  -- ---- grant

  stays_put : (o : Place) → sources_of (moving_for h job) o ≡ false → moved_to (moving_for h job) o ≡ o
  stays_put o none = by (moved_cases (moving_for h job) o)
    where
      by : ((e : Pair) × In e (moving_for h job) × (e.0 ≡ o) × (moved_to (moving_for h job) o ≡ e.1)) ⊎ ((sources_of (moving_for h job) o ≡ false) × (moved_to (moving_for h job) o ≡ o))
          → moved_to (moving_for h job) o ≡ o
      by (inl (e, in_e, same, to)) = absurd (cc (none, in_sources (moving_for h job) e in_e, ap (sources_of (moving_for h job)) same))
      by (inr (_, stays)) = stays

  -- a place that is not below the sources was below the same sets before the move
  unmoved_below : (set : PlaceSet) (p : Place) → (m : Held) → at (withheld_for h job) p ≡ Some m → is_below (withheld_for h job) (sources_of (moving_for h job)) p ≡ false
      → is_below (granted h job) set p ≡ true → is_below (withheld_for h job) set p ≡ true
  unmoved_below set = along (granted h job) (lawful_granted h job l j)
      (λ p. (m : Held) → at (withheld_for h job) p ≡ Some m → is_below (withheld_for h job) (sources_of (moving_for h job)) p ≡ false → is_below (granted h job) set p ≡ true → is_below (withheld_for h job) set p ≡ true)
      (λ p ih m held out below. by p ih m held out (below_cases (granted h job) (lawful_granted h job l j) set p below))
    where
      by : (p : Place)
          → ((o : Place) → origin_at (granted h job) p ≡ Some o → (m : Held) → at (withheld_for h job) o ≡ Some m → is_below (withheld_for h job) (sources_of (moving_for h job)) o ≡ false
          → is_below (granted h job) set o ≡ true → is_below (withheld_for h job) set o ≡ true)
          → (m : Held) → at (withheld_for h job) p ≡ Some m → is_below (withheld_for h job) (sources_of (moving_for h job)) p ≡ false
          → (set p ≡ true) ⊎ ((o : Place) × (origin_at (granted h job) p ≡ Some o) × (is_below (granted h job) set o ≡ true)) → is_below (withheld_for h job) set p ≡ true
      by p ih m held out (inl is) = in_below (withheld_for h job) (lawful_withheld h job l) set p is
      by p ih m held out (inr (o, from, below)) = through m.origin refl (sym (ap (option_and_then (λ k. k.origin)) after) ∙ from)
        where
          after : at (granted h job) p ≡ Some (record m { origin = option_map (moved_to (moving_for h job)) m.origin })
          after = granted_other h job l j p m (or_parts (sources_of (moving_for h job) p) _ out).0 held

          through : (x : Option Place) → m.origin ≡ x → option_map (moved_to (moving_for h job)) m.origin ≡ Some o → is_below (withheld_for h job) set p ≡ true
          through None is to = absurd (cc (to, ap (option_map (moved_to (moving_for h job))) is))
          through (Some c) is to =
              let lw = lawful_withheld h job l in
              let origin = lw.origin p c m held is in
              let from_c : origin_at (withheld_for h job) p ≡ Some c = ap (option_and_then (λ k. k.origin)) held ∙ is in
              let c_out : is_below (withheld_for h job) (sources_of (moving_for h job)) c ≡ false = false_from_ne_true _ (λ inside. cc (out, below_from (withheld_for h job) lw (sources_of (moving_for h job)) p c from_c inside)) in
              let stays = stays_put c (or_parts (sources_of (moving_for h job) c) _ c_out).0 in
              let moved_c : Some (moved_to (moving_for h job) c) ≡ Some o = sym (ap (option_map (moved_to (moving_for h job))) is) ∙ to in
              let same : c ≡ o = cc (moved_c, stays) in
              below_from (withheld_for h job) lw set p c from_c
              (ih c (from ∙ ap Some (sym same)) origin.held origin.is c_out (subst (λ x. is_below (granted h job) set x ≡ true) (sym same) below))

  grant_brings_none : IsSet (granted h job) q b → IsSet (withheld_for h job) q b
  grant_brings_none bit =
      let s = over_from (is_below (granted h job) (only q)) b (granted h job) (lawful_granted h job l j).sorted bit in
      let w = granted_was h job l j s.place s.held s.is in
      by s.place s.held w.place w.before w.held w.to (sources_of (moving_for h job) w.place) refl (ap (λ x. has x.status b) (sym w.is) ∙ s.bit) s.within
    where
      by : (p : Place) (k : Held) (from : Place) (m : Held) → at (withheld_for h job) from ≡ Some m → moved_to (moving_for h job) from ≡ p → (x : Bool) → sources_of (moving_for h job) from ≡ x
          → has (if sources_of (moving_for h job) from then no_rights else m.status) b ≡ true → is_below (granted h job) (only q) p ≡ true → IsSet (withheld_for h job) q b
      by p k from m held to true is bit within = absurd (cc (bit, ap (λ x. has (if x then no_rights else m.status) b) is, has-none b))
      by p k from m held to false is bit within =
          let same : from ≡ p = sym (stays_put from is) ∙ to in
          let own : has m.status b ≡ true = ap (λ x. has (if x then no_rights else m.status) b) (sym is) ∙ bit in
          let out : is_below (withheld_for h job) (sources_of (moving_for h job)) from ≡ false = false_from_ne_true _ (λ inside. not_cleared from m held own inside) in
          over_has (is_below (withheld_for h job) (only q)) b (withheld_for h job) from m held
          (unmoved_below (only q) from m held out (subst (λ x. is_below (granted h job) (only q) x ≡ true) (sym same) within)) own
        where
          not_cleared : (p : Place) (m : Held) → at (withheld_for h job) p ≡ Some m → has m.status b ≡ true → is_below (withheld_for h job) (sources_of (moving_for h job)) p ≡ true → ⊥
          not_cleared p m held set_bit inside =
              let below : is_below (flushed_for h job) (sources_of (moving_for h job)) p ≡ true =
              sym (strip_below (flushed_for h job) (sources_of (moving_for h job)) (without all_rights job.rights) true lawful_flushed (sources_of (moving_for h job)) p (ap is_some held)) ∙ inside in
              let none = cleared (flushed_for h job) lawful_flushed (sources_of (moving_for h job)) (without all_rights job.rights) true p m below held in
              cc (set_bit, ap (λ r. has r b) none, has-none b)

  item_brings_none : (k : ItemKind) → IsSet (after_job k h job) q b → IsSet h q b
  item_brings_none kind.Map bit = flush_brings_none (map_brings_none bit)
  item_brings_none kind.Grant bit = flush_brings_none (bit_was_there (flushed_for h job) lawful_flushed (sources_of (moving_for h job)) (without all_rights job.rights) true q b (grant_brings_none bit))

-- ---- requests

items_bring_none : (from to : ℕ) (differ : from ≡ to → ⊥) (window : Flexpage) (q : Place) (b : Access) (items : List Item) (h : Holdings) → IsLawful h
    → IsSet (send_answer from to window items h).left q b → IsSet h q b
items_bring_none from to differ window q b [] h l bit = bit
items_bring_none from to differ window q b (item ∷ items) h l bit =
    let job = job_of from to window item in
    let is_job = job_is from to window item differ in
    item_brings_none h job l is_job q b item.kind (items_bring_none from to differ window q b items (after_job item.kind h job) (lawful_after item.kind h l job is_job) bit)

module _ (limits : Limits) (h : Holdings) (l : IsLawful h) (q : Place) (b : Access) where
  call_brings : (call : Call) → call_refusal limits call ≡ None → IsSet (call_answer h call).left q b → IsSet h q b ⊎ MarksBit h (Ok call) q b
  call_brings (send from to window items) accepted bit = inl (items_bring_none from to (spaces_differ limits from to window items accepted) window q b items h l bit)
  call_brings (access p a) accepted bit = touch_brings h l p a q b bit
  call_brings (unmap space f words) accepted bit = inl (words_bring_none space f q b words h l bit)
  call_brings (clear space) accepted bit = inl (bit_was_there h l (in_space space) all_rights true q b bit)

  unless_brings : (call : Call) (why : Option Refusal) → call_refusal limits call ≡ why → IsSet (unless_refused why h (call_answer h call)).left q b → IsSet h q b ⊎ MarksBit h (Ok call) q b
  unless_brings call None is bit = call_brings call is bit
  unless_brings call (Some r) is bit = inl bit

  answer_brings : (request : Request) → IsSet (answer limits h request).left q b → IsSet h q b ⊎ MarksBit h request q b
  answer_brings (Err r) bit = inl bit
  answer_brings (Ok call) bit = unless_brings call (call_refusal limits call) refl bit

replay_brings : (limits : Limits) (rs : List Request) (h : Holdings) → IsLawful h → (q : Place) (b : Access) → IsSet (replay (answer limits) h rs).last q b → IsSet h q b ⊎ IsMarkedSince limits h rs q b
replay_brings limits [] h l q b bit = inl bit
replay_brings limits (r ∷ rs) h l q b bit = by (replay_brings limits rs (answer limits h r).left (lawful_answer limits h l r) q b bit)
  where
    first : IsSet h q b ⊎ MarksBit h r q b → IsSet h q b ⊎ IsMarkedSince limits h (r ∷ rs) q b
    first (inl before) = inl before
    first (inr marks_it) = inr (inl marks_it)

    by : IsSet (answer limits h r).left q b ⊎ IsMarkedSince limits (answer limits h r).left rs q b → IsSet h q b ⊎ IsMarkedSince limits h (r ∷ rs) q b
    by (inl there) = first (answer_brings limits h l q b r there)
    by (inr since) = inr (inr since)

lawful_last : (limits : Limits) (rs : List Request) (h : Holdings) → IsLawful h → IsLawful (replay (answer limits) h rs).last
lawful_last limits [] h l = l
lawful_last limits (r ∷ rs) h l = lawful_last limits rs (answer limits h r).left (lawful_answer limits h l r)

pub bits_come_from_accesses : BitsComeFromAccesses
bits_come_from_accesses limits h lawful rs q b bit = by (replay_brings limits rs h l q b (word_has (replay (answer limits) h rs).last (lawful_last limits rs h l) (only q) b bit))
  where
    l : IsLawful h
    l = lawful_parts h lawful

    by : IsSet h q b ⊎ IsMarkedSince limits h rs q b → HasBit h (only q) b ⊎ IsMarkedSince limits h rs q b
    by (inl before) = inl (word_from h l (only q) b before)
    by (inr since) = inr since
