-- No status bit is lost by a call, nor by a replay.
use Rattle.std.proofs.Common.{◌≡◌, ℕ, ◌+◌, ◌*◌, ◌/◌, ◌%◌, ◌<◌, ◌==◌, true, false, Bool, List, [], ◌∷◌, Option, Some, None, Ok, Err, option_map, refl, sym, ap, ◌∙◌, subst, arith, ◌⊎◌, inl, inr, if◌then◌else◌}
use Rattle.std.specs.Option.{is_some, option_and_then}
use Rattle.std.proofs.lemmas.Bool.{and_parts, or_left, or_parts, false_from_ne_true}
use Rattle.fpage.specs.Rights.{all_rights, has, marks, without, number, of_bits}
use Rattle.fpage.specs.Control.{with_status}
use Rattle.fpage.specs.Fpage.{Flexpage}
use Rattle.fpage.specs.declared.rights.Rights.{Rights}
use Rattle.fpage.specs.declared.rights.Access.{Access}
use Rattle.fpage.specs.declared.item.Item.{Item}
use Rattle.fpage.specs.declared.item.ItemKind.{ItemKind}
use Rattle.fpage.specs.declared.item.ItemKind.TheVariants as kind
use Rattle.space.specs.declared.place.Place.{Place}
use Rattle.space.specs.Place.{same_place}
use Rattle.model.specs.Definitions.Holdings.{Held, Holdings, PlaceSet, only, at, is_held, origin_at, each}
use Rattle.model.specs.Definitions.Derived.{is_below}
use Rattle.model.specs.Definitions.Touch.{can_touch, marked, touch}
use Rattle.model.specs.Definitions.Strip.{strip, strip_word}
use Rattle.model.specs.Definitions.Items.{Job, Pair, job_of, going, sources_of}
use Rattle.model.specs.Definitions.Map.{mapped}
use Rattle.model.specs.Definitions.Grant.{moved_to, granted}
use Rattle.model.specs.Definitions.Calls.{Limits, Call, send, access, unmap, clear, Named, Refusal, Request}
use Rattle.model.specs.Definitions.Answers.{after_job, send_answer, pages_in, unmap_answer, in_space, clear_answer, call_answer, call_refusal, unless_refused, answer}
use Rattle.model.specs.Definitions.Replay.{replay}
use Rattle.model.specs.Laws.DerivationLaws.{LeadsInto}
use Rattle.model.specs.Laws.StatusLaws.{HasBit}
use Rattle.model.specs.Laws.SendLaws.{In, IsReplaced}
use Rattle.model.specs.Laws.KeptStatusLaws.{IsTaken, IsTakenByItems, IsToldByWords, IsToldOrTaken, CallKeepsBits, IsToldOrTakenSince, ReplayKeepsBits}
use Rattle.space.proofs.Places.{same_is}
use Rattle.fpage.proofs.RightSets.{has-join, has-none}
use Rattle.model.proofs.LawfulParts.{IsLawful, lawful_parts, lawful_from}
use Rattle.model.proofs.Chains.{along, below_cases, below_from, in_below, held_with_origin}
use Rattle.model.proofs.EvenChanges.{is_left, below_each}
use Rattle.model.proofs.StatusSums.{over_has, over_from}
use Rattle.model.proofs.StripAt.{lawful_strip, strip_below}
use Rattle.model.proofs.Derivations.{below_leads, leads_below, chains_are_held}
use Rattle.model.proofs.Statuses.{word_has, word_from, cleared, bit_is_kept, bit_is_answered}
use Rattle.model.proofs.Touches.{touching, touch_even}
use Rattle.model.proofs.Jobs.{IsJob, job_is, in_sources}
use Rattle.model.proofs.Growths.{IsGrown}
use Rattle.model.proofs.Flushes.{held_targets, lawful_flush, was_flushed}
use Rattle.model.proofs.Maps.{flushed_for}
use Rattle.model.proofs.LawfulMaps.{mapped_grown, lawful_mapped}
use Rattle.model.proofs.Renames.{moved_cases}
use Rattle.model.proofs.Grants.{moving_for, withheld_for, lawful_withheld, lawful_granted, granted_other}
use Rattle.model.proofs.MapOutcomes.{flushed_stays}
use Rattle.model.proofs.GrantOutcomes.{leads_going}
use Rattle.model.proofs.SendStatuses.{mapped_status}
use Rattle.model.proofs.Requests.{lawful_after, spaces_differ, lawful_answer}

-- a bit is set at a page, or at one that derives from it
abbrev pub IsSet : Holdings → Place → Access → Type 0
IsSet h q b = has (strip_word h (only q)) b ≡ true

-- that page is held
set_held : (h : Holdings) → IsLawful h → (q : Place) (b : Access) → IsSet h q b → is_held h q ≡ true
set_held h l q b bit =
    let s = word_from h l (only q) b bit in
    let held = chains_are_held h (lawful_from h l) s.place (ap is_some s.is) s.leads.origins s.leads.into s.leads.leads in
    subst (λ p. is_held h p ≡ true) (sym (same_is q s.leads.into s.leads.within)) held

-- ---- access

module _ (h : Holdings) (l : IsLawful h) (t : Place) (a : Access) (q : Place) (b : Access) where
  touched_bit : (m : Held) (x : Bool) → has m.status b ≡ true → has (if x then marked a m else m).status b ≡ true
  touched_bit m true bit = has-join m.status (marks a) b ∙ or_left _ _ bit
  touched_bit m false bit = bit

  marked_keeps : IsSet h q b → IsSet (each (touching t a) h) q b
  marked_keeps bit =
      let s = over_from (is_below h (only q)) b h l.sorted bit in
      let held = is_left h (touching t a) l s.place s.held _ s.is refl in
      over_has (is_below (each (touching t a) h) (only q)) b (each (touching t a) h) s.place _ held
      (below_each h (touching t a) l (touch_even h l t a) (only q) s.place (ap is_some held) ∙ s.within)
      (touched_bit s.held (same_place t s.place) s.bit)

  touch_keeps : IsSet h q b → IsSet (touch h t a) q b
  touch_keeps bit = by (can_touch h t a)
    where
      by : (x : Bool) → IsSet (if x then each (touching t a) h else h) q b
      by true = marked_keeps bit
      by false = bit

-- ---- unmap

-- the status in a reply word reads back
high_bits : (a c : ℕ) → c < 8 → of_bits (a * 8 + c) ≡ of_bits c
high_bits a c small =
    let read : (a * 8 + c) / 4 % 2 ≡ c / 4 % 2 = omega arith in
    let write : (a * 8 + c) / 2 % 2 ≡ c / 2 % 2 = omega arith in
    let execute : (a * 8 + c) % 2 ≡ c % 2 = omega arith in
    λ i. record { read = read i == 1; write = write i == 1; execute = execute i == 1 }

pub number_small : (s : Rights) → number s < 8
number_small s = small s.read s.write s.execute
  where
    small : (r w x : Bool) → number (record { read = r; write = w; execute = x }) < 8
    small true true true = omega arith
    small true true false = omega arith
    small true false true = omega arith
    small true false false = omega arith
    small false true true = omega arith
    small false true false = omega arith
    small false false true = omega arith
    small false false false = omega arith

pub status_read : (word : ℕ) (s : Rights) → of_bits (with_status word s) ≡ s
status_read word s = high_bits (word / 8) (number s) (number_small s) ∙ by s.read s.write s.execute
  where
    by : (r w x : Bool) → of_bits (number (record { read = r; write = w; execute = x })) ≡ record { read = r; write = w; execute = x }
    by true true true = refl
    by true true false = refl
    by true false true = refl
    by true false false = refl
    by false true true = refl
    by false true false = refl
    by false false true = refl
    by false false false = refl

module _ (space : ℕ) (f : Bool) (q : Place) (b : Access) where
  words_keep : (ws : List Named) (h : Holdings) → IsLawful h → IsSet h q b → IsToldByWords space f ws (unmap_answer space f ws h).words h q b ⊎ IsSet (unmap_answer space f ws h).left q b
  words_keep [] h l bit = inr bit
  words_keep (w ∷ ws) h l bit = by (is_below h named q) refl (λ kept. words_keep ws (strip h named w.1.rights f) (lawful_strip h named w.1.rights f l) kept)
    where
      named : PlaceSet
      named = pages_in space w.1

      After : Type 0
      After = IsToldByWords space f ws (unmap_answer space f ws (strip h named w.1.rights f)).words (strip h named w.1.rights f) q b ⊎ IsSet (unmap_answer space f ws (strip h named w.1.rights f)).left q b

      later : After → IsToldByWords space f (w ∷ ws) (unmap_answer space f (w ∷ ws) h).words h q b ⊎ IsSet (unmap_answer space f (w ∷ ws) h).left q b
      later (inl told) = inl (inr told)
      later (inr kept) = inr kept

      by : (x : Bool) → is_below h named q ≡ x → (IsSet (strip h named w.1.rights f) q b → After) → IsToldByWords space f (w ∷ ws) (unmap_answer space f (w ∷ ws) h).words h q b ⊎ IsSet (unmap_answer space f (w ∷ ws) h).left q b
      by true below rest = inl (inl (below_leads h l named q below, subst (λ r. has r b ≡ true) (sym (status_read w.0 (strip_word h named))) (bit_is_answered h l named q b below bit)))
      by false outside rest = later (rest (bit_is_kept h l named w.1.rights f q b outside bit))

-- ---- clear

clear_keeps : (h : Holdings) → IsLawful h → (space : ℕ) (q : Place) (b : Access) → IsSet h q b
    → (LeadsInto h 0 (in_space space) q × (has (clear_answer space h).status b ≡ true)) ⊎ IsSet (clear_answer space h).left q b
clear_keeps h l space q b bit = by (is_below h (in_space space) q) refl
  where
    by : (x : Bool) → is_below h (in_space space) q ≡ x → (LeadsInto h 0 (in_space space) q × (has (clear_answer space h).status b ≡ true)) ⊎ IsSet (clear_answer space h).left q b
    by true below = inl (below_leads h l (in_space space) q below, bit_is_answered h l (in_space space) q b below bit)
    by false outside = inr (bit_is_kept h l (in_space space) all_rights true q b outside bit)

-- ---- map

-- what is below a set is below it after holdings grow
grown_below : (before after : Holdings) → IsLawful before → IsLawful after → IsGrown before after → (set : PlaceSet) (p : Place) → (m : Held) → at before p ≡ Some m → is_below before set p ≡ true → is_below after set p ≡ true
grown_below before after l l' g set = along before l (λ p. (m : Held) → at before p ≡ Some m → is_below before set p ≡ true → is_below after set p ≡ true) (λ p ih m held below. by p ih m held (below_cases before l set p below))
  where
    by : (p : Place) → ((o : Place) → origin_at before p ≡ Some o → (m : Held) → at before o ≡ Some m → is_below before set o ≡ true → is_below after set o ≡ true) → (m : Held) → at before p ≡ Some m
        → (set p ≡ true) ⊎ ((o : Place) × (origin_at before p ≡ Some o) × (is_below before set o ≡ true)) → is_below after set p ≡ true
    by p ih m held (inl is) = in_below after l' set p is
    by p ih m held (inr (o, from, below)) =
        let here = held_with_origin before p o from in
        let origin = l.origin p o here.0 here.1 here.2 in
        let s = g.still p here.0 here.1 in
        let from_after : origin_at after p ≡ Some o = ap (option_and_then (λ k. k.origin)) s.is ∙ s.origin ∙ here.2 in
        below_from after l' set p o from_after (ih o from origin.held origin.is below)

module _ (h : Holdings) (job : Job) (l : IsLawful h) (j : IsJob job) (q : Place) (b : Access) where
  lawful_flushed : IsLawful (flushed_for h job)
  lawful_flushed = lawful_flush h (going h job) l

  map_keeps : IsSet (flushed_for h job) q b → IsSet (mapped h job) q b
  map_keeps bit =
      let s = over_from (is_below (flushed_for h job) (only q)) b (flushed_for h job) lawful_flushed.sorted bit in
      let g = mapped_grown h job l j in
      let k = g.still s.place s.held s.is in
      let w = was_flushed h (going h job) l s.place s.held s.is in
      let status : k.held.status ≡ s.held.status = mapped_status h job l j s.place w.before k.held w.held (flushed_stays h job l s.place s.held s.is) k.is ∙ sym (ap (λ x. x.status) w.is) in
      over_has (is_below (mapped h job) (only q)) b (mapped h job) s.place k.held k.is
      (grown_below (flushed_for h job) (mapped h job) lawful_flushed (lawful_mapped h job l j) g (only q) s.place s.held s.is s.within)
      (ap (λ x. has x b) status ∙ s.bit)

  -- the flush replaces a page, or keeps the bit at it
  flush_keeps : IsSet h q b → IsReplaced h job q ⊎ IsSet (flushed_for h job) q b
  flush_keeps bit = by (is_below h (held_targets h (going h job)) q) refl
    where
      by : (x : Bool) → is_below h (held_targets h (going h job)) q ≡ x → IsReplaced h job q ⊎ IsSet (flushed_for h job) q b
      by true below =
          let chain = below_leads h l (held_targets h (going h job)) q below in
          inl (record { origins = chain.origins; enough = chain.enough; into = chain.into; leads = chain.leads; within = (and_parts _ _ chain.within).0 })
      by false outside = inr (bit_is_kept h l (held_targets h (going h job)) all_rights true q b outside bit)

  -- ---- grant

  -- a place that is not below the sources is below the same sets after the move
  moved_below : (set : PlaceSet) (p : Place) → (m : Held) → at (withheld_for h job) p ≡ Some m → is_below (withheld_for h job) (sources_of (moving_for h job)) p ≡ false
      → is_below (withheld_for h job) set p ≡ true → is_below (granted h job) set p ≡ true
  moved_below set = along (withheld_for h job) (lawful_withheld h job l)
      (λ p. (m : Held) → at (withheld_for h job) p ≡ Some m → is_below (withheld_for h job) (sources_of (moving_for h job)) p ≡ false → is_below (withheld_for h job) set p ≡ true → is_below (granted h job) set p ≡ true)
      (λ p ih m held out below. by p ih m held out (below_cases (withheld_for h job) (lawful_withheld h job l) set p below))
    where
      by : (p : Place)
          → ((o : Place) → origin_at (withheld_for h job) p ≡ Some o → (m : Held) → at (withheld_for h job) o ≡ Some m → is_below (withheld_for h job) (sources_of (moving_for h job)) o ≡ false
          → is_below (withheld_for h job) set o ≡ true → is_below (granted h job) set o ≡ true)
          → (m : Held) → at (withheld_for h job) p ≡ Some m → is_below (withheld_for h job) (sources_of (moving_for h job)) p ≡ false
          → (set p ≡ true) ⊎ ((o : Place) × (origin_at (withheld_for h job) p ≡ Some o) × (is_below (withheld_for h job) set o ≡ true)) → is_below (granted h job) set p ≡ true
      by p ih m held out (inl is) = in_below (granted h job) (lawful_granted h job l j) set p is
      by p ih m held out (inr (o, from, below)) =
          let lw = lawful_withheld h job l in
          let from_m : m.origin ≡ Some o = sym (ap (option_and_then (λ k. k.origin)) held) ∙ from in
          let origin = lw.origin p o m held from_m in
          let origin_out : is_below (withheld_for h job) (sources_of (moving_for h job)) o ≡ false = false_from_ne_true _ (λ inside. cc (out, below_from (withheld_for h job) lw (sources_of (moving_for h job)) p o from inside)) in
          let stays : moved_to (moving_for h job) o ≡ o = unmoved o (or_parts (sources_of (moving_for h job) o) _ origin_out).0 (moved_cases (moving_for h job) o) in
          let after = granted_other h job l j p m (or_parts (sources_of (moving_for h job) p) _ out).0 held in
          let from_after : origin_at (granted h job) p ≡ Some o = ap (option_and_then (λ k. k.origin)) after ∙ ap (option_map (moved_to (moving_for h job))) from_m ∙ ap Some stays in
          below_from (granted h job) (lawful_granted h job l j) set p o from_after (ih o from origin.held origin.is origin_out below)
        where
          unmoved : (o : Place) → sources_of (moving_for h job) o ≡ false
              → ((e : Pair) × In e (moving_for h job) × (e.0 ≡ o) × (moved_to (moving_for h job) o ≡ e.1)) ⊎ ((sources_of (moving_for h job) o ≡ false) × (moved_to (moving_for h job) o ≡ o))
              → moved_to (moving_for h job) o ≡ o
          unmoved o none (inl (e, in_e, same, to)) = absurd (cc (none, in_sources (moving_for h job) e in_e, ap (sources_of (moving_for h job)) same))
          unmoved o none (inr (_, stays)) = stays

  move_keeps : IsSet (withheld_for h job) q b → IsSet (granted h job) q b
  move_keeps bit =
      let lw = lawful_withheld h job l in
      let s = over_from (is_below (withheld_for h job) (only q)) b (withheld_for h job) lw.sorted bit in
      let out : is_below (withheld_for h job) (sources_of (moving_for h job)) s.place ≡ false = false_from_ne_true _ (λ inside. not_cleared s.place s.held s.is s.bit inside) in
      let after = granted_other h job l j s.place s.held (or_parts (sources_of (moving_for h job) s.place) _ out).0 s.is in
      over_has (is_below (granted h job) (only q)) b (granted h job) s.place _ after (moved_below (only q) s.place s.held s.is out s.within) s.bit
    where
      not_cleared : (p : Place) (m : Held) → at (withheld_for h job) p ≡ Some m → has m.status b ≡ true → is_below (withheld_for h job) (sources_of (moving_for h job)) p ≡ true → ⊥
      not_cleared p m held set_bit inside =
          let below : is_below (flushed_for h job) (sources_of (moving_for h job)) p ≡ true =
          sym (strip_below (flushed_for h job) (sources_of (moving_for h job)) (without all_rights job.rights) true lawful_flushed (sources_of (moving_for h job)) p (ap is_some held)) ∙ inside in
          let none = cleared (flushed_for h job) lawful_flushed (sources_of (moving_for h job)) (without all_rights job.rights) true p m below held in
          cc (set_bit, ap (λ r. has r b) none, has-none b)

  source_takes : IsSet (flushed_for h job) q b → is_below (flushed_for h job) (sources_of (moving_for h job)) q ≡ true → LeadsInto h 0 (sources_of (going h job)) q
  source_takes bit below =
      let held = set_held (flushed_for h job) lawful_flushed q b bit in
      leads_going h job l q 0 (below_leads h l (sources_of (moving_for h job)) q (sym (strip_below h (held_targets h (going h job)) all_rights true l (sources_of (moving_for h job)) q held) ∙ below))

  -- an item takes a page, or keeps the bit at it
  item_keeps : (k : ItemKind) → job.kind ≡ k → IsSet h q b → IsTaken h job q ⊎ IsSet (after_job k h job) q b
  item_keeps kind.Map is bit = by (flush_keeps bit)
    where
      by : IsReplaced h job q ⊎ IsSet (flushed_for h job) q b → IsTaken h job q ⊎ IsSet (mapped h job) q b
      by (inl replaced) = inl (inl replaced)
      by (inr kept) = inr (map_keeps kept)
  item_keeps kind.Grant is bit = by (flush_keeps bit)
    where
      moved : IsSet (flushed_for h job) q b → (x : Bool) → is_below (flushed_for h job) (sources_of (moving_for h job)) q ≡ x → IsTaken h job q ⊎ IsSet (granted h job) q b
      moved kept true below = inl (inr (is, source_takes kept below))
      moved kept false outside = inr (move_keeps (bit_is_kept (flushed_for h job) lawful_flushed (sources_of (moving_for h job)) (without all_rights job.rights) true q b outside kept))

      by : IsReplaced h job q ⊎ IsSet (flushed_for h job) q b → IsTaken h job q ⊎ IsSet (granted h job) q b
      by (inl replaced) = inl (inl replaced)
      by (inr kept) = moved kept (is_below (flushed_for h job) (sources_of (moving_for h job)) q) refl

-- ---- sends

module _ (from to : ℕ) (differ : from ≡ to → ⊥) (window : Flexpage) (q : Place) (b : Access) where
  items_keep : (items : List Item) (h : Holdings) → IsLawful h → IsSet h q b → IsTakenByItems from to window items h q ⊎ IsSet (send_answer from to window items h).left q b
  items_keep [] h l bit = inr bit
  items_keep (item ∷ items) h l bit =
      by (λ kept. items_keep items (after_job item.kind h job) (lawful_after item.kind h l job is_job) kept) (item_keeps h job l is_job q b item.kind refl bit)
    where
      job : Job
      job = job_of from to window item

      is_job : IsJob job
      is_job = job_is from to window item differ

      After : Type 0
      After = IsTakenByItems from to window items (after_job item.kind h job) q ⊎ IsSet (send_answer from to window items (after_job item.kind h job)).left q b

      later : After → IsTakenByItems from to window (item ∷ items) h q ⊎ IsSet (send_answer from to window (item ∷ items) h).left q b
      later (inl taken) = inl (inr taken)
      later (inr kept) = inr kept

      by : (IsSet (after_job item.kind h job) q b → After) → IsTaken h job q ⊎ IsSet (after_job item.kind h job) q b → IsTakenByItems from to window (item ∷ items) h q ⊎ IsSet (send_answer from to window (item ∷ items) h).left q b
      by rest (inl taken) = inl (inl taken)
      by rest (inr kept) = later (rest kept)

-- ---- requests

module _ (limits : Limits) (h : Holdings) (l : IsLawful h) (q : Place) (b : Access) (bit : IsSet h q b) where
  call_keeps : (call : Call) → call_refusal limits call ≡ None → IsToldOrTaken h (Ok call) (call_answer h call).reply q b ⊎ IsSet (call_answer h call).left q b
  call_keeps (send from to window items) accepted = items_keep from to (spaces_differ limits from to window items accepted) window q b items h l bit
  call_keeps (access p a) accepted = inr (touch_keeps h l p a q b bit)
  call_keeps (unmap space f words) accepted = words_keep space f q b words h l bit
  call_keeps (clear space) accepted = clear_keeps h l space q b bit

  unless_keeps : (call : Call) (why : Option Refusal) → call_refusal limits call ≡ why
      → IsToldOrTaken h (Ok call) (unless_refused why h (call_answer h call)).reply q b ⊎ IsSet (unless_refused why h (call_answer h call)).left q b
  unless_keeps call None is = call_keeps call is
  unless_keeps call (Some r) is = inr bit

  answer_keeps : (request : Request) → IsToldOrTaken h request (answer limits h request).reply q b ⊎ IsSet (answer limits h request).left q b
  answer_keeps (Err r) = inr bit
  answer_keeps (Ok call) = unless_keeps call (call_refusal limits call) refl

pub call_keeps_bits : CallKeepsBits
call_keeps_bits limits h lawful request q b bit = by (answer_keeps limits h l q b (word_has h l (only q) b bit) request)
  where
    l : IsLawful h
    l = lawful_parts h lawful

    by : IsToldOrTaken h request (answer limits h request).reply q b ⊎ IsSet (answer limits h request).left q b → IsToldOrTaken h request (answer limits h request).reply q b ⊎ HasBit (answer limits h request).left (only q) b
    by (inl gone) = inl gone
    by (inr kept) = inr (word_from (answer limits h request).left (lawful_answer limits h l request) (only q) b kept)

replay_keeps : (limits : Limits) (rs : List Request) (h : Holdings) → IsLawful h → (q : Place) (b : Access) → IsSet h q b
    → IsToldOrTakenSince limits h rs q b ⊎ HasBit (replay (answer limits) h rs).last (only q) b
replay_keeps limits [] h l q b bit = inr (word_from h l (only q) b bit)
replay_keeps limits (r ∷ rs) h l q b bit = by (λ kept. replay_keeps limits rs (answer limits h r).left (lawful_answer limits h l r) q b kept) (answer_keeps limits h l q b bit r)
  where
    After : Type 0
    After = IsToldOrTakenSince limits (answer limits h r).left rs q b ⊎ HasBit (replay (answer limits) h (r ∷ rs)).last (only q) b

    later : After → IsToldOrTakenSince limits h (r ∷ rs) q b ⊎ HasBit (replay (answer limits) h (r ∷ rs)).last (only q) b
    later (inl since) = inl (inr since)
    later (inr kept) = inr kept

    by : (IsSet (answer limits h r).left q b → After) → IsToldOrTaken h r (answer limits h r).reply q b ⊎ IsSet (answer limits h r).left q b
        → IsToldOrTakenSince limits h (r ∷ rs) q b ⊎ HasBit (replay (answer limits) h (r ∷ rs)).last (only q) b
    by rest (inl gone) = inl (inl gone)
    by rest (inr kept) = later (rest kept)

pub replay_keeps_bits : ReplayKeepsBits
replay_keeps_bits limits h lawful rs p m b held bit q chain =
    let l = lawful_parts h lawful in
    replay_keeps limits rs h l q b (over_has (is_below h (only q)) b h p m held (leads_below h l (only q) p chain) bit)
