-- The status of pages after an item of a send.
use Rattle.std.proofs.Common.{◌≡◌, true, false, Bool, ◌||◌, Option, Some, None, refl, sym, ap, ◌∙◌, subst, arith, ◌⊎◌, inl, inr}
use Rattle.std.specs.Option.{is_some, option_map_or}
use Rattle.std.proofs.lemmas.Bool.{or_cases, or_left, or_right, or_parts, false_from_ne_true}
use Rattle.fpage.specs.Rights.{no_rights, all_rights, without, has}
use Rattle.fpage.specs.declared.rights.Access.{Access}
use Rattle.space.specs.declared.place.Place.{Place}
use Rattle.model.specs.Definitions.Holdings.{Held, Holdings, only, at}
use Rattle.model.specs.Definitions.Derived.{is_below}
use Rattle.model.specs.Definitions.Strip.{passed_to}
use Rattle.model.specs.Definitions.Items.{Job, Pair, Fate, absent, norights, to_origin, extends, goes, job_of, fate, going, sources_of, targets_of}
use Rattle.model.specs.Definitions.Map.{mapped}
use Rattle.model.specs.Definitions.Grant.{granted}
use Rattle.model.specs.Laws.DerivationLaws.{LeadsInto}
use Rattle.model.specs.Laws.StatusLaws.{PassesBit}
use Rattle.model.specs.Laws.SendLaws.{In, IsReplaced, IsStatusAfterMap, MapPassesStatus, IsStatusAfterGrant, GrantPassesStatus}
use Rattle.fpage.proofs.RightSets.{has-join}
use Rattle.model.proofs.LawfulParts.{IsLawful, lawful_parts}
use Rattle.model.proofs.StripAt.{strip_below}
use Rattle.model.proofs.Derivations.{below_leads, leads_below}
use Rattle.model.proofs.Statuses.{word_has, word_from, passes_from, passes_has, cleared, outside_gains_from, bit_is_kept, bit_was_there}
use Rattle.model.proofs.Jobs.{IsJob, job_is, source_in}
use Rattle.model.proofs.Flushes.{held_targets, flushed_as, was_flushed}
use Rattle.model.proofs.Maps.{flushed_for, after_pair, target_or_none, IsNoTarget, mapped_target, mapped_elsewhere}
use Rattle.model.proofs.Grants.{moving_for, withheld_for, granted_other}
use Rattle.model.proofs.MapOutcomes.{below_replaced, replaced_below, stays_flushed, target_replaced, map_outcomes}
use Rattle.model.proofs.GrantOutcomes.{leads_moving, leads_going, lawful_flushed, absent_granted, stays_no_target, source_absent, grant_outcomes, not_below, goes_held, moves_worked}

-- ---- what the flush leaves

module _ (h : Holdings) (job : Job) (l : IsLawful h) where
  -- the held targets pass what the targets pass
  held_pass : (p : Place) (b : Access) → PassesBit h (held_targets h (going h job)) p b → PassesBit h (targets_of (going h job)) p b
  held_pass p b s = record {
    child = s.child;
    held = s.held;
    is = s.is;
    origin = s.origin;
    leads = below_replaced h job l s.child s.held s.is (leads_below h l (held_targets h (going h job)) s.child s.leads);
    bit = s.bit;
  }

  targets_pass : (p : Place) (b : Access) → PassesBit h (targets_of (going h job)) p b → PassesBit h (held_targets h (going h job)) p b
  targets_pass p b s = record {
    child = s.child;
    held = s.held;
    is = s.is;
    origin = s.origin;
    leads = below_leads h l (held_targets h (going h job)) s.child (replaced_below h job l s.child s.held s.is s.leads);
    bit = s.bit;
  }

  module _ (p : Place) (m : Held) (b : Access) where
    after_flush : has (flushed_as h (going h job) p m).status b ≡ (has m.status b || has (passed_to h (held_targets h (going h job)) p) b)
    after_flush = has-join m.status (passed_to h (held_targets h (going h job)) p) b

    flush_from : has (flushed_as h (going h job) p m).status b ≡ true → (has m.status b ≡ true) ⊎ PassesBit h (targets_of (going h job)) p b
    flush_from bit = by (or_cases _ _ (sym after_flush ∙ bit))
      where
        by : (has m.status b ≡ true) ⊎ (has (passed_to h (held_targets h (going h job)) p) b ≡ true) → (has m.status b ≡ true) ⊎ PassesBit h (targets_of (going h job)) p b
        by (inl own) = inl own
        by (inr passed) = inr (held_pass p b (passes_from h l (held_targets h (going h job)) p b passed))

    own_after : has m.status b ≡ true → has (flushed_as h (going h job) p m).status b ≡ true
    own_after own = after_flush ∙ or_left _ _ own

    passed_after : PassesBit h (targets_of (going h job)) p b → has (flushed_as h (going h job) p m).status b ≡ true
    passed_after s = after_flush ∙ or_right _ _ (passes_has h l (held_targets h (going h job)) p b (targets_pass p b s))

-- ---- map

same_status : (job : Job) (e : Pair) (f : Fate) (source : Option Held) (t k : Held) → (f ≡ goes → ⊥) → after_pair job e f source (Some t) ≡ Some k → k.status ≡ t.status
same_status job e absent source t k none is = ap (λ x. option_map_or (λ y. y.status) x no_rights) (sym is)
same_status job e norights source t k none is = ap (λ x. option_map_or (λ y. y.status) x no_rights) (sym is)
same_status job e to_origin source t k none is = ap (λ x. option_map_or (λ y. y.status) x no_rights) (sym is)
same_status job e extends None t k none is = ap (λ x. option_map_or (λ y. y.status) x no_rights) (sym is)
same_status job e extends (Some source) t k none is = ap (λ x. option_map_or (λ y. y.status) x no_rights) (sym is)
same_status job e goes source t k none is = absurd (none refl)

module _ (h : Holdings) (job : Job) (l : IsLawful h) (j : IsJob job) where
  pub mapped_status : (p : Place) (m k : Held) → at h p ≡ Some m → (IsReplaced h job p → ⊥) → at (mapped h job) p ≡ Some k → k.status ≡ (flushed_as h (going h job) p m).status
  mapped_status p m k held stays is = by (target_or_none job.pairs p)
    where
      left : at (flushed_for h job) p ≡ Some (flushed_as h (going h job) p m)
      left = stays_flushed h job l p m held stays

      by : ((e : Pair) × In e job.pairs × (e.1 ≡ p)) ⊎ IsNoTarget job.pairs p → k.status ≡ (flushed_as h (going h job) p m).status
      by (inr none) = ap (λ x. option_map_or (λ y. y.status) x no_rights) (sym is ∙ mapped_elsewhere h job j p none ∙ left)
      by (inl (e, in_job, same)) =
          same_status job e (fate h job e) (at (flushed_for h job) e.0) (flushed_as h (going h job) p m) k
          (λ goes_it. stays (subst (IsReplaced h job) same (target_replaced h job l e in_job goes_it)))
          (ap (after_pair job e (fate h job e) (at (flushed_for h job) e.0)) (sym (ap (at (flushed_for h job)) same ∙ left)) ∙ sym (mapped_target h job j e in_job) ∙ ap (at (mapped h job)) same ∙ is)

  status_after_map : IsStatusAfterMap h job (mapped h job)
  status_after_map = record {
    linked = λ e k worked is.
        let m = goes_held h job e worked.goes.fate in
        ap (λ x. option_map_or (λ y. y.status) x no_rights) (sym is ∙ (map_outcomes h job l j).linked e m.0 worked m.1);
    others = λ p m k held stays is b.
        let same = ap (λ x. has x b) (mapped_status p m k held stays is) in
        (λ bit. flush_from h job l p m b (sym same ∙ bit), λ c. same ∙ by p m b c);
  }
    where
      by : (p : Place) (m : Held) (b : Access) → (has m.status b ≡ true) ⊎ PassesBit h (targets_of (going h job)) p b → has (flushed_as h (going h job) p m).status b ≡ true
      by p m b (inl own) = own_after h job l p m b own
      by p m b (inr passed) = passed_after h job l p m b passed

pub map_passes_status : MapPassesStatus
map_passes_status h lawful from to differ window item = status_after_map h (job_of from to window item) (lawful_parts h lawful) (job_is from to window item differ)

-- ---- grant

module _ (h : Holdings) (job : Job) (l : IsLawful h) (j : IsJob job) where
  -- what is held after a grant at a page that is no source was held before the move, with this status
  was_withheld : (p : Place) (k : Held) → (IsReplaced h job p → ⊥) → at (granted h job) p ≡ Some k → sources_of (moving_for h job) p ≡ false
      → (x : Held) × (at (withheld_for h job) p ≡ Some x) × (k.status ≡ x.status)
  was_withheld p k stays is no_source = by (at (withheld_for h job) p) refl
    where
      by : (x : Option Held) → at (withheld_for h job) p ≡ x → (x : Held) × (at (withheld_for h job) p ≡ Some x) × (k.status ≡ x.status)
      by None none = absurd (cc (is, absent_granted h job l j p none (stays_no_target h job l j p stays)))
      by (Some x) held = (x, held, ap (λ z. option_map_or (λ y. y.status) z no_rights) (sym is ∙ granted_other h job l j p x no_source held))

  -- what a page holds after the flush and after the strip of the sources
  module _ (p : Place) (m : Held) (held : at h p ≡ Some m) (stays : IsReplaced h job p → ⊥) where
    left : at (flushed_for h job) p ≡ Some (flushed_as h (going h job) p m)
    left = stays_flushed h job l p m held stays

    -- it is below the sources after the flush where it was before
    below_after : is_below (flushed_for h job) (sources_of (moving_for h job)) p ≡ is_below h (sources_of (moving_for h job)) p
    below_after = strip_below h (held_targets h (going h job)) all_rights true l (sources_of (moving_for h job)) p (ap is_some left)

    derived_status : (k : Held) → LeadsInto h 1 (sources_of (going h job)) p → at (granted h job) p ≡ Some k → k.status ≡ no_rights
    derived_status k chain is =
        let w = was_withheld p k stays is no_source in
        w.2 ∙ cleared (flushed_for h job) (lawful_flushed h job l) (sources_of (moving_for h job)) (without all_rights job.rights) true p w.0 (below_after ∙ leads_below h l (sources_of (moving_for h job)) p below) w.1
      where
        no_source : sources_of (moving_for h job) p ≡ false
        no_source = false_from_ne_true _ (λ is_source.
            let e = source_in (moving_for h job) p is_source in
            cc (is, source_absent h job l j e.0 (moves_worked h job l e.0 e.1).goes, ap (at (granted h job)) e.2))

        below : LeadsInto h 0 (sources_of (moving_for h job)) p
        below =
            let c = leads_moving h job l p 1 m held stays chain in
            record { origins = c.origins; enough = omega arith; into = c.into; leads = c.leads; within = c.within }

  -- a granted page that derives from a place passes the bits below it, before the flush and after it
  module _ (p : Place) (b : Access) where
    sources_from : PassesBit (flushed_for h job) (sources_of (moving_for h job)) p b → PassesBit h (sources_of (going h job)) p b
    sources_from s =
        let w = was_flushed h (going h job) l s.child s.held s.is in
        let below = leads_below (flushed_for h job) (lawful_flushed h job l) (sources_of (moving_for h job)) s.child s.leads in
        let before = sym (strip_below h (held_targets h (going h job)) all_rights true l (sources_of (moving_for h job)) s.child (ap is_some s.is)) ∙ below in
        record {
          child = s.child;
          held = w.before;
          is = w.held;
          origin = sym (ap (λ x. x.origin) w.is) ∙ s.origin;
          leads = leads_going h job l s.child 0 (below_leads h l (sources_of (moving_for h job)) s.child before);
          bit = word_from h l (only s.child) b (bit_was_there h l (held_targets h (going h job)) all_rights true s.child b (word_has (flushed_for h job) (lawful_flushed h job l) (only s.child) b s.bit));
        }

    sources_to : PassesBit h (sources_of (going h job)) p b → PassesBit h (targets_of (going h job)) p b ⊎ (has (passed_to (flushed_for h job) (sources_of (moving_for h job)) p) b ≡ true)
    sources_to s = by (is_below h (held_targets h (going h job)) s.child) refl
      where
        by : (x : Bool) → is_below h (held_targets h (going h job)) s.child ≡ x
            → PassesBit h (targets_of (going h job)) p b ⊎ (has (passed_to (flushed_for h job) (sources_of (moving_for h job)) p) b ≡ true)
        by true inside = inl (record { child = s.child; held = s.held; is = s.is; origin = s.origin; leads = below_replaced h job l s.child s.held s.is inside; bit = s.bit })
        by false outside = inr (passes_has (flushed_for h job) (lawful_flushed h job l) (sources_of (moving_for h job)) p b (record {
          child = s.child;
          held = flushed_as h (going h job) s.child s.held;
          is = left s.child s.held s.is child_stays;
          origin = s.origin;
          leads = below_leads (flushed_for h job) (lawful_flushed h job l) (sources_of (moving_for h job)) s.child
              (below_after s.child s.held s.is child_stays ∙ leads_below h l (sources_of (moving_for h job)) s.child (leads_moving h job l s.child 0 s.held s.is child_stays s.leads));
          bit = word_from (flushed_for h job) (lawful_flushed h job l) (only s.child) b
              (bit_is_kept h l (held_targets h (going h job)) all_rights true s.child b outside (word_has h l (only s.child) b s.bit));
        }))
          where
            child_stays : IsReplaced h job s.child → ⊥
            child_stays replaced = cc (outside, replaced_below h job l s.child s.held s.is replaced)

  -- a page that is no source, nor derives from one
  module _ (p : Place) (m k : Held) (held : at h p ≡ Some m) (stays : IsReplaced h job p → ⊥) (none : LeadsInto h 0 (sources_of (going h job)) p → ⊥) (is : at (granted h job) p ≡ Some k) (b : Access) where
    other_status : has k.status b ≡ (has (flushed_as h (going h job) p m).status b || has (passed_to (flushed_for h job) (sources_of (moving_for h job)) p) b)
    other_status =
        let out = not_below h job l j p m held stays none in
        let w = was_withheld p k stays is (or_parts (sources_of (moving_for h job) p) _ out).0 in
        ap (λ x. has x b) w.2
        ∙ outside_gains_from (flushed_for h job) (lawful_flushed h job l) (sources_of (moving_for h job)) (without all_rights job.rights) true p (flushed_as h (going h job) p m) w.0
        (below_after p m held stays ∙ out) (left p m held stays) w.1 b

    other_from : has k.status b ≡ true → (has m.status b ≡ true) ⊎ PassesBit h (targets_of (going h job)) p b ⊎ PassesBit h (sources_of (going h job)) p b
    other_from bit = by (or_cases _ _ (sym other_status ∙ bit))
      where
        flushed : (has m.status b ≡ true) ⊎ PassesBit h (targets_of (going h job)) p b → (has m.status b ≡ true) ⊎ PassesBit h (targets_of (going h job)) p b ⊎ PassesBit h (sources_of (going h job)) p b
        flushed (inl own) = inl own
        flushed (inr passed) = inr (inl passed)

        by : (has (flushed_as h (going h job) p m).status b ≡ true) ⊎ (has (passed_to (flushed_for h job) (sources_of (moving_for h job)) p) b ≡ true)
            → (has m.status b ≡ true) ⊎ PassesBit h (targets_of (going h job)) p b ⊎ PassesBit h (sources_of (going h job)) p b
        by (inl before) = flushed (flush_from h job l p m b before)
        by (inr passed) = inr (inr (sources_from p b (passes_from (flushed_for h job) (lawful_flushed h job l) (sources_of (moving_for h job)) p b passed)))

    other_to : (has m.status b ≡ true) ⊎ PassesBit h (targets_of (going h job)) p b ⊎ PassesBit h (sources_of (going h job)) p b → has k.status b ≡ true
    other_to (inl own) = other_status ∙ or_left _ _ (own_after h job l p m b own)
    other_to (inr (inl passed)) = other_status ∙ or_left _ _ (passed_after h job l p m b passed)
    other_to (inr (inr s)) = other_status ∙ by (sources_to p b s)
      where
        by : PassesBit h (targets_of (going h job)) p b ⊎ (has (passed_to (flushed_for h job) (sources_of (moving_for h job)) p) b ≡ true)
            → (has (flushed_as h (going h job) p m).status b || has (passed_to (flushed_for h job) (sources_of (moving_for h job)) p) b) ≡ true
        by (inl passed) = or_left _ _ (passed_after h job l p m b passed)
        by (inr passed) = or_right _ _ passed

  status_after_grant : IsStatusAfterGrant h job (granted h job)
  status_after_grant = record {
    granted = λ e k worked is. (grant_outcomes h job l j).no_status e k worked is;
    derived = λ p m k held stays chain is. derived_status p m held stays k chain is;
    others = λ p m k held stays none is b. (other_from p m k held stays none is b, other_to p m k held stays none is b);
  }

pub grant_passes_status : GrantPassesStatus
grant_passes_status h lawful from to differ window item = status_after_grant h (job_of from to window item) (lawful_parts h lawful) (job_is from to window item differ)
