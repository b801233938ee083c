-- What becomes of each page by a MapItem.
use Rattle.std.proofs.Common.{◌≡◌, true, Bool, ◌&&◌, Option, Some, None, refl, sym, ap, ◌∙◌, subst, arith}
use Rattle.std.specs.Option.{is_some}
use Rattle.std.proofs.lemmas.Bool.{false_from_ne_true, or_left}
use Rattle.fpage.specs.Rights.{join, meet, all_rights}
use Rattle.space.specs.declared.place.Place.{Place}
use Rattle.model.specs.Definitions.Holdings.{Held, Holdings, at, is_held}
use Rattle.model.specs.Definitions.Derived.{is_below}
use Rattle.model.specs.Definitions.Items.{Job, Pair, job_of, extends, goes, fate, going, targets_of}
use Rattle.model.specs.Definitions.Map.{extended, mapped}
use Rattle.model.specs.Laws.SendLaws.{In, HasFate, IsReplaced, IsWorked, IsMapped, MapSays}
use Rattle.model.proofs.LawfulParts.{IsLawful, lawful_parts}
use Rattle.model.proofs.Chains.{below_same}
use Rattle.model.proofs.Derivations.{below_leads, leads_below}
use Rattle.model.proofs.Jobs.{IsJob, job_is, in_targets}
use Rattle.model.proofs.Fates.{going_in}
use Rattle.model.proofs.Flushes.{held_targets, flushed_as, strip_absent, flushed_gone, flushed_kept, was_flushed}
use Rattle.model.proofs.Maps.{flushed_for, mapped_link, mapped_extend, mapped_other}
use Rattle.model.proofs.LawfulMaps.{extending_target}

-- ---- what the flush leaves

module _ (h : Holdings) (job : Job) (l : IsLawful h) where
  -- a held page is below the targets where it is below those that are held
  pub below_held : (p : Place) → is_held h p ≡ true → is_below h (held_targets h (going h job)) p ≡ is_below h (targets_of (going h job)) p
  below_held p held = below_same h l (held_targets h (going h job)) (targets_of (going h job)) (λ q is. ap (λ b. targets_of (going h job) q && b) is ∙ and_true (targets_of (going h job) q)) p held
    where
      and_true : (b : Bool) → (b && true) ≡ b
      and_true b = grind arith

  some_held : (p : Place) (m : Held) → at h p ≡ Some m → is_held h p ≡ true
  some_held p m held = ap is_some held

  -- a held page is flushed where it is replaced
  pub replaced_below : (p : Place) (m : Held) → at h p ≡ Some m → IsReplaced h job p → is_below h (held_targets h (going h job)) p ≡ true
  replaced_below p m held replaced = below_held p (some_held p m held) ∙ leads_below h l (targets_of (going h job)) p replaced

  pub below_replaced : (p : Place) (m : Held) → at h p ≡ Some m → is_below h (held_targets h (going h job)) p ≡ true → IsReplaced h job p
  below_replaced p m held below = below_leads h l (targets_of (going h job)) p (sym (below_held p (some_held p m held)) ∙ below)

  -- what is not replaced stays, but for status
  pub stays_flushed : (p : Place) (m : Held) → at h p ≡ Some m → (IsReplaced h job p → ⊥) → at (flushed_for h job) p ≡ Some (flushed_as h (going h job) p m)
  stays_flushed p m held stays =
      flushed_kept h (going h job) l p m held (false_from_ne_true _ (λ below. stays (below_replaced p m held below)))

  -- what was not held is not held
  pub absent_flushed : (p : Place) → at h p ≡ None → at (flushed_for h job) p ≡ None
  absent_flushed p is = strip_absent h l (held_targets h (going h job)) all_rights true p is

  -- what is replaced is gone
  pub replaced_gone : (p : Place) → IsReplaced h job p → at (flushed_for h job) p ≡ None
  replaced_gone p replaced = by (at h p) refl
    where
      by : (m : Option Held) → at h p ≡ m → at (flushed_for h job) p ≡ None
      by None is = absent_flushed p is
      by (Some m) is = flushed_gone h (going h job) l p (replaced_below p m is replaced)

  -- what is held after the flush was not replaced
  pub flushed_stays : (p : Place) (k : Held) → at (flushed_for h job) p ≡ Some k → IsReplaced h job p → ⊥
  flushed_stays p k is replaced = absurd (cc (is, replaced_gone p replaced))

  -- a target of a pair that goes is replaced
  pub target_replaced : (e : Pair) → In e job.pairs → fate h job e ≡ goes → IsReplaced h job e.1
  target_replaced e k is = below_leads h l (targets_of (going h job)) e.1 (or_left _ _ (in_targets (going h job) e (going_in h job e k is)))

  -- the source of a pair that goes is flushed, or the pair is worked
  pub worked_from : (e : Pair) (k : Held) → HasFate h job goes e → at (flushed_for h job) e.0 ≡ Some k → IsWorked h job e
  worked_from e k is held = record { goes = is; stays = flushed_stays e.0 k held }

  -- what is held after the flush was held
  pub held_before : (p : Place) (k : Held) → at (flushed_for h job) p ≡ Some k → (m : Held) × (at h p ≡ Some m)
  held_before p k is = let w = was_flushed h (going h job) l p k is in (w.before, w.held)

-- ---- what map leaves

module _ (h : Holdings) (job : Job) (l : IsLawful h) (j : IsJob job) where
  unmoved : (e : Pair) → In e job.pairs → (fate h job e ≡ goes → IsWorked h job e → ⊥) → at (flushed_for h job) e.1 ≡ None
      → (fate h job e ≡ goes → at (flushed_for h job) e.0 ≡ None) × (fate h job e ≡ extends → at (flushed_for h job) e.0 ≡ None)
  unmoved e k not_worked target_none = (λ is. none_goes (at (flushed_for h job) e.0) refl is, λ is. none_extends (at (flushed_for h job) e.0) refl is)
    where
      none_goes : (m : Option Held) → at (flushed_for h job) e.0 ≡ m → fate h job e ≡ goes → at (flushed_for h job) e.0 ≡ None
      none_goes None held is = held
      none_goes (Some m) held is = absurd (not_worked is (worked_from h job l e m (record { is = k; fate = is }) held))

      none_extends : (m : Option Held) → at (flushed_for h job) e.0 ≡ m → fate h job e ≡ extends → at (flushed_for h job) e.0 ≡ None
      none_extends None held is = held
      none_extends (Some m) held is = let t = extending_target h job l j e m k is held in absurd (cc (t.1, target_none))

  gone_or_free : (p : Place) → at (flushed_for h job) p ≡ None → ((e : Pair) → IsWorked h job e → e.1 ≡ p → ⊥) → at (mapped h job) p ≡ None
  gone_or_free p none not_worked =
      mapped_other h job j p (λ e k same. unmoved e k (λ is worked. not_worked e worked same) (subst (λ q. at (flushed_for h job) q ≡ None) (sym same) none)) ∙ none

  pub map_outcomes : IsMapped h job (mapped h job)
  map_outcomes = record {
    linked = λ e source worked held. mapped_link h job j e _ worked.goes.is worked.goes.fate (stays_flushed h job l e.0 source held worked.stays);
    extended = λ e source target is stays held held_target.
        let source_left = stays_flushed h job l e.0 source held stays in
        let t = extending_target h job l j e _ is.is is.fate source_left in
        let w = was_flushed h (going h job) l e.1 t.0 t.1 in
        let same : w.before ≡ target = cc (w.held, held_target) in
        record {
          held = extended job (flushed_as h (going h job) e.0 source) t.0;
          is = mapped_extend h job j e _ t.0 is.is is.fate source_left t.1;
          same_frame = ap (λ x. x.frame) w.is ∙ ap (λ x. x.frame) same;
          same_rights = ap (λ x. join x.rights (meet source.rights job.rights)) w.is ∙ ap (λ x. join x.rights (meet source.rights job.rights)) same;
          same_origin = ap (λ x. x.origin) w.is ∙ ap (λ x. x.origin) same;
        };
    replaced = λ p replaced not_worked. gone_or_free p (replaced_gone h job l p replaced) not_worked;
    outside = λ p m held stays not_extended.
        let left = stays_flushed h job l p m held stays in
        record {
          held = flushed_as h (going h job) p m;
          is = mapped_other h job j p (λ e k same. (
            λ is. absurd (stays (subst (IsReplaced h job) same (target_replaced h job l e k is))),
            λ is. absurd (not_extended e (record { is = k; fate = is }) same),
          )) ∙ left;
          same_frame = refl;
          same_rights = refl;
          same_origin = refl;
        };
    none_new = λ p none not_worked. gone_or_free p (absent_flushed h job l p none) not_worked;
  }

pub map_says : MapSays
map_says h lawful from to differ window item = map_outcomes h (job_of from to window item) (lawful_parts h lawful) (job_is from to window item differ)
