-- Map keeps holdings lawful.
use Rattle.std.proofs.Common.{◌≡◌, true, false, Option, Some, None, refl, sym, ap, ◌∙◌, subst, ◌⊎◌, inl, inr}
use Rattle.std.proofs.lemmas.Bool.{and_parts, false_from_ne_true}
use Rattle.fpage.specs.Rights.{meet, is_empty, is_within}
use Rattle.space.specs.declared.place.Place.{Place}
use Rattle.model.specs.Definitions.Holdings.{Held, Holdings, at, origin_at}
use Rattle.model.specs.Definitions.Derived.{is_below}
use Rattle.model.specs.Definitions.Items.{Job, Pair, Fate, absent, norights, to_origin, extends, goes, fate, going}
use Rattle.model.specs.Definitions.Map.{linked, extended, mapped}
use Rattle.fpage.proofs.RightSets.{within_self, within_trans, within_join, join_within, meet_within, larger_not_empty}
use Rattle.model.specs.Laws.SendLaws.{In}
use Rattle.model.proofs.LawfulParts.{IsLawful, IsOrigin}
use Rattle.model.proofs.Chains.{below_cases, held_with_origin}
use Rattle.model.proofs.Jobs.{IsJob, target_in, one_target}
use Rattle.model.proofs.Fates.{in_going, going_in, goes_some, extends_origin}
use Rattle.model.proofs.Flushes.{held_targets, flushed_as, lawful_flush, flushed_kept, target_gone, was_flushed}
use Rattle.model.proofs.Growths.{IsStillHeld, IsGrown, lawful_grown}
use Rattle.model.proofs.Maps.{after_pair, after_extend, IsNoTarget, target_or_none, flushed_for, mapped_target, mapped_elsewhere, mapped_source, mapped_sorted}

module _ (h : Holdings) (job : Job) (l : IsLawful h) (j : IsJob job) where
  lawful_flushed : IsLawful (flushed_for h job)
  lawful_flushed = lawful_flush h (going h job) l

  -- where a pair extends and its source is still held, so is its target, which derives from it
  pub extending_target : (e : Pair) (m : Held) → In e job.pairs → fate h job e ≡ extends → at (flushed_for h job) e.0 ≡ Some m → (t : Held) × (at (flushed_for h job) e.1 ≡ Some t) × (t.origin ≡ Some e.0)
  extending_target e m k is held =
      let w = was_flushed h (going h job) l e.0 m held in
      let from = extends_origin h job e w.before w.held is in
      let t = held_with_origin h e.1 e.0 from in
      let outside : is_below h (held_targets h (going h job)) e.1 ≡ false = false_from_ne_true _ (λ below. by from w.outside (below_cases h l (held_targets h (going h job)) e.1 below)) in
      (flushed_as h (going h job) e.1 t.0, flushed_kept h (going h job) l e.1 t.0 t.1 outside, t.2)
    where
      by : origin_at h e.1 ≡ Some e.0 → is_below h (held_targets h (going h job)) e.0 ≡ false
          → (held_targets h (going h job) e.1 ≡ true) ⊎ ((o : Place) × (origin_at h e.1 ≡ Some o) × (is_below h (held_targets h (going h job)) o ≡ true)) → ⊥
      by from outside (inl named) =
          let d = target_in (going h job) e.1 (and_parts _ _ named).0 in
          let g = in_going h job d.0 d.1 in
          let one = one_target job j d.0 e g.0 k d.2 in
          cc (is, g.1, ap (fate h job) one)
      by from outside (inr (o, from_o, below)) =
          let one : o ≡ e.0 = cc (from, from_o) in
          cc (outside, subst (λ p. is_below h (held_targets h (going h job)) p ≡ true) one below)

  -- what an extending pair holds at its target after map
  pub record IsWidened (p : Place) (k : Held) : Type 0 where
    pub pair : Pair
    pub source : Held
    pub target : Held
    pub is_in : In pair job.pairs
    pub place : pair.1 ≡ p
    pub at_source : at (flushed_for h job) pair.0 ≡ Some source
    pub at_target : at (flushed_for h job) pair.1 ≡ Some target
    pub origin : target.origin ≡ Some pair.0
    pub is : k ≡ extended job source target

  -- what a pair that goes holds at its target after map
  pub record IsLinked (p : Place) (k : Held) : Type 0 where
    pub pair : Pair
    pub source : Held
    pub is_in : In pair job.pairs
    pub place : pair.1 ≡ p
    pub goes_there : fate h job pair ≡ goes
    pub at_source : at (flushed_for h job) pair.0 ≡ Some source
    pub is : k ≡ linked job pair.0 source

  -- how a place came to hold what it holds after map
  pub data Came (p : Place) (k : Held) : Type 0 where
    old : at (flushed_for h job) p ≡ Some k → Came p k
    widened : IsWidened p k → Came p k
    new : IsLinked p k → Came p k

  came_by : (e : Pair) (k : Held) → In e job.pairs → (f : Fate) → fate h job e ≡ f → (source : Option Held) → at (flushed_for h job) e.0 ≡ source → after_pair job e f source (at (flushed_for h job) e.1) ≡ Some k → Came e.1 k
  came_by e k is_in absent fate_is source held is = old is
  came_by e k is_in norights fate_is source held is = old is
  came_by e k is_in to_origin fate_is source held is = old is
  came_by e k is_in extends fate_is None held is = old is
  came_by e k is_in extends fate_is (Some m) held is =
      let t = extending_target e m is_in fate_is held in
      widened (record { pair = e; source = m; target = t.0; is_in = is_in; place = refl; at_source = held; at_target = t.1; origin = t.2; is = cc (is, ap (after_extend job (Some m)) t.1) })
  came_by e k is_in goes fate_is None held is = old is
  came_by e k is_in goes fate_is (Some m) held is = new (record { pair = e; source = m; is_in = is_in; place = refl; goes_there = fate_is; at_source = held; is = cc is })

  pub came : (p : Place) (k : Held) → at (mapped h job) p ≡ Some k → Came p k
  came p k is = by (target_or_none job.pairs p)
    where
      by : ((e : Pair) × In e job.pairs × (e.1 ≡ p)) ⊎ IsNoTarget job.pairs p → Came p k
      by (inr none) = old (sym (mapped_elsewhere h job j p none) ∙ is)
      by (inl (e, is_in, same)) =
          subst (λ q. Came q k) same (came_by e k is_in (fate h job e) refl (at (flushed_for h job) e.0) refl (sym (mapped_target h job j e is_in) ∙ subst (λ q. at (mapped h job) q ≡ Some k) (sym same) is))

  -- a mapping is still held, with at least its rights
  HasStill : Place → Held → Type 0
  HasStill p m = (s : IsStillHeld (mapped h job) p m) × (is_within m.rights s.held.rights ≡ true)

  still_as_it_is : (p : Place) (m : Held) → at (flushed_for h job) p ≡ Some m → at (mapped h job) p ≡ at (flushed_for h job) p → HasStill p m
  unfolding HasStill
  still_as_it_is p m held same = (record { held = m; is = same ∙ held; frame = refl; origin = refl }, within_self m.rights)

  still_target : (e : Pair) (m : Held) → In e job.pairs → (f : Fate) → fate h job e ≡ f → (source : Option Held) → at (flushed_for h job) e.0 ≡ source → at (flushed_for h job) e.1 ≡ Some m
      → at (mapped h job) e.1 ≡ after_pair job e f source (at (flushed_for h job) e.1) → HasStill e.1 m
  unfolding HasStill
  still_target e m is_in absent fate_is source at_source held is = still_as_it_is e.1 m held is
  still_target e m is_in norights fate_is source at_source held is = still_as_it_is e.1 m held is
  still_target e m is_in to_origin fate_is source at_source held is = still_as_it_is e.1 m held is
  still_target e m is_in extends fate_is None at_source held is = still_as_it_is e.1 m held is
  still_target e m is_in extends fate_is (Some s) at_source held is =
      (record { held = extended job s m; is = is ∙ ap (after_extend job (Some s)) held; frame = refl; origin = refl }, within_join m.rights (meet s.rights job.rights))
  still_target e m is_in goes fate_is source at_source held is = absurd (cc (held, target_gone h (going h job) l e (going_in h job e is_in fate_is)))

  has_still : (p : Place) (m : Held) → at (flushed_for h job) p ≡ Some m → HasStill p m
  has_still p m held = by (target_or_none job.pairs p)
    where
      by : ((e : Pair) × In e job.pairs × (e.1 ≡ p)) ⊎ IsNoTarget job.pairs p → HasStill p m
      by (inr none) = still_as_it_is p m held (mapped_elsewhere h job j p none)
      by (inl (e, is_in, same)) =
          subst (λ q. HasStill q m) same (still_target e m is_in (fate h job e) refl (at (flushed_for h job) e.0) refl (subst (λ q. at (flushed_for h job) q ≡ Some m) (sym same) held) (mapped_target h job j e is_in))

  mapped_some : (p : Place) (k : Held) → Came p k → is_empty k.rights ≡ false
  mapped_some p k (old held) = lawful_flushed.some p k held
  mapped_some p k (widened w) =
      let some = lawful_flushed.some w.pair.1 w.target w.at_target in
      subst (λ x. is_empty x.rights ≡ false) (sym w.is) (larger_not_empty w.target.rights _ (within_join w.target.rights (meet w.source.rights job.rights)) some)
  mapped_some p k (new n) =
      let w = was_flushed h (going h job) l n.pair.0 n.source n.at_source in
      let some = goes_some h job n.pair w.before w.held n.goes_there in
      let same : n.source.rights ≡ w.before.rights = ap (λ x. x.rights) w.is in
      subst (λ x. is_empty x.rights ≡ false) (sym n.is) (subst (λ r. is_empty (meet r job.rights) ≡ false) (sym same) some)

  mapped_origin : (p o : Place) (k : Held) → Came p k → k.origin ≡ Some o → IsOrigin (mapped h job) o k
  unfolding HasStill
  mapped_origin p o k (old held) from =
      let origin = lawful_flushed.origin p o k held from in
      let s = has_still o origin.held origin.is in
      record { held = s.0.held; is = s.0.is; frame = origin.frame ∙ sym s.0.frame; within = within_trans k.rights origin.held.rights s.0.held.rights origin.within s.1 }
  mapped_origin p o k (widened w) from =
      let here : w.pair.0 ≡ o = cc (from, ap (λ x. x.origin) w.is, w.origin) in
      let origin = lawful_flushed.origin w.pair.1 w.pair.0 w.target w.at_target w.origin in
      let same : origin.held ≡ w.source = cc (origin.is, w.at_source) in
      let within : is_within w.target.rights w.source.rights ≡ true = subst (λ x. is_within w.target.rights x.rights ≡ true) same origin.within in
      record {
        held = w.source;
        is = subst (λ q. at (mapped h job) q ≡ Some w.source) here (mapped_source h job j w.pair w.is_in ∙ w.at_source);
        frame = ap (λ x. x.frame) w.is ∙ origin.frame ∙ ap (λ x. x.frame) same;
        within = subst (λ x. is_within x.rights w.source.rights ≡ true) (sym w.is) (join_within w.target.rights (meet w.source.rights job.rights) w.source.rights within (meet_within w.source.rights job.rights));
      }
  mapped_origin p o k (new n) from =
      let here : n.pair.0 ≡ o = cc (from, ap (λ x. x.origin) n.is) in
      record {
        held = n.source;
        is = subst (λ q. at (mapped h job) q ≡ Some n.source) here (mapped_source h job j n.pair n.is_in ∙ n.at_source);
        frame = ap (λ x. x.frame) n.is;
        within = subst (λ x. is_within x.rights n.source.rights ≡ true) (sym n.is) (meet_within n.source.rights job.rights);
      }

  mapped_new : (p : Place) (k : Held) → Came p k → at (flushed_for h job) p ≡ None → (o : Place) × (k.origin ≡ Some o) × (m : Held) × (at (flushed_for h job) o ≡ Some m)
  mapped_new p k (old held) gone = absurd (cc (held, gone))
  mapped_new p k (widened w) gone = absurd (cc (gone, w.at_target, ap (at (flushed_for h job)) w.place))
  mapped_new p k (new n) gone = (n.pair.0, ap (λ x. x.origin) n.is, n.source, n.at_source)

  pub mapped_grown : IsGrown (flushed_for h job) (mapped h job)
  unfolding HasStill
  mapped_grown = record {
    sorted = mapped_sorted h job lawful_flushed.sorted;
    some = λ p k is. mapped_some p k (came p k is);
    origin = λ p o k is from. mapped_origin p o k (came p k is) from;
    still = λ p m held. (has_still p m held).0;
    new = λ p k is gone. mapped_new p k (came p k is) gone;
  }

  -- map keeps holdings lawful
  pub lawful_mapped : IsLawful (mapped h job)
  lawful_mapped = lawful_grown (flushed_for h job) (mapped h job) lawful_flushed mapped_grown
