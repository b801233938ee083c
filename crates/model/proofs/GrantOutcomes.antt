-- What becomes of each page by a GrantItem.
use Rattle.std.proofs.Common.{◌≡◌, ℕ, ◌+◌, Bool, true, false, ◌&&◌, Option, Some, None, option_map, refl, sym, ap, ◌∙◌, subst, arith, ◌⊎◌, inl, inr, if◌then◌else◌}
use Rattle.std.specs.Option.{is_some, option_and_then, option_map_or}
use Rattle.std.proofs.lemmas.Bool.{false_from_ne_true, or_left, or_parts, and_from, and_left, and_right}
use Rattle.fpage.specs.Rights.{all_rights, no_rights, meet, without, is_empty}
use Rattle.fpage.specs.declared.rights.Rights.{Rights}
use Rattle.space.specs.declared.place.Place.{Place}
use Rattle.model.specs.Definitions.Holdings.{Held, Holdings, PlaceSet, only, at}
use Rattle.model.specs.Definitions.Derived.{is_under, is_below}
use Rattle.model.specs.Definitions.Strip.{is_narrowed, rights_left, stripped}
use Rattle.model.specs.Definitions.Items.{Job, Pair, job_of, goes, fate, fate_of, going, sources_of, targets_of}
use Rattle.model.specs.Definitions.Grant.{moved_to, granted}
use Rattle.model.specs.Laws.DerivationLaws.{after_origins, LeadsInto}
use Rattle.model.specs.Laws.SendLaws.{In, HasFate, IsReplaced, IsWorked, HoldsLike, OriginFollows, HoldsAfterGrant, IsGranted, GrantSays, lost_of, GrantMovesAll}
use Rattle.space.proofs.Places.{same_self}
use Rattle.model.proofs.Lookups.{changed, at_each}
use Rattle.model.proofs.LawfulParts.{IsLawful, lawful_parts}
use Rattle.model.proofs.Chains.{below_trans}
use Rattle.model.proofs.StripAt.{stripping, strip_even, strip_under, strip_below, is_stripped}
use Rattle.model.proofs.Narrowings.{not_narrowed}
use Rattle.model.proofs.Derivations.{below_leads, leads_below, leads_under}
use Rattle.model.proofs.Jobs.{IsJob, job_is, in_sources, source_in, source_no_target}
use Rattle.model.proofs.Fates.{in_going, going_in}
use Rattle.model.proofs.Flushes.{held_targets, flushed_as, strip_absent, lawful_flush}
use Rattle.model.proofs.Maps.{flushed_for}
use Rattle.model.proofs.Renames.{moved_cases}
use Rattle.model.proofs.FrameCounts.{KeepsFrames, left_of_two}
use Rattle.model.proofs.Grants.{without_withheld, moving_for, withheld_for, in_moving, moving_in, moved_source, granted_was, granted_pair, granted_source, granted_other, granted_mappings}
use Rattle.model.proofs.MapOutcomes.{stays_flushed, replaced_gone, absent_flushed, flushed_stays, target_replaced}

-- the source of a pair that goes is held
pub goes_held : (h : Holdings) (job : Job) (e : Pair) → fate h job e ≡ goes → (m : Held) × (at h e.0 ≡ Some m)
goes_held h job e is = by (at h e.0) refl
  where
    by : (m : Option Held) → at h e.0 ≡ m → (m : Held) × (at h e.0 ≡ Some m)
    by None none = absurd (cc (is, ap (fate_of h job e) none))
    by (Some m) held = (m, held)

module _ (h : Holdings) (job : Job) (l : IsLawful h) where
  -- the pairs that move are those that are worked
  pub worked_moves : (e : Pair) → IsWorked h job e → In e (moving_for h job)
  worked_moves e worked =
      let m = goes_held h job e worked.goes.fate in
      moving_in h job e _ worked.goes.is worked.goes.fate (stays_flushed h job l e.0 m.0 m.1 worked.stays)

  pub moves_worked : (e : Pair) → In e (moving_for h job) → IsWorked h job e
  moves_worked e k =
      let r = in_moving h job e k in
      record { goes = record { is = r.0; fate = r.1 }; stays = λ replaced. absurd (cc (r.2, ap is_some (replaced_gone h job l e.0 replaced))) }

  -- the sources of the pairs that move are sources of pairs that go
  pub moving_goes : (p : Place) → sources_of (going h job) p ≡ false → sources_of (moving_for h job) p ≡ false
  moving_goes p none = false_from_ne_true _ (λ is.
      let e = source_in (moving_for h job) p is in
      let r = in_moving h job e.0 e.1 in
      cc (none, subst (λ q. sources_of (going h job) q ≡ true) e.2 (in_sources (going h job) e.0 (going_in h job e.0 r.0 r.1))))

  -- a chain from a page that is not replaced leads into the one where it leads into the other
  pub leads_moving : (p : Place) (least : ℕ) (m : Held) → at h p ≡ Some m → (IsReplaced h job p → ⊥) → LeadsInto h least (sources_of (going h job)) p → LeadsInto h least (sources_of (moving_for h job)) p
  leads_moving p least m held stays chain =
      let e = source_in (going h job) chain.into chain.within in
      let g = in_going h job e.0 e.1 in
      let s = goes_held h job e.0 g.1 in
      let above : is_below h (only chain.into) p ≡ true = leads_below h l (only chain.into) p (record { origins = chain.origins; enough = omega arith; into = chain.into; leads = chain.leads; within = same_self chain.into }) in
      let source_stays : IsReplaced h job e.0.0 → ⊥ = λ replaced. stays (below_leads h l (targets_of (going h job)) p
      (below_trans h l (targets_of (going h job)) chain.into p (subst (λ q. is_below h (targets_of (going h job)) q ≡ true) e.2 (leads_below h l (targets_of (going h job)) e.0.0 replaced)) above)) in
      let moves = worked_moves e.0 (record { goes = record { is = g.0; fate = g.1 }; stays = source_stays }) in
      record { origins = chain.origins; enough = chain.enough; into = chain.into; leads = chain.leads; within = subst (λ q. sources_of (moving_for h job) q ≡ true) e.2 (in_sources (moving_for h job) e.0 moves) }

  pub leads_going : (p : Place) (least : ℕ) → LeadsInto h least (sources_of (moving_for h job)) p → LeadsInto h least (sources_of (going h job)) p
  leads_going p least chain =
      let e = source_in (moving_for h job) chain.into chain.within in
      let r = in_moving h job e.0 e.1 in
      record { origins = chain.origins; enough = chain.enough; into = chain.into; leads = chain.leads; within = subst (λ q. sources_of (going h job) q ≡ true) e.2 (in_sources (going h job) e.0 (going_in h job e.0 r.0 r.1)) }

  pub lawful_flushed : IsLawful (flushed_for h job)
  lawful_flushed = lawful_flush h (going h job) l

  pub absent_withheld : (p : Place) → at (flushed_for h job) p ≡ None → at (withheld_for h job) p ≡ None
  absent_withheld p none = strip_absent (flushed_for h job) lawful_flushed (sources_of (moving_for h job)) (without all_rights job.rights) true p none

  module _ (j : IsJob job) where
    -- where an origin is after the move
    follows : (before : Option Place) → OriginFollows h job before (option_map (moved_to (moving_for h job)) before)
    follows before = record {
      granted = λ e worked is. ap (option_map (moved_to (moving_for h job))) is ∙ ap Some (moved_source h job l j e (worked_moves e worked));
      stays = λ none. stays before none;
    }
      where
        stays : (o : Option Place) → ((e : Pair) → IsWorked h job e → o ≡ Some e.0 → ⊥) → option_map (moved_to (moving_for h job)) o ≡ o
        stays None none = refl
        stays (Some o) none = by (moved_cases (moving_for h job) o)
          where
            by : ((e : Pair) × In e (moving_for h job) × (e.0 ≡ o) × (moved_to (moving_for h job) o ≡ e.1)) ⊎ ((sources_of (moving_for h job) o ≡ false) × (moved_to (moving_for h job) o ≡ o))
                → Some (moved_to (moving_for h job) o) ≡ Some o
            by (inl (e, k, same, to)) = absurd (none e (moves_worked e k) (ap Some (sym same)))
            by (inr (no_source, same)) = ap Some same

    -- what is held neither before the move nor as a target is not held after it
    pub absent_granted : (p : Place) → at (withheld_for h job) p ≡ None → ((e : Pair) → IsWorked h job e → e.1 ≡ p → ⊥) → at (granted h job) p ≡ None
    absent_granted p none no_target = by (at (granted h job) p) refl
      where
        nowhere : (w : Place) (m : Held) → at (withheld_for h job) w ≡ Some m → moved_to (moving_for h job) w ≡ p
            → ((e : Pair) × In e (moving_for h job) × (e.0 ≡ w) × (moved_to (moving_for h job) w ≡ e.1)) ⊎ ((sources_of (moving_for h job) w ≡ false) × (moved_to (moving_for h job) w ≡ w)) → ⊥
        nowhere w m held to (inl (e, k, same, to_e)) = no_target e (moves_worked e k) (sym to_e ∙ to)
        nowhere w m held to (inr (no_source, same)) = cc (held, none, ap (at (withheld_for h job)) (sym same ∙ to))

        by : (k : Option Held) → at (granted h job) p ≡ k → at (granted h job) p ≡ None
        by None is = is
        by (Some k) is = let w = granted_was h job l j p k is in absurd (nowhere w.place w.before w.held w.to (moved_cases (moving_for h job) w.place))

    -- a page that is not replaced is the target of no pair that goes
    pub stays_no_target : (p : Place) → (IsReplaced h job p → ⊥) → (e : Pair) → IsWorked h job e → e.1 ≡ p → ⊥
    stays_no_target p stays e worked same = stays (subst (IsReplaced h job) same (target_replaced h job l e worked.goes.is worked.goes.fate))

    -- a page that is not replaced
    module _ (p : Place) (m : Held) (held : at h p ≡ Some m) (stays : IsReplaced h job p → ⊥) where
      pub at_flushed : at (flushed_for h job) p ≡ Some (flushed_as h (going h job) p m)
      at_flushed = stays_flushed h job l p m held stays

      -- what the strip of the sources leaves of it
      abbrev pub withheld : Held
      withheld = stripped (flushed_for h job) (sources_of (moving_for h job)) (without all_rights job.rights) true p (flushed_as h (going h job) p m)

      pub still_withheld : (is_narrowed (flushed_for h job) (sources_of (moving_for h job)) true p && is_empty withheld.rights) ≡ false → at (withheld_for h job) p ≡ Some withheld
      still_withheld some = is_stripped (flushed_for h job) (sources_of (moving_for h job)) (without all_rights job.rights) true lawful_flushed p (flushed_as h (going h job) p m) at_flushed some

      -- a page that derives from a source
      module _ (chain : LeadsInto h 1 (sources_of (going h job)) p) where
        pub narrowed : is_narrowed (flushed_for h job) (sources_of (moving_for h job)) true p ≡ true
        narrowed =
            or_left _ _ (strip_under h (held_targets h (going h job)) all_rights true l (sources_of (moving_for h job)) p (ap is_some at_flushed)
            ∙ leads_under h l (sources_of (moving_for h job)) p (leads_moving p 1 m held stays chain))

        withheld_rights : withheld.rights ≡ meet m.rights job.rights
        withheld_rights = ap (λ b. rights_left b (without all_rights job.rights) m.rights) narrowed ∙ without_withheld m.rights job.rights

        derived_holds : sources_of (going h job) p ≡ false → is_empty (meet m.rights job.rights) ≡ false → HoldsAfterGrant h job (granted h job) p (meet m.rights job.rights) m
        derived_holds none some = record {
          held = record withheld { origin = option_map (moved_to (moving_for h job)) m.origin };
          is = granted_other h job l j p withheld (moving_goes p none) (still_withheld (and_right _ _ (ap is_empty withheld_rights ∙ some)));
          same_frame = refl;
          same_rights = withheld_rights;
          follows = follows m.origin;
        }

        derived_gone : is_empty (meet m.rights job.rights) ≡ true → at (granted h job) p ≡ None
        derived_gone empty = absent_granted p gone (stays_no_target p stays)
          where
            all_lost : (is_narrowed (flushed_for h job) (sources_of (moving_for h job)) true p && is_empty withheld.rights) ≡ true
            all_lost = and_from _ _ narrowed (ap is_empty withheld_rights ∙ empty)

            gone : at (withheld_for h job) p ≡ None
            gone =
                at_each (stripping (flushed_for h job) (sources_of (moving_for h job)) (without all_rights job.rights) true) (flushed_for h job) p lawful_flushed.sorted
                ∙ ap (changed (stripping (flushed_for h job) (sources_of (moving_for h job)) (without all_rights job.rights) true) p) at_flushed
                ∙ ap (λ b. if b then None else Some withheld) all_lost

      -- a page that is no source, nor derives from one
      module _ (none : LeadsInto h 0 (sources_of (going h job)) p → ⊥) where
        pub not_below : is_below h (sources_of (moving_for h job)) p ≡ false
        not_below = false_from_ne_true _ (λ below. none (leads_going p 0 (below_leads h l (sources_of (moving_for h job)) p below)))

        pub not_lost : is_narrowed (flushed_for h job) (sources_of (moving_for h job)) true p ≡ false
        not_lost =
            not_narrowed (flushed_for h job) (sources_of (moving_for h job)) true p
            (strip_below h (held_targets h (going h job)) all_rights true l (sources_of (moving_for h job)) p (ap is_some at_flushed) ∙ not_below)

        outside_holds : HoldsLike (granted h job) p m.frame m.rights m.origin
        outside_holds = record {
          held = record withheld { origin = option_map (moved_to (moving_for h job)) m.origin };
          is = granted_other h job l j p withheld (or_parts (sources_of (moving_for h job) p) (is_under h (sources_of (moving_for h job)) p) not_below).0 (still_withheld (and_left _ _ not_lost));
          same_frame = refl;
          same_rights = ap (λ b. rights_left b (without all_rights job.rights) m.rights) not_lost;
          same_origin = (follows m.origin).stays (λ e worked is. none (record {
            origins = 1;
            enough = omega arith;
            into = e.0;
            leads = ap (option_and_then (after_origins 0 h)) (ap (option_and_then (λ k. k.origin)) held ∙ is);
            within = in_sources (going h job) e (going_in h job e worked.goes.is worked.goes.fate);
          }));
        }

    -- the source of a pair that goes is not held
    pub source_absent : (e : Pair) → HasFate h job goes e → at (granted h job) e.0 ≡ None
    source_absent e is = by (at (flushed_for h job) e.0) refl
      where
        by : (k : Option Held) → at (flushed_for h job) e.0 ≡ k → at (granted h job) e.0 ≡ None
        by None none = absent_granted e.0 (absent_withheld e.0 none) (λ d worked same. source_no_target job j e d is.is worked.goes.is (sym same))
        by (Some k) held = granted_source h job l j e (worked_moves e (record { goes = is; stays = flushed_stays h job l e.0 k held }))

    granted_as : (e : Pair) (m : Held) → IsWorked h job e → at h e.0 ≡ Some m
        → at (granted h job) e.1 ≡ Some (record { frame = m.frame; rights = meet m.rights job.rights; status = no_rights; origin = option_map (moved_to (moving_for h job)) m.origin })
    granted_as e m worked held = granted_pair h job l j e (flushed_as h (going h job) e.0 m) worked.goes.is worked.goes.fate (stays_flushed h job l e.0 m held worked.stays)

    pub grant_outcomes : IsGranted h job (granted h job)
    grant_outcomes = record {
      granted = λ e m worked held. record {
        held = record { frame = m.frame; rights = meet m.rights job.rights; status = no_rights; origin = option_map (moved_to (moving_for h job)) m.origin };
        is = granted_as e m worked held;
        same_frame = refl;
        same_rights = refl;
        follows = follows m.origin;
      };
      no_status = λ e k worked is.
          let m = goes_held h job e worked.goes.fate in
          ap (λ x. option_map_or (λ y. y.status) x no_rights) (sym is ∙ granted_as e m.0 worked m.1);
      absent = source_absent;
      derived = λ p m held stays none chain some. derived_holds p m held stays chain none some;
      revoked = λ p m held stays none chain empty. derived_gone p m held stays chain empty;
      replaced = λ p replaced no_target. absent_granted p (absent_withheld p (replaced_gone h job l p replaced)) no_target;
      outside = λ p m held stays none. outside_holds p m held stays none;
      none_new = λ p none no_target. absent_granted p (absent_withheld p (absent_flushed h job l p none)) no_target;
    }

pub grant_says : GrantSays
grant_says h lawful from to differ window item = grant_outcomes h (job_of from to window item) (lawful_parts h lawful) (job_is from to window item differ)

-- a strip keeps frames
strip_keeps : (h : Holdings) → IsLawful h → (set : PlaceSet) (a : Rights) (f : Bool) → KeepsFrames h (stripping h set a f)
strip_keeps h l set a f p m k held left = (strip_even h set a f l).frame p m k held left

pub grant_moves_all : GrantMovesAll
grant_moves_all h lawful from to differ window item frame =
    let job = job_of from to window item in
    let l = lawful_parts h lawful in
    let moving = sources_of (moving_for h job) in
    let withheld = without all_rights job.rights in
    ap (λ n. n + lost_of frame h (withheld_for h job)) (granted_mappings h job l (job_is from to window item differ) frame)
    ∙ left_of_two frame (stripping h (held_targets h (going h job)) all_rights true) (stripping (flushed_for h job) moving withheld true) h l.sorted
    (strip_keeps h l (held_targets h (going h job)) all_rights true) (strip_keeps (flushed_for h job) (lawful_flushed h job l) moving withheld true)
