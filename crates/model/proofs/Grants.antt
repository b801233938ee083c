-- What grant does at each place; it keeps holdings lawful.
use Rattle.std.proofs.Common.{◌≡◌, ℕ, true, false, Bool, ◌&&◌, not, List, Option, Some, None, option_map, refl, sym, ap, ◌∙◌, subst, arith, ◌⊎◌, inl, inr}
use Rattle.std.specs.Option.{is_some}
use Rattle.std.proofs.lemmas.Bool.{or_right}
use Rattle.fpage.specs.Rights.{all_rights, no_rights, meet, without, is_empty}
use Rattle.fpage.specs.declared.rights.Rights.{Rights}
use Rattle.space.specs.declared.place.Place.{Place}
use Rattle.model.specs.Definitions.Holdings.{Held, Holdings, at, is_held}
use Rattle.model.specs.Definitions.Derived.{is_under}
use Rattle.model.specs.Definitions.Strip.{is_narrowed, stripped, strip}
use Rattle.model.specs.Definitions.Items.{Job, Pair, goes, fate, going, sources_of}
use Rattle.model.specs.Definitions.Grant.{moved_to, moving, granted}
use Rattle.model.specs.Laws.SendLaws.{In, mappings_of}
use Rattle.model.proofs.LawfulParts.{IsLawful}
use Rattle.model.proofs.StripAt.{lawful_strip, is_stripped}
use Rattle.model.proofs.Jobs.{IsJob, in_filter, in_filter_from, in_sources, one_source, one_target, source_no_target}
use Rattle.model.proofs.Fates.{in_going, going_in, goes_some}
use Rattle.model.proofs.Flushes.{strip_absent, lawful_flush, target_gone, was_flushed}
use Rattle.model.proofs.Maps.{flushed_for}
use Rattle.model.proofs.Renames.{moved_cases, MovesApart, WasMoved, renamed_was, renamed_at, lawful_renamed, renamed_mappings}

both_not : (a b : Bool) → (a && not (true && not b)) ≡ (a && b)
both_not a b = grind arith

-- what is left of rights that lose all that a set withholds is what is in the set
pub without_withheld : (r s : Rights) → without r (without all_rights s) ≡ meet r s
without_withheld r s = λ i. record { read = both_not r.read s.read i; write = both_not r.write s.write i; execute = both_not r.execute s.execute i }

module _ (h : Holdings) (job : Job) where
  -- the pairs that go and whose source was not flushed
  abbrev pub moving_for : List Pair
  moving_for = moving (flushed_for h job) (going h job)

  -- the holdings before the move: after the flush, the sources lost what the fpage withholds
  abbrev pub withheld_for : Holdings
  withheld_for = strip (flushed_for h job) (sources_of moving_for) (without all_rights job.rights) true

  -- a pair that moves is a pair of the job, goes, and has a source that is still held
  pub in_moving : (e : Pair) → In e moving_for → In e job.pairs × (fate h job e ≡ goes) × (is_held (flushed_for h job) e.0 ≡ true)
  in_moving e k =
      let r = in_filter (λ e. is_held (flushed_for h job) e.0) (going h job) e k in
      let g = in_going h job e r.0 in
      (g.0, g.1, r.1)

  -- a pair of the job that goes and whose source is still held after the flush moves
  pub moving_in : (e : Pair) (m : Held) → In e job.pairs → fate h job e ≡ goes → at (flushed_for h job) e.0 ≡ Some m → In e moving_for
  moving_in e m k is held = in_filter_from (λ e. is_held (flushed_for h job) e.0) (going h job) e (going_in h job e k is) (ap is_some held)

  -- what a source holds before the move
  pub record IsSourceLeft (p : Place) (m : Held) : Type 0 where
    pub held : Held
    pub is : at withheld_for p ≡ Some held
    pub frame : held.frame ≡ m.frame
    pub rights : held.rights ≡ meet m.rights job.rights
    pub origin : held.origin ≡ m.origin

  module _ (l : IsLawful h) where
    -- the holdings before the move are lawful
    pub lawful_withheld : IsLawful withheld_for
    lawful_withheld = lawful_strip (flushed_for h job) (sources_of moving_for) (without all_rights job.rights) true (lawful_flush h (going h job) l)

    -- no target is held before the move
    pub target_free : (e : Pair) → In e moving_for → at withheld_for e.1 ≡ None
    target_free e k =
        strip_absent (flushed_for h job) (lawful_flush h (going h job) l) (sources_of moving_for) (without all_rights job.rights) true e.1
        (target_gone h (going h job) l e (in_filter (λ e. is_held (flushed_for h job) e.0) (going h job) e k).0)

    -- each source that moves is still held, with the rights that the fpage lets through
    pub source_left : (e : Pair) (m : Held) → In e moving_for → at (flushed_for h job) e.0 ≡ Some m → IsSourceLeft e.0 m
    source_left e m k held = record {
      held = stripped (flushed_for h job) (sources_of moving_for) (without all_rights job.rights) true e.0 m;
      is = is_stripped (flushed_for h job) (sources_of moving_for) (without all_rights job.rights) true (lawful_flush h (going h job) l) e.0 m held (rw narrowed (ap is_empty (without_withheld m.rights job.rights) ∙ some));
      frame = refl;
      rights = rw narrowed (without_withheld m.rights job.rights);
      origin = refl;
    }
      where
        narrowed : is_narrowed (flushed_for h job) (sources_of moving_for) true e.0 ≡ true
        narrowed = or_right (is_under (flushed_for h job) (sources_of moving_for) e.0) _ (in_sources moving_for e k)

        some : is_empty (meet m.rights job.rights) ≡ false
        some =
            let w = was_flushed h (going h job) l e.0 m held in
            let same : m.rights ≡ w.before.rights = ap (λ x. x.rights) w.is in
            subst (λ r. is_empty (meet r job.rights) ≡ false) (sym same) (goes_some h job e w.before w.held (in_moving e k).1)

    module _ (j : IsJob job) where
      -- the target of a source
      pub moved_source : (e : Pair) → In e moving_for → moved_to moving_for e.0 ≡ e.1
      moved_source e k = by (moved_cases moving_for e.0)
        where
          by : ((d : Pair) × In d moving_for × (d.0 ≡ e.0) × (moved_to moving_for e.0 ≡ d.1)) ⊎ ((sources_of moving_for e.0 ≡ false) × (moved_to moving_for e.0 ≡ e.0)) → moved_to moving_for e.0 ≡ e.1
          by (inl (d, in_d, same, to)) = to ∙ ap (λ x. x.1) (one_source job j d e (in_moving d in_d).0 (in_moving e k).0 same)
          by (inr (none, stays)) = absurd (cc (none, in_sources moving_for e k))

      -- no two places that are held before the move become one
      pub moves_apart : MovesApart moving_for withheld_for
      moves_apart = record { one = λ p q m k held_p held_q to. by p q m k held_p held_q to (moved_cases moving_for p) (moved_cases moving_for q) }
        where
          by : (p q : Place) (m k : Held) → at withheld_for p ≡ Some m → at withheld_for q ≡ Some k → moved_to moving_for p ≡ moved_to moving_for q
              → ((e : Pair) × In e moving_for × (e.0 ≡ p) × (moved_to moving_for p ≡ e.1)) ⊎ ((sources_of moving_for p ≡ false) × (moved_to moving_for p ≡ p))
              → ((e : Pair) × In e moving_for × (e.0 ≡ q) × (moved_to moving_for q ≡ e.1)) ⊎ ((sources_of moving_for q ≡ false) × (moved_to moving_for q ≡ q))
              → p ≡ q
          by p q m k held_p held_q to (inl (d, in_d, is_p, to_d)) (inl (e, in_e, is_q, to_e)) =
              let one = one_target job j d e (in_moving d in_d).0 (in_moving e in_e).0 (sym to_d ∙ to ∙ to_e) in
              sym is_p ∙ ap (λ x. x.0) one ∙ is_q
          by p q m k held_p held_q to (inl (d, in_d, is_p, to_d)) (inr (none, stays)) = absurd (cc (held_q, target_free d in_d, ap (at withheld_for) (sym to_d ∙ to ∙ stays)))
          by p q m k held_p held_q to (inr (none, stays)) (inl (e, in_e, is_q, to_e)) = absurd (cc (held_p, target_free e in_e, ap (at withheld_for) (sym to_e ∙ sym to ∙ stays)))
          by p q m k held_p held_q to (inr (none_p, stays_p)) (inr (none_q, stays_q)) = sym stays_p ∙ to ∙ stays_q

      -- grant keeps holdings lawful
      pub lawful_granted : IsLawful (granted h job)
      lawful_granted = lawful_renamed moving_for withheld_for lawful_withheld moves_apart

      -- what is held after grant was held before the move
      pub granted_was : (q : Place) (k : Held) → at (granted h job) q ≡ Some k → WasMoved moving_for withheld_for q k
      granted_was q k held = renamed_was moving_for withheld_for q k lawful_withheld.sorted held

      -- each target holds what its source held, without status, and origins moved
      pub granted_target : (e : Pair) (m : Held) → In e moving_for → at withheld_for e.0 ≡ Some m
          → at (granted h job) e.1 ≡ Some (record m { status = no_rights; origin = option_map (moved_to moving_for) m.origin })
      granted_target e m k held =
          ap (at (granted h job)) (sym (moved_source e k)) ∙ renamed_at moving_for withheld_for e.0 m lawful_withheld.sorted moves_apart held
          ∙ rw (in_sources moving_for e k) refl

      -- that is, what its source held after the flush, with the rights that the fpage lets through
      pub granted_pair : (e : Pair) (m : Held) → In e job.pairs → fate h job e ≡ goes → at (flushed_for h job) e.0 ≡ Some m
          → at (granted h job) e.1 ≡ Some (record { frame = m.frame; rights = meet m.rights job.rights; status = no_rights; origin = option_map (moved_to moving_for) m.origin })
      granted_pair e m k is held =
          let here = moving_in e m k is held in
          let s = source_left e m here held in
          granted_target e s.held here s.is ∙ (λ i. Some (record { frame = s.frame i; rights = s.rights i; status = no_rights; origin = option_map (moved_to moving_for) (s.origin i) }))

      -- no source is held after grant
      pub granted_source : (e : Pair) → In e moving_for → at (granted h job) e.0 ≡ None
      granted_source e k = by (at (granted h job) e.0) refl
        where
          not_there : (p : Place) → moved_to moving_for p ≡ e.0 → ((d : Pair) × In d moving_for × (d.0 ≡ p) × (moved_to moving_for p ≡ d.1)) ⊎ ((sources_of moving_for p ≡ false) × (moved_to moving_for p ≡ p)) → ⊥
          not_there p to (inl (d, in_d, same, to_d)) = source_no_target job j e d (in_moving e k).0 (in_moving d in_d).0 (sym to ∙ to_d)
          not_there p to (inr (none, stays)) = cc (none, in_sources moving_for e k, ap (sources_of moving_for) (sym stays ∙ to))

          by : (m : Option Held) → at (granted h job) e.0 ≡ m → at (granted h job) e.0 ≡ None
          by None is = is
          by (Some m) is = let w = granted_was e.0 m is in absurd (not_there w.place w.to (moved_cases moving_for w.place))

      -- any other place holds what it held, and origins moved
      pub granted_other : (p : Place) (m : Held) → sources_of moving_for p ≡ false → at withheld_for p ≡ Some m → at (granted h job) p ≡ Some (record m { origin = option_map (moved_to moving_for) m.origin })
      granted_other p m none held = by (moved_cases moving_for p)
        where
          by : ((e : Pair) × In e moving_for × (e.0 ≡ p) × (moved_to moving_for p ≡ e.1)) ⊎ ((sources_of moving_for p ≡ false) × (moved_to moving_for p ≡ p)) → at (granted h job) p ≡ Some (record m { origin = option_map (moved_to moving_for) m.origin })
          by (inl (e, k, same, to)) = absurd (cc (none, in_sources moving_for e k, ap (sources_of moving_for) same))
          by (inr (_, stays)) = ap (at (granted h job)) (sym stays) ∙ renamed_at moving_for withheld_for p m lawful_withheld.sorted moves_apart held ∙ rw none refl

      -- the move keeps the number of mappings of each frame
      pub granted_mappings : (frame : ℕ) → mappings_of frame (granted h job) ≡ mappings_of frame withheld_for
      granted_mappings frame = renamed_mappings frame moving_for withheld_for lawful_withheld.sorted moves_apart
