-- What map does at each place.
use Rattle.std.proofs.Common.{◌≡◌, ℕ, true, false, Bool, [], ◌∷◌, List, Option, Some, None, refl, sym, ap, ◌∙◌, subst, ◌⊎◌, inl, inr}
use Rattle.space.specs.declared.place.Place.{Place}
use Rattle.space.specs.Place.{same_place}
use Rattle.model.specs.Definitions.Holdings.{Held, Holdings, at}
use Rattle.model.specs.Definitions.Items.{Job, Pair, Fate, absent, norights, to_origin, extends, goes, fate, going, flush, targets_of}
use Rattle.model.specs.Definitions.Map.{linked, extended, link, extend, map_pair, map_pairs, mapped}
use Rattle.model.specs.Laws.SendLaws.{In}
use Rattle.model.proofs.Lookups.{Sorted}
use Rattle.model.proofs.Jobs.{ArePaired, IsJob, in_targets, target_in, source_no_target}
use Rattle.model.proofs.Puts.{apart_places, put_here, put_elsewhere, sorted_put}

-- ---- what map makes of the target of a pair

-- of a pair that goes: of what its source and target hold after the flush
abbrev pub after_link : Job → Pair → Option Held → Option Held → Option Held
after_link job e None target = target
after_link job e (Some source) target = Some (linked job e.0 source)

-- of a pair that extends
abbrev pub after_extend : Job → Option Held → Option Held → Option Held
after_extend job None target = target
after_extend job (Some source) None = None
after_extend job (Some source) (Some m) = Some (extended job source m)

-- by its outcome
abbrev pub after_pair : Job → Pair → Fate → Option Held → Option Held → Option Held
after_pair job e absent source target = target
after_pair job e norights source target = target
after_pair job e to_origin source target = target
after_pair job e extends source target = after_extend job source target
after_pair job e goes source target = after_link job e source target

module _ (job : Job) (e : Pair) (g : Holdings) where
  link_target : (source target : Option Held) → at g e.1 ≡ target → at (link job e source g) e.1 ≡ after_link job e source target
  link_target None target is = is
  link_target (Some m) target is = put_here e.1 (linked job e.0 m) g

  extend_target : (source target : Option Held) → at g e.1 ≡ target → at (extend job e source target g) e.1 ≡ after_extend job source target
  extend_target None target is = is
  extend_target (Some m) None is = is
  extend_target (Some m) (Some t) is = put_here e.1 (extended job m t) g

  pair_target : (flushed : Holdings) (f : Fate) → at g e.1 ≡ at flushed e.1 → at (map_pair flushed job e f g) e.1 ≡ after_pair job e f (at flushed e.0) (at flushed e.1)
  pair_target flushed absent is = is
  pair_target flushed norights is = is
  pair_target flushed to_origin is = is
  pair_target flushed extends is = extend_target (at flushed e.0) (at flushed e.1) is
  pair_target flushed goes is = link_target (at flushed e.0) (at flushed e.1) is

  module _ (p : Place) (apart : same_place p e.1 ≡ false) where
    link_other : (source : Option Held) → at (link job e source g) p ≡ at g p
    link_other None = refl
    link_other (Some m) = put_elsewhere p e.1 (linked job e.0 m) g apart

    extend_other : (source target : Option Held) → at (extend job e source target g) p ≡ at g p
    extend_other None target = refl
    extend_other (Some m) None = refl
    extend_other (Some m) (Some t) = put_elsewhere p e.1 (extended job m t) g apart

    pub pair_other : (flushed : Holdings) (f : Fate) → at (map_pair flushed job e f g) p ≡ at g p
    pair_other flushed absent = refl
    pair_other flushed norights = refl
    pair_other flushed to_origin = refl
    pair_other flushed extends = extend_other (at flushed e.0) (at flushed e.1)
    pair_other flushed goes = link_other (at flushed e.0)

  module _ (sorted : Sorted g) where
    link_sorted : (source : Option Held) → Sorted (link job e source g)
    link_sorted None = sorted
    link_sorted (Some m) = sorted_put e.1 (linked job e.0 m) g sorted

    extend_sorted : (source target : Option Held) → Sorted (extend job e source target g)
    extend_sorted None target = sorted
    extend_sorted (Some m) None = sorted
    extend_sorted (Some m) (Some t) = sorted_put e.1 (extended job m t) g sorted

    pair_sorted : (flushed : Holdings) (f : Fate) → Sorted (map_pair flushed job e f g)
    pair_sorted flushed absent = sorted
    pair_sorted flushed norights = sorted
    pair_sorted flushed to_origin = sorted
    pair_sorted flushed extends = extend_sorted (at flushed e.0) (at flushed e.1)
    pair_sorted flushed goes = link_sorted (at flushed e.0)

-- the place is the target of no pair
abbrev pub IsNoTarget : List Pair → Place → Type 0
IsNoTarget es p = (e : Pair) → In e es → e.1 ≡ p → ⊥

module _ (start flushed : Holdings) (job : Job) where
  pairs_other : (es : List Pair) (g : Holdings) (p : Place) → IsNoTarget es p → at (map_pairs start flushed job es g) p ≡ at g p
  pairs_other [] g p none = refl
  pairs_other (d ∷ es) g p none =
      pairs_other es (map_pair flushed job d (fate start job d) g) p (λ e k. none e (inr k))
      ∙ pair_other job d g p (apart_places p d.1 (λ same. none d (inl refl) (sym same))) flushed (fate start job d)

  pairs_target : (from to : ℕ) (es : List Pair) (g : Holdings) → ArePaired from to es → (e : Pair) → In e es → at g e.1 ≡ at flushed e.1
      → at (map_pairs start flushed job es g) e.1 ≡ after_pair job e (fate start job e) (at flushed e.0) (at flushed e.1)
  pairs_target from to [] g paired e k is = absurd k
  pairs_target from to (d ∷ es) g paired e (inl same) is =
      pairs_other es (map_pair flushed job d (fate start job d) g) e.1 (λ c k is. (paired.2 c k).1 (is ∙ ap (λ x. x.1) same))
      ∙ subst (λ x. at (map_pair flushed job x (fate start job x) g) e.1 ≡ after_pair job e (fate start job e) (at flushed e.0) (at flushed e.1)) same (pair_target job e g flushed (fate start job e) is)
  pairs_target from to (d ∷ es) g paired e (inr k) is =
      pairs_target from to es (map_pair flushed job d (fate start job d) g) paired.3 e k
      (pair_other job d g e.1 (apart_places e.1 d.1 (paired.2 e k).1) flushed (fate start job d) ∙ is)

  pairs_sorted : (es : List Pair) (g : Holdings) → Sorted g → Sorted (map_pairs start flushed job es g)
  pairs_sorted [] g sorted = sorted
  pairs_sorted (d ∷ es) g sorted = pairs_sorted es (map_pair flushed job d (fate start job d) g) (pair_sorted job d g sorted flushed (fate start job d))

-- a place is the target of a pair, or of none
pub target_or_none : (es : List Pair) (p : Place) → ((e : Pair) × In e es × (e.1 ≡ p)) ⊎ IsNoTarget es p
target_or_none es p = by (targets_of es p) refl
  where
    by : (b : Bool) → targets_of es p ≡ b → ((e : Pair) × In e es × (e.1 ≡ p)) ⊎ IsNoTarget es p
    by true is = inl (target_in es p is)
    by false is = inr (λ e k same. absurd (cc (is, subst (λ q. targets_of es q ≡ true) same (in_targets es e k))))

-- ---- what is held where after map

module _ (h : Holdings) (job : Job) where
  -- the holdings after the flush
  abbrev pub flushed_for : Holdings
  flushed_for = flush h (going h job)

  -- map keeps the order
  pub mapped_sorted : Sorted flushed_for → Sorted (mapped h job)
  mapped_sorted sorted = pairs_sorted h flushed_for job job.pairs flushed_for sorted

  module _ (j : IsJob job) where
    -- the target of a pair holds what its outcome makes of what source and target hold after the flush
    pub mapped_target : (e : Pair) → In e job.pairs → at (mapped h job) e.1 ≡ after_pair job e (fate h job e) (at flushed_for e.0) (at flushed_for e.1)
    mapped_target e k = pairs_target h flushed_for job j.from j.to job.pairs flushed_for j.paired e k refl

    -- what is the target of no pair is left as it is
    pub mapped_elsewhere : (p : Place) → IsNoTarget job.pairs p → at (mapped h job) p ≡ at flushed_for p
    mapped_elsewhere p none = pairs_other h flushed_for job job.pairs flushed_for p none

    -- the source of a pair is left as it is
    pub mapped_source : (e : Pair) → In e job.pairs → at (mapped h job) e.0 ≡ at flushed_for e.0
    mapped_source e k = mapped_elsewhere e.0 (λ d in_d same. source_no_target job j e d k in_d (sym same))

    -- the target of a pair that goes is linked to its source
    pub mapped_link : (e : Pair) (m : Held) → In e job.pairs → fate h job e ≡ goes → at flushed_for e.0 ≡ Some m → at (mapped h job) e.1 ≡ Some (linked job e.0 m)
    mapped_link e m k is held = mapped_target e k ∙ rw (is, held) refl

    -- the target of a pair that extends gains rights
    pub mapped_extend : (e : Pair) (m t : Held) → In e job.pairs → fate h job e ≡ extends → at flushed_for e.0 ≡ Some m → at flushed_for e.1 ≡ Some t → at (mapped h job) e.1 ≡ Some (extended job m t)
    mapped_extend e m t k is held target = mapped_target e k ∙ rw (is, held, target) refl

    same_after : (e : Pair) (f : Fate) (source target : Option Held) → (f ≡ goes → source ≡ None) → (f ≡ extends → source ≡ None) → after_pair job e f source target ≡ target
    same_after e absent source target none_goes none_extends = refl
    same_after e norights source target none_goes none_extends = refl
    same_after e to_origin source target none_goes none_extends = refl
    same_after e extends source target none_goes none_extends = rw (none_extends refl) refl
    same_after e goes source target none_goes none_extends = rw (none_goes refl) refl

    -- a place is left as it is where each pair to it that goes or extends has a source that was flushed
    pub mapped_other : (p : Place) → ((e : Pair) → In e job.pairs → e.1 ≡ p → (fate h job e ≡ goes → at flushed_for e.0 ≡ None) × (fate h job e ≡ extends → at flushed_for e.0 ≡ None))
        → at (mapped h job) p ≡ at flushed_for p
    mapped_other p unmoved = by (target_or_none job.pairs p)
      where
        by : ((e : Pair) × In e job.pairs × (e.1 ≡ p)) ⊎ IsNoTarget job.pairs p → at (mapped h job) p ≡ at flushed_for p
        by (inr none) = mapped_elsewhere p none
        by (inl (e, k, same)) =
            let u = unmoved e k same in
            subst (λ q. at (mapped h job) q ≡ at flushed_for q) same (mapped_target e k ∙ same_after e (fate h job e) (at flushed_for e.0) (at flushed_for e.1) u.0 u.1)
