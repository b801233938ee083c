-- The first place of a run at or behind another is the first page below the first place of the run.
use Rattle.std.proofs.Common.{◌≡◌, ◌⊎◌, inl, inr, ℕ, suc, ◌+◌, ◌<◌, ◌≤◌, true, false, Bool, if◌then◌else◌, nat_le, nat_lt, ◌==◌, ◌&&◌, ◌||◌, Option, Some, None, refl, sym, ap, ◌∙◌, subst, arith, eq-or-lt_of_le}
use Rattle.std.proofs.lemmas.Bool.{lt-ltb, le-ltb, le-leb, eq-eqb}
use Rattle.std.proofs.lemmas.Bool.Decides.{leb_tells, eqb_tells}
use Rattle.std.specs.Prelude.{MatchOption, IfSome, is_some, List, length}
use Rattle.std.specs.declared.ops.Range.{Range}
use Rattle.space.specs.declared.place.Entry.{Entry}
use Rattle.space.specs.declared.place.Place.{Place}
use Rattle.space.specs.declared.shards.Shards.{Shards}
use Rattle.space.specs.Shards.{entry_at}
use Rattle.space.proofs.Places.{same_is}
use Rattle.maptree.specs.Origins.{Origins, Shape, place_at, IsRun}
use Rattle.maptree.proofs.Listed.{listed_at}
use Rattle.model.specs.Definitions.Derived.{is_below}
use Rattle.model.specs.Definitions.Holdings.{Held, Holdings, at, only}
use Rattle.model.proofs.Derivations.{below_is_a_chain}
use Rattle.holdings.specs.Below.{held_below, IsNoneBelow, IsNextBelow}
use Rattle.holdings.specs.Places.{IsWithin}
use Rattle.holdings.specs.Inner.Held.{is_listed, links_in, limits_in, holdings_in}
use Rattle.holdings.specs.Inner.Sound.{AreSound}
use Rattle.holdings.proofs.Contents.Holders.{present_within}
use Rattle.holdings.proofs.Contents.Listing.{within_from_place}
use Rattle.holdings.proofs.Contents.WordOrigins.{frame_of}
use Rattle.holdings.proofs.Stripping.Frames.{loose_from}
use Rattle.holdings.proofs.Trees.Chains.{is_among, among_at, at_among, below_among, chains_agree, entry_held}
use Rattle.holdings.specs.Inner.FirstFrom.{IsBehind, IsFirstFrom, StandsAmong, earlier, is_from}

-- ---- the order of places

-- where a place stands to another
abbrev Compared : Place → Place → Type 0
Compared p q = (p.space < q.space) ⊎ ((p.space ≡ q.space) × (p.page ≤ q.page))

is_from_compared : (p q : Place) → Compared p q → is_from p q ≡ true
is_from_compared p q (inl less) = ap (λ b. b || ((q.space == p.space) && nat_le p.page q.page)) (lt-ltb p.space q.space less)
is_from_compared p q (inr same) = (λ i. le-ltb p.space q.space (omega (arith, same.0)) i || (eq-eqb q.space p.space (sym same.0) i && le-leb p.page q.page same.1 i))

compared : (p q : Place) → is_from p q ≡ true → Compared p q
compared p q is = by (leb_tells (suc p.space) q.space) (eqb_tells q.space p.space) (leb_tells p.page q.page)
  where
    by : ((nat_lt p.space q.space ≡ true) × (p.space < q.space)) ⊎ ((nat_lt p.space q.space ≡ false) × (q.space < suc p.space))
        → (((q.space == p.space) ≡ true) × (q.space ≡ p.space)) ⊎ (((q.space == p.space) ≡ false) × (q.space ≡ p.space → ⊥))
        → ((nat_le p.page q.page ≡ true) × (p.page ≤ q.page)) ⊎ ((nat_le p.page q.page ≡ false) × (q.page < p.page)) → Compared p q
    by (inl less) equal most = inl less.1
    by (inr more) (inl same) (inl most) = inr (sym same.1, most.1)
    by (inr more) (inl same) (inr past) = absurd (cc (is, more.0, same.0, past.0))
    by (inr more) (inr differ) most = absurd (cc (is, more.0, differ.0))

from_self : (p : Place) → is_from p p ≡ true
from_self p = is_from_compared p p (inr (refl, omega arith))

-- what is before a place is before all that is at or behind it
before_all : (p q x : Place) → is_from q p ≡ false → is_from q x ≡ true → is_from p x ≡ true
before_all p q x before behind = is_from_compared p x (by (compared q x behind))
  where
    not_compared : Compared q p → ⊥
    not_compared c = absurd (cc (before, is_from_compared q p c))

    less : p.space ≤ q.space
    less = by (leb_tells (suc q.space) p.space)
      where
        by : ((nat_lt q.space p.space ≡ true) × (q.space < p.space)) ⊎ ((nat_lt q.space p.space ≡ false) × (p.space < suc q.space)) → p.space ≤ q.space
        by (inl more) = absurd (not_compared (inl more.1))
        by (inr most) = omega (arith, most.1)

    by : Compared q x → Compared p x
    by (inl further) = inl (omega (arith, further, less))
    by (inr same) = in_space (eq-or-lt_of_le less)
      where
        in_space : (p.space ≡ q.space) ⊎ (p.space < q.space) → Compared p x
        in_space (inl one) = page (leb_tells q.page p.page)
          where
            page : ((nat_le q.page p.page ≡ true) × (q.page ≤ p.page)) ⊎ ((nat_le q.page p.page ≡ false) × (p.page < q.page)) → Compared p x
            page (inl past) = absurd (not_compared (inr (sym one, past.1)))
            page (inr below) = inr (one ∙ same.0, omega (arith, below.1, same.1))
        in_space (inr lower) = inl (omega (arith, lower, same.0))

-- ---- the first of some places

pub first_none : (os : Origins) (a : ℕ) (from : Place) → IsFirstFrom os a a from None
first_none os a from = record { some = tt; least = λ i d after before is. absurd (omega (arith, after, before)) }

module _ (os : Origins) (a i : ℕ) (from : Place) (after : a ≤ i) (p : Place) (here : (d : Place) → place_at os i d ≡ p) where
  -- what was found is found among one place more
  further : (q : Place) → StandsAmong os a i q → StandsAmong os a (i + 1) q
  further q stands = record { position = stands.position; after = stands.after; before = omega (arith, stands.before); place = stands.place }

  found : StandsAmong os a (i + 1) p
  found = record { position = i; after = after; before = omega arith; place = here }

  -- a place among one more is one of those before, or that one
  among : (P : Place → Type 0) → ((j : ℕ) (d : Place) → a ≤ j → j < i → is_from from (place_at os j d) ≡ true → P (place_at os j d)) → (is_from from p ≡ true → P p)
      → (j : ℕ) (d : Place) → a ≤ j → j < i + 1 → is_from from (place_at os j d) ≡ true → P (place_at os j d)
  among P others one j d low high is = by (eq-or-lt_of_le (omega (arith, high)))
    where
      by : (j ≡ i) ⊎ (j < i) → P (place_at os j d)
      by (inl same) =
          let at_j : place_at os j d ≡ p = ap (λ k. place_at os k d) same ∙ here d in
          subst P (sym at_j) (one (subst (λ x. is_from from x ≡ true) at_j is))
      by (inr less) = others j d low less is

  pub first_more : (first : Option Place) → IsFirstFrom os a i from first → IsFirstFrom os a (i + 1) from (earlier from first p)
  first_more None so_far = by (is_from from p) refl
    where
      by : (b : Bool) → is_from from p ≡ b → IsFirstFrom os a (i + 1) from (if b then Some p else None)
      by true is = record { some = (found, is); least = among (IsBehind (Some p)) (λ j d low less from_it. absurd (so_far.least j d low less from_it)) (λ from_it. from_self p) }
      by false is = record { some = tt; least = among (IsBehind None) so_far.least (λ from_it. absurd (cc (is, from_it))) }
  first_more (Some q) so_far = by (is_from from p) refl (is_from q p) refl
    where
      kept : (is_from from p ≡ true → is_from q p ≡ true) → IsFirstFrom os a (i + 1) from (Some q)
      kept one = record { some = (further q so_far.some.0, so_far.some.1); least = among (IsBehind (Some q)) so_far.least one }

      by : (b : Bool) → is_from from p ≡ b → (c : Bool) → is_from q p ≡ c → IsFirstFrom os a (i + 1) from (if b then (if c then Some q else Some p) else Some q)
      by false is c order = kept (λ from_it. absurd (cc (is, from_it)))
      by true is true order = kept (λ from_it. order)
      by true is false order =
          record { some = (found, is); least = among (IsBehind (Some p)) (λ j d low less from_it. before_all p q (place_at os j d) order (so_far.least j d low less from_it)) (λ from_it. from_self p) }

-- ---- the first page below another

module _ (s : Shards) (trees : List Shape) (sound : AreSound s trees) (frame : ℕ) (run : Range ℕ) (is_run : IsRun (links_in trees frame) run) (some : run.start < run.end)
    (within_run : run.end ≤ length (links_in trees frame)) (above : Place) (begins : (d : Place) → place_at (links_in trees frame) run.start d ≡ above) (from : Place) where
  abbrev h : Holdings
  h = holdings_in s trees

  abbrev os : Origins
  os = links_in trees frame

  in_run : (p : Place) (e : Entry) → IsWithin (limits_in s trees) p → entry_at s p ≡ Some e → is_below h (only above) p ≡ is_among os run.start run.end p
  in_run p e within is = below_among s trees (loose_from s trees sound) frame run is_run some within_run above begins p e within is

  -- what is not at or behind the first one is not below
  none_before : (first : Option Place) → IsFirstFrom os run.start run.end from first → (p : Place) → is_from from p ≡ true → (IsBehind first p → ⊥) → held_below h above p ≡ None
  none_before first found p from_it before = by (at h p) refl (is_below h (only above) p) refl
    where
      behind : (m : Held) → at h p ≡ Some m → is_below h (only above) p ≡ true → IsBehind first p
      behind m is below =
          let e = entry_held s trees (loose_from s trees sound) p m is in
          let place = among_at os run.start run.end p above (sym (in_run p e.1.0 e.0 e.1.1) ∙ below) in
          subst (IsBehind first) place.4 (found.least place.0 above place.1 place.2 (subst (λ x. is_from from x ≡ true) (sym place.4) from_it))

      by : (o : Option Held) → at h p ≡ o → (b : Bool) → is_below h (only above) p ≡ b → held_below h above p ≡ None
      by o is false below = ap (λ b. if b then at h p else None) below
      by None is true below = ap (λ b. if b then at h p else None) below ∙ is
      by (Some m) is true below = absurd (before (behind m is below))

  pub next_is : (first : Option Place) → IsFirstFrom os run.start run.end from first → MatchOption first (IsNoneBelow h above from) (IsNextBelow h above from) × IfSome first (IsWithin (limits_in s trees))
  next_is None found = (λ p from_it. none_before None found p from_it (λ behind. behind), tt)
  next_is (Some q) found =
      let there = found.some.0 in
      let in_list : there.position < length os = omega (arith, there.before, within_run) in
      let listed : is_listed trees frame q ≡ true = subst (λ x. is_listed trees frame x ≡ true) (there.place above) (listed_at os there.position above in_list) in
      let within = within_from_place (limits_in s trees) q (sound.pruned.within frame q listed) in
      let e = frame_of s trees sound frame q listed in
      let among : is_among os run.start run.end q ≡ true =
      subst (λ x. is_among os run.start run.end x ≡ true) (there.place above) (at_among os run.start run.end there.position above there.after there.before in_list) in (
        record {
          behind = found.some.1;
          below = in_run q e.0 within e.1 ∙ among;
          held = ap is_some (present_within (limits_in s trees) s trees q within e.0 e.1);
          before = λ p from_it not_behind. none_before (Some q) found p from_it (λ behind. absurd (cc (behind, not_behind)));
        },
        within,
      )

-- below a page that is not held there is none
pub none_below_absent : (s : Shards) (trees : List Shape) (sound : AreSound s trees) (above : Place) → entry_at s above ≡ None → (p : Place) → held_below (holdings_in s trees) above p ≡ None
none_below_absent s trees sound above none p = by (at (holdings_in s trees) p) refl (is_below (holdings_in s trees) (only above) p) refl
  where
    by : (o : Option Held) → at (holdings_in s trees) p ≡ o → (b : Bool) → is_below (holdings_in s trees) (only above) p ≡ b → held_below (holdings_in s trees) above p ≡ None
    by o is false below = ap (λ b. if b then at (holdings_in s trees) p else None) below
    by None is true below = ap (λ b. if b then at (holdings_in s trees) p else None) below ∙ is
    by (Some m) is true below =
        let e = entry_held s trees (loose_from s trees sound) p m is in
        let to = (below_is_a_chain (holdings_in s trees) sound.kept.lawful (only above) p).0 below in
        let last = (chains_agree s trees (loose_from s trees sound) to.origins p e.1.0 e.0 e.1.1).1 to.into to.leads in
        absurd (cc (none, ap (entry_at s) (same_is above to.into to.within), last.1))
