-- The laws of status.
use Rattle.std.proofs.Common.{◌≡◌, true, false, Bool, ◌&&◌, ◌||◌, List, [], ◌∷◌, Some, refl, sym, ap, ◌∙◌, subst, ◌⊎◌, inl, inr, if◌then◌else◌}
use Rattle.std.proofs.lemmas.Bool.{or_cases, or_left, or_right, or_parts, false_from_ne_true}
use Rattle.fpage.specs.Rights.{no_rights, has, join, is_empty}
use Rattle.fpage.specs.declared.rights.Rights.{Rights}
use Rattle.fpage.specs.declared.rights.Access.{Access}
use Rattle.space.specs.declared.place.Place.{Place}
use Rattle.space.specs.Place.{same_place}
use Rattle.model.specs.Definitions.Holdings.{Held, Holdings, PlaceSet, only, at, origin_at}
use Rattle.model.specs.Definitions.Derived.{is_under, is_below}
use Rattle.model.specs.Definitions.Strip.{rights_left, stripped, strip, strip_word, passed_to}
use Rattle.model.specs.Laws.StatusLaws.{HasBit, PassesBit, WordIsTheUnion, StatusIsCleared, OutsideGains, Removal, after_removal, after_removals, IsAnswered, NoBitIsLost}
use Rattle.space.proofs.Places.{same_is, same_self}
use Rattle.fpage.proofs.RightSets.{has-join, has-none}
use Rattle.model.proofs.LawfulParts.{IsLawful, lawful_parts}
use Rattle.model.proofs.Chains.{along, below_cases, below_from, held_with_origin, below_within, below_trans}
use Rattle.model.proofs.StatusSums.{over_has, over_from, passed_has, passed_from}
use Rattle.model.proofs.StripAt.{lawful_strip, strip_below, was_stripped, is_stripped}
use Rattle.model.proofs.Derivations.{below_leads, leads_below}

module _ (h : Holdings) (l : IsLawful h) where
  pub word_has : (set : PlaceSet) (b : Access) → HasBit h set b → has (strip_word h set) b ≡ true
  word_has set b s = over_has (is_below h set) b h s.place s.held s.is (leads_below h l set s.place s.leads) s.bit

  pub word_from : (set : PlaceSet) (b : Access) → has (strip_word h set) b ≡ true → HasBit h set b
  word_from set b bit =
      let s = over_from (is_below h set) b h l.sorted bit in
      record { place = s.place; held = s.held; is = s.is; leads = below_leads h l set s.place s.within; bit = s.bit }

  pub passes_from : (set : PlaceSet) (o : Place) (b : Access) → has (passed_to h set o) b ≡ true → PassesBit h set o b
  passes_from set o b bit =
      let s = passed_from h set o b l.sorted bit in
      record { child = s.place; held = s.held; is = s.is; origin = s.origin; leads = below_leads h l set s.place s.below; bit = word_from (only s.place) b s.bit }

  pub passes_has : (set : PlaceSet) (o : Place) (b : Access) → PassesBit h set o b → has (passed_to h set o) b ≡ true
  passes_has set o b s = passed_has h set o b s.child s.held s.is s.origin (leads_below h l set s.child s.leads) (word_has (only s.child) b s.bit)

  module _ (set : PlaceSet) (a : Rights) (f : Bool) where
    pub cleared : (p : Place) (m : Held) → is_below h set p ≡ true → at (strip h set a f) p ≡ Some m → m.status ≡ no_rights
    cleared p m below left =
        let w = was_stripped h set a f l p m left in
        ap (λ x. x.status) w.is ∙ ap (λ x. if x then no_rights else join w.before.status (passed_to h set p)) below

    outside_status : (p : Place) (m k : Held) → is_below h set p ≡ false → at h p ≡ Some m → at (strip h set a f) p ≡ Some k → k.status ≡ join m.status (passed_to h set p)
    outside_status p m k outside held left =
        let w = was_stripped h set a f l p k left in
        let same : w.before ≡ m = cc (w.held, held) in
        ap (λ x. x.status) w.is ∙ ap (λ x. if x then no_rights else join w.before.status (passed_to h set p)) outside ∙ ap (λ x. join x.status (passed_to h set p)) same

    pub outside_gains_from : (p : Place) (m k : Held) → is_below h set p ≡ false → at h p ≡ Some m → at (strip h set a f) p ≡ Some k → (b : Access)
        → has k.status b ≡ (has m.status b || has (passed_to h set p) b)
    outside_gains_from p m k outside held left b = ap (λ x. has x b) (outside_status p m k outside held left) ∙ has-join m.status (passed_to h set p) b

    -- a page outside is still held
    outside_held : (p : Place) (m : Held) → is_below h set p ≡ false → at h p ≡ Some m → at (strip h set a f) p ≡ Some (stripped h set a f p m)
    outside_held p m outside held =
        let parts = or_parts (set p) (is_under h set p) outside in
        is_stripped h set a f l p m held (rw (parts.1, parts.0) (none f))
      where
        none : (x : Bool) → ((x && false) && is_empty (rights_left (x && false) a m.rights)) ≡ false
        none true = refl
        none false = refl

-- a strip brings no bit to a place: what a strip of q would return afterwards, it would have returned before
module _ (h : Holdings) (l : IsLawful h) (set : PlaceSet) (a : Rights) (f : Bool) (q : Place) (b : Access) where
  pub bit_was_there : has (strip_word (strip h set a f) (only q)) b ≡ true → has (strip_word h (only q)) b ≡ true
  bit_was_there bit =
      let s = over_from (is_below (strip h set a f) (only q)) b (strip h set a f) (lawful_strip h set a f l).sorted bit in
      let w = was_stripped h set a f l s.place s.held s.is in
      let below : is_below h (only q) s.place ≡ true = sym (strip_below h set a f l (only q) s.place (rw (s.is) refl)) ∙ s.within in
      elim (is_below h set s.place) as (λ x. is_below h set s.place ≡ x → has (strip_word h (only q)) b ≡ true) [
        | true ↦ λ inside. absurd (cc (s.bit, ap (λ r. has r b) (cleared h l set a f s.place s.held inside s.is), has-none b))
        | false ↦ λ outside. by s.place w.before w.held below (or_cases (has w.before.status b) (has (passed_to h set s.place) b) (sym (outside_gains_from h l set a f s.place w.before s.held outside w.held s.is b) ∙ s.bit))
      ] refl
    where
      by : (x : Place) (m : Held) → at h x ≡ Some m → is_below h (only q) x ≡ true → (has m.status b ≡ true) ⊎ (has (passed_to h set x) b ≡ true) → has (strip_word h (only q)) b ≡ true
      by x m held below (inl own) = over_has (is_below h (only q)) b h x m held below own
      by x m held below (inr passed) =
          let c = passed_from h set x b l.sorted passed in
          let from : origin_at h c.place ≡ Some x = rw (c.is) (c.origin) in
          let z = over_from (is_below h (only c.place)) b h l.sorted c.bit in
          over_has (is_below h (only q)) b h z.place z.held z.is (below_trans h l (only q) c.place z.place (below_from h l (only q) c.place x from below) z.within) z.bit

pub word_is_the_union : WordIsTheUnion
word_is_the_union h lawful set b = let l = lawful_parts h lawful in (word_from h l set b, word_has h l set b)

pub status_is_cleared : StatusIsCleared
status_is_cleared h lawful set a f p m chain left = let l = lawful_parts h lawful in cleared h l set a f p m (leads_below h l set p chain) left

pub outside_gains : OutsideGains
outside_gains h lawful set a f p m k none held left b =
    let is : has k.status b ≡ (has m.status b || has (passed_to h set p) b) = outside_gains_from h l set a f p m k outside held left b in
    (λ bit. from (or_cases (has m.status b) (has (passed_to h set p) b) (sym is ∙ bit)), λ c. is ∙ to c)
  where
    l : IsLawful h
    l = lawful_parts h lawful

    outside : is_below h set p ≡ false
    outside = false_from_ne_true _ (λ below. none (below_leads h l set p below))

    from : (has m.status b ≡ true) ⊎ (has (passed_to h set p) b ≡ true) → (has m.status b ≡ true) ⊎ PassesBit h set p b
    from (inl own) = inl own
    from (inr passed) = inr (passes_from h l set p b passed)

    to : (has m.status b ≡ true) ⊎ PassesBit h set p b → (has m.status b || has (passed_to h set p) b) ≡ true
    to (inl own) = or_left _ _ own
    to (inr passed) = or_right _ _ (passes_has h l set p b passed)

-- ---- no bit is lost

-- a place below one place, whose bit stands at that place or below it
module _ (h : Holdings) (l : IsLawful h) (set : PlaceSet) (a : Rights) (f : Bool) (q : Place) (b : Access) (outside : is_below h set q ≡ false) where
  -- a bit that stands outside the set stands there afterwards
  bit_stays : (p : Place) (m : Held) → at h p ≡ Some m → is_below h (only q) p ≡ true → is_below h set p ≡ false → (has m.status b || has (passed_to h set p) b) ≡ true
      → has (strip_word (strip h set a f) (only q)) b ≡ true
  bit_stays p m held below_q out bit =
      let left = outside_held h l set a f p m out held in
      over_has (is_below (strip h set a f) (only q)) b (strip h set a f) p (stripped h set a f p m) left
      (strip_below h set a f l (only q) p (rw left refl) ∙ below_q)
      (outside_gains_from h l set a f p m (stripped h set a f p m) out held left b ∙ bit)

  -- a bit below a place that is below the set and below q, which is not: it passes to an origin outside
  bit_passes : (p : Place) → is_below h (only q) p ≡ true → is_below h set p ≡ true → has (strip_word h (only p)) b ≡ true → has (strip_word (strip h set a f) (only q)) b ≡ true
  bit_passes = along h l (λ p. is_below h (only q) p ≡ true → is_below h set p ≡ true → has (strip_word h (only p)) b ≡ true → has (strip_word (strip h set a f) (only q)) b ≡ true)
      (λ p ih below_q below bit. by p ih below bit (below_cases h l (only q) p below_q))
    where
      by : (p : Place)
          → ((o : Place) → origin_at h p ≡ Some o → is_below h (only q) o ≡ true → is_below h set o ≡ true → has (strip_word h (only o)) b ≡ true → has (strip_word (strip h set a f) (only q)) b ≡ true)
          → is_below h set p ≡ true → has (strip_word h (only p)) b ≡ true
          → (same_place q p ≡ true) ⊎ ((o : Place) × (origin_at h p ≡ Some o) × (is_below h (only q) o ≡ true))
          → has (strip_word (strip h set a f) (only q)) b ≡ true
      by p ih below bit (inl same) = absurd (cc (below, outside, ap (is_below h set) (same_is q p same)))
      by p ih below bit (inr (o, from, o_below)) = elim (is_below h set o) as (λ x. is_below h set o ≡ x → has (strip_word (strip h set a f) (only q)) b ≡ true) [
        | true ↦ λ inside. ih o from o_below inside (wider o from)
        | false ↦ λ out.
            let m = held_with_origin h p o from in
            let origin = l.origin p o m.0 m.1 m.2 in
            bit_stays o origin.held origin.is o_below out (or_right _ _ (passed_has h set o b p m.0 m.1 m.2 below bit))
      ] refl
        where
          -- what is below the page is below its origin
          wider : (o : Place) → origin_at h p ≡ Some o → has (strip_word h (only o)) b ≡ true
          wider o from =
              let s = over_from (is_below h (only p)) b h l.sorted bit in
              let at_p : (x : Place) → same_place p x ≡ true → is_below h (only o) x ≡ true = λ x same. subst (λ y. is_below h (only o) y ≡ true) (same_is p x same) (below_from h l (only o) p o from (or_left _ _ (same_self o))) in
              over_has (is_below h (only o)) b h s.place s.held s.is (below_within h l (only p) (only o) at_p s.place s.within) s.bit

  -- what a strip of q would return before, it would return afterwards
  pub bit_is_kept : has (strip_word h (only q)) b ≡ true → has (strip_word (strip h set a f) (only q)) b ≡ true
  bit_is_kept bit =
      let s = over_from (is_below h (only q)) b h l.sorted bit in
      elim (is_below h set s.place) as (λ x. is_below h set s.place ≡ x → has (strip_word (strip h set a f) (only q)) b ≡ true) [
        | true ↦ λ inside. bit_passes s.place s.within inside (over_has (is_below h (only s.place)) b h s.place s.held s.is (or_left _ _ (same_self s.place)) s.bit)
        | false ↦ λ out. bit_stays s.place s.held s.is s.within out (or_left _ _ s.bit)
      ] refl

-- a strip of pages from which q derives returns all that a strip of q would
pub bit_is_answered : (h : Holdings) → IsLawful h → (set : PlaceSet) (q : Place) (b : Access) → is_below h set q ≡ true → has (strip_word h (only q)) b ≡ true → has (strip_word h set) b ≡ true
bit_is_answered h l set q b below bit =
    let s = over_from (is_below h (only q)) b h l.sorted bit in
    let inside = below_within h l (only q) set (λ x same. subst (λ y. is_below h set y ≡ true) (same_is q x same) below) s.place s.within in
    over_has (is_below h set) b h s.place s.held s.is inside s.bit

none_lost : (h : Holdings) → IsLawful h → (rs : List Removal) (q : Place) (b : Access) → has (strip_word h (only q)) b ≡ true
    → IsAnswered h rs q b ⊎ (has (strip_word (after_removals h rs) (only q)) b ≡ true)
none_lost h l [] q b bit = inr bit
none_lost h l (r ∷ rs) q b bit =
    by (is_below h r.set q) refl (λ kept. none_lost (after_removal h r) (lawful_strip h r.set r.rights r.flush l) rs q b kept)
  where
    later : IsAnswered (after_removal h r) rs q b ⊎ (has (strip_word (after_removals h (r ∷ rs)) (only q)) b ≡ true)
        → IsAnswered h (r ∷ rs) q b ⊎ (has (strip_word (after_removals h (r ∷ rs)) (only q)) b ≡ true)
    later (inl answered) = inl (inr answered)
    later (inr now) = inr now

    by : (x : Bool) → is_below h r.set q ≡ x
        → (has (strip_word (after_removal h r) (only q)) b ≡ true → IsAnswered (after_removal h r) rs q b ⊎ (has (strip_word (after_removals h (r ∷ rs)) (only q)) b ≡ true))
        → IsAnswered h (r ∷ rs) q b ⊎ (has (strip_word (after_removals h (r ∷ rs)) (only q)) b ≡ true)
    by true below rest = inl (inl (below_leads h l r.set q below, bit_is_answered h l r.set q b below bit))
    by false outside rest = later (rest (bit_is_kept h l r.set r.rights r.flush q b outside bit))

pub no_bit_is_lost : NoBitIsLost
no_bit_is_lost h lawful rs p m b held bit q chain =
    let l = lawful_parts h lawful in
    none_lost h l rs q b (over_has (is_below h (only q)) b h p m held (leads_below h l (only q) p chain) bit)
