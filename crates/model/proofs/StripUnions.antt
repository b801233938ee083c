-- To strip one set and then another is to strip both at once, and the words join; only held places count.
use Rattle.std.proofs.Common.{◌≡◌, true, false, Bool, ◌&&◌, ◌||◌, Some, refl, sym, ap, ◌∙◌, subst, arith, ◌⊎◌, inl, inr, if◌then◌else◌}
use Rattle.std.proofs.lemmas.Bool.{or_cases, or_left, or_right, false_from_ne_true}
use Rattle.fpage.specs.Rights.{no_rights, join, has}
use Rattle.fpage.specs.declared.rights.Rights.{Rights}
use Rattle.fpage.specs.declared.rights.Access.{Access}
use Rattle.space.specs.declared.place.Place.{Place}
use Rattle.model.specs.Definitions.Holdings.{Held, Holdings, PlaceSet, only, at, is_held, origin_at}
use Rattle.model.specs.Definitions.Derived.{is_below}
use Rattle.model.specs.Definitions.Strip.{is_narrowed, left_of, stripped, strip_word, passed_to, strip}
use Rattle.space.proofs.Places.{same_is, same_self}
use Rattle.fpage.proofs.RightSets.{has-join, has-none, same_elements, nothing_from, join_nothing, join_assoc}
use Rattle.model.proofs.Lookups.{same_each, each_kept}
use Rattle.model.proofs.LawfulParts.{IsLawful}
use Rattle.model.proofs.Chains.{along, held_with_origin, in_below, below_from, below_cases, below-union, below_trans, below_origin, under_same, below_same}
use Rattle.model.proofs.StatusSums.{HasStatus, word_has, word_from, Passes, passed_has, passed_from}
use Rattle.model.proofs.StripAt.{stripping, lawful_strip, strip_below, was_stripped, is_stripped}
use Rattle.model.proofs.Narrowings.{either, narrowed_to, not_narrowed, narrowing-either}

or_rest : (x y : Bool) → (x || y) ≡ true → x ≡ false → y ≡ true
or_rest x y one not_x = grind arith

-- the words of two sets in turn join, if below the second set no status bit comes up, and none outside the first is lost
pub words_join : (h k : Holdings) → IsLawful h → IsLawful k → (X Y : PlaceSet) → ((b : Access) → HasStatus k (is_below k Y) b → HasStatus h (is_below h Y) b)
    → ((b : Access) (s : HasStatus h (is_below h Y) b) → is_below h X s.place ≡ false → HasStatus k (is_below k Y) b) → join (strip_word h X) (strip_word k Y) ≡ strip_word h (either X Y)
words_join h k l lk X Y had stays = same_elements _ _
    (λ b bit. there b (or_cases (has (strip_word h X) b) (has (strip_word k Y) b) (sym (has-join _ _ b) ∙ bit)))
    (λ b bit. let s = word_from h l.sorted (either X Y) b bit in has-join _ _ b ∙ back b s (is_below h X s.place) refl)
  where
    there : (b : Access) → (has (strip_word h X) b ≡ true) ⊎ (has (strip_word k Y) b ≡ true) → has (strip_word h (either X Y)) b ≡ true
    there b (inl bit) = let s = word_from h l.sorted X b bit in word_has s (either X Y) (below-union h l X Y s.place ∙ or_left _ _ s.within)
    there b (inr bit) = let s = had b (word_from k lk.sorted Y b bit) in word_has s (either X Y) (below-union h l X Y s.place ∙ or_right _ _ s.within)

    back : (b : Access) (s : HasStatus h (is_below h (either X Y)) b) (x : Bool) → is_below h X s.place ≡ x → (has (strip_word h X) b || has (strip_word k Y) b) ≡ true
    back b s true inside = or_left _ _ (word_has s X inside)
    back b s false outside =
        let below = or_rest _ _ (sym (below-union h l X Y s.place) ∙ s.within) outside in
        let t = stays b (record { place = s.place; held = s.held; is = s.is; within = below; bit = s.bit }) outside in
        or_right _ _ (word_has t Y t.within)

module _ (h : Holdings) (l : IsLawful h) (X : PlaceSet) (a : Rights) (f : Bool) where
  -- ---- status after the first

  -- what is left by the first
  abbrev after : Holdings
  after = strip h X a f

  lawful_after : IsLawful after
  lawful_after = lawful_strip h X a f l

  -- what has a status bit after strip lies outside the set, above something that had the bit
  record HadStatus (q : Place) (b : Access) : Type 0 where
    outside : is_below h X q ≡ false
    from : HasStatus h (is_below h (only q)) b

  had_status : (q : Place) (k : Held) (b : Access) → at after q ≡ Some k → has k.status b ≡ true → HadStatus q b
  had_status q k b is bit =
      let w = was_stripped h X a f l q k is in
      by w.before w.held (is_below h X q) refl (subst (λ x. has x.status b ≡ true) w.is bit)
    where
      of : (m : Held) → at h q ≡ Some m → (has m.status b ≡ true) ⊎ (has (passed_to h X q) b ≡ true) → HasStatus h (is_below h (only q)) b
      of m held (inl own) = record { place = q; held = m; is = held; within = in_below h l (only q) q (same_self q); bit = own }
      of m held (inr passed) =
          let c = passed_from h X q b l.sorted passed in
          let s = word_from h l.sorted (only c.place) b c.bit in
          record { place = s.place; held = s.held; is = s.is; within = below_origin h l c.place q s.place (rw (c.is) (c.origin)) s.within; bit = s.bit }

      by : (m : Held) → at h q ≡ Some m → (x : Bool) → is_below h X q ≡ x → has (if x then no_rights else join m.status (passed_to h X q)) b ≡ true → HadStatus q b
      by m held true below bit = absurd (cc (bit, has-none b))
      by m held false outside bit = record { outside = outside; from = of m held (or_cases (has m.status b) (has (passed_to h X q) b) (sym (has-join m.status (passed_to h X q) b) ∙ bit)) }

  -- what lies outside the set is kept
  kept_outside : (o : Place) (n : Held) → at h o ≡ Some n → is_below h X o ≡ false → at after o ≡ Some (stripped h X a f o n)
  kept_outside o n held outside = is_stripped h X a f l o n held (rw (not_narrowed h X f o outside) refl)

  -- and is still below what it was below
  below_outside : (Z : PlaceSet) (o : Place) (n : Held) → at h o ≡ Some n → is_below h X o ≡ false → is_below h Z o ≡ true → is_below after Z o ≡ true
  below_outside Z o n held outside below = strip_below h X a f l Z o (rw (kept_outside o n held outside) refl) ∙ below

  -- and has the status bits that it had and that it is passed
  has_outside : (Z : PlaceSet) (o : Place) (n : Held) (b : Access) → at h o ≡ Some n → is_below h X o ≡ false → is_below h Z o ≡ true
      → (has n.status b ≡ true) ⊎ (has (passed_to h X o) b ≡ true) → HasStatus after (is_below after Z) b
  has_outside Z o n b held outside below bit = record {
    place = o;
    held = stripped h X a f o n;
    is = kept_outside o n held outside;
    within = below_outside Z o n held outside below;
    bit = rw outside (has-join n.status (passed_to h X o) b ∙ one bit);
  }
    where
      one : (has n.status b ≡ true) ⊎ (has (passed_to h X o) b ≡ true) → (has n.status b || has (passed_to h X o) b) ≡ true
      one (inl own) = or_left _ _ own
      one (inr passed) = or_right _ _ passed

  -- what is above a place outside the set is outside too
  above_outside : (z q : Place) → is_below h X q ≡ false → is_below h (only z) q ≡ true → is_below h X z ≡ false
  above_outside z q outside above = false_from_ne_true (is_below h X z) (λ inside. cc (outside, below_trans h l X z q inside above))

  -- if a place above the bit has it or is passed it, then it is still below the other set after strip
  abbrev Stays : (Z : PlaceSet) (b : Access) → HasStatus h (is_below h Z) b → Place → Type 0
  Stays Z b s q = (n : Held) → at h q ≡ Some n → is_below h Z q ≡ true → is_below h (only q) s.place ≡ true → (has n.status b ≡ true) ⊎ (has (passed_to h X q) b ≡ true)
      → HasStatus after (is_below after Z) b

  -- a status bit below another set stays below it, if what is of the other and above the bit is outside the first
  stays_below : (Z : PlaceSet) (b : Access) (s : HasStatus h (is_below h Z) b) → ((z : Place) → Z z ≡ true → is_below h (only z) s.place ≡ true → is_below h X z ≡ false)
      → HasStatus after (is_below after Z) b
  stays_below Z b s outside =
      along h l (Stays Z b s) (λ q ih n held below above bit. first q ih n held below above bit (is_below h X q) refl)
      s.place s.held s.is s.within (in_below h l (only s.place) s.place (same_self s.place)) (inl s.bit)
    where
      to_origin : (q : Place) → ((o : Place) → origin_at h q ≡ Some o → Stays Z b s o) → is_below h X q ≡ true → is_below h (only q) s.place ≡ true
          → (Z q ≡ true) ⊎ ((o : Place) × (origin_at h q ≡ Some o) × (is_below h Z o ≡ true)) → HasStatus after (is_below after Z) b
      to_origin q ih inside above (inl is) = absurd (cc (inside, outside q is above))
      to_origin q ih inside above (inr (o, is, o_below)) =
          let k = held_with_origin h q o is in
          let n = l.origin q o k.0 k.1 k.2 in
          ih o is n.held n.is o_below (below_origin h l q o s.place is above) (inr (passed_has h X o b q k.0 k.1 k.2 inside (word_has s (only q) above)))

      first : (q : Place) → ((o : Place) → origin_at h q ≡ Some o → Stays Z b s o) → (n : Held) → at h q ≡ Some n → is_below h Z q ≡ true → is_below h (only q) s.place ≡ true
          → (has n.status b ≡ true) ⊎ (has (passed_to h X q) b ≡ true) → (x : Bool) → is_below h X q ≡ x → HasStatus after (is_below after Z) b
      first q ih n held below above bit true q_in = to_origin q ih q_in above (below_cases h l Z q below)
      first q ih n held below above bit false q_out = has_outside Z q n b held q_out below bit

  -- what has a status bit after strip, below a set, has below it, in the set, something that had the bit
  had_below : (Z : PlaceSet) (b : Access) (s : HasStatus after (is_below after Z) b) → HasStatus h (is_below h Z) b
  had_below Z b s =
      let had = had_status s.place s.held b s.is s.bit in
      let below = sym (strip_below h X a f l Z s.place (rw (s.is) refl)) ∙ s.within in
      let from = had.from in
      record { place = from.place; held = from.held; is = from.is; within = below_trans h l Z s.place from.place below from.within; bit = from.bit }

  -- ---- the words

  module _ (Y : PlaceSet) where
    -- the words of the two join to the word of both
    pub word-union : join (strip_word h X) (strip_word (strip h X a f) Y) ≡ strip_word h (either X Y)
    word-union = words_join h after l lawful_after X Y (had_below Y) (λ b s outside. stays_below Y b s (λ z _ above. above_outside z s.place outside above))

    -- ---- what is passed

    -- what the two pass joins to what both pass
    passed-union : (p : Place) → join (passed_to h X p) (passed_to after Y p) ≡ passed_to h (either X Y) p
    passed-union p = same_elements _ _
        (λ b bit. there b (or_cases (has (passed_to h X p) b) (has (passed_to after Y p) b) (sym (has-join _ _ b) ∙ bit)))
        (λ b bit. let c = passed_from h (either X Y) p b l.sorted bit in has-join _ _ b ∙ back b c (is_below h X c.place) refl)
      where
        there : (b : Access) → (has (passed_to h X p) b ≡ true) ⊎ (has (passed_to after Y p) b ≡ true) → has (passed_to h (either X Y) p) b ≡ true
        there b (inl bit) =
            let c = passed_from h X p b l.sorted bit in
            passed_has h (either X Y) p b c.place c.held c.is c.origin (below-union h l X Y c.place ∙ or_left _ _ c.below) c.bit
        there b (inr bit) =
            let c = passed_from after Y p b lawful_after.sorted bit in
            let w = was_stripped h X a f l c.place c.held c.is in
            let below = sym (strip_below h X a f l Y c.place (rw (c.is) refl)) ∙ c.below in
            let s = had_below (only c.place) b (word_from after lawful_after.sorted (only c.place) b c.bit) in
            passed_has h (either X Y) p b c.place w.before w.held (sym (ap (λ k. k.origin) w.is) ∙ c.origin) (below-union h l X Y c.place ∙ or_right _ _ below)
            (word_has s (only c.place) s.within)

        back : (b : Access) (c : Passes h h (either X Y) p b) (x : Bool) → is_below h X c.place ≡ x → (has (passed_to h X p) b || has (passed_to after Y p) b) ≡ true
        back b c true inside = or_left _ _ (passed_has h X p b c.place c.held c.is c.origin inside c.bit)
        back b c false outside =
            let below : is_below h Y c.place ≡ true = or_rest _ _ (sym (below-union h l X Y c.place) ∙ c.below) outside in
            let s = word_from h l.sorted (only c.place) b c.bit in
            let k = stays_below (only c.place) b s (λ z same _. subst (λ y. is_below h X y ≡ false) (same_is c.place z same) outside) in
            or_right _ _ (passed_has after Y p b c.place (stripped h X a f c.place c.held) (kept_outside c.place c.held c.is outside) c.origin
            (below_outside Y c.place c.held c.is outside below) (word_has k (only c.place) k.within))

    -- what lies below the first set is passed nothing by the second
    passed_inside : (p : Place) → is_below h X p ≡ true → passed_to after Y p ≡ no_rights
    passed_inside p inside = nothing_from _ (λ b bit.
        let c = passed_from after Y p b lawful_after.sorted bit in
        let w = was_stripped h X a f l c.place c.held c.is in
        let c_in : is_below h X c.place ≡ true = below_from h l X c.place p (rw (w.held) (sym (ap (λ k. k.origin) w.is) ∙ c.origin)) inside in
        let s = word_from after lawful_after.sorted (only c.place) b c.bit in
        let s_below = sym (strip_below h X a f l (only c.place) s.place (rw (s.is) refl)) ∙ s.within in
        cc ((had_status s.place s.held b s.is s.bit).outside, below_trans h l X c.place s.place c_in s_below))

    -- the status that the two give in turn
    both_status : (p : Place) (m : Held) (x y : Bool) → is_below h X p ≡ x
        → (if y then no_rights else join (if x then no_rights else join m.status (passed_to h X p)) (passed_to after Y p)) ≡ (if x || y then no_rights else join m.status (passed_to h (either X Y) p))
    both_status p m true true inside = refl
    both_status p m false true outside = refl
    both_status p m true false inside = rw (passed_inside p inside) refl
    both_status p m false false outside = join_assoc m.status (passed_to h X p) (passed_to after Y p) ∙ ap (join m.status) (passed-union p)

    -- to strip one set and then another is to strip both
    pub strip-union : strip (strip h X a f) Y a f ≡ strip h (either X Y) a f
    strip-union = narrowing-either h l X Y a f _ _ _ (λ p m is stays.
        rw (strip_below h X a f l Y p (rw stays refl), below-union h l X Y p) (both_status p m (is_below h X p) (is_below h Y p) refl))

-- ---- only held places count

module _ (h : Holdings) (l : IsLawful h) (X Y : PlaceSet) where
  -- where what is below one set is below another, so is what its word and what it passes come from
  word_within : ((p : Place) → is_held h p ≡ true → is_below h X p ≡ true → is_below h Y p ≡ true) → (b : Access) → has (strip_word h X) b ≡ true → has (strip_word h Y) b ≡ true
  word_within inside b bit = let s = word_from h l.sorted X b bit in word_has s Y (inside s.place (rw (s.is) refl) s.within)

  passed_within : ((p : Place) → is_held h p ≡ true → is_below h X p ≡ true → is_below h Y p ≡ true) → (p : Place) (b : Access) → has (passed_to h X p) b ≡ true → has (passed_to h Y p) b ≡ true
  passed_within inside p b bit = let c = passed_from h X p b l.sorted bit in passed_has h Y p b c.place c.held c.is c.origin (inside c.place (rw (c.is) refl) c.below) c.bit

module _ (h : Holdings) (l : IsLawful h) (X Y : PlaceSet) (same : (p : Place) → is_held h p ≡ true → X p ≡ Y p) where
  below_there : (p : Place) → is_held h p ≡ true → is_below h X p ≡ true → is_below h Y p ≡ true
  below_there p held below = sym (below_same h l X Y same p held) ∙ below

  below_back : (p : Place) → is_held h p ≡ true → is_below h Y p ≡ true → is_below h X p ≡ true
  below_back p held below = below_same h l X Y same p held ∙ below

  -- sets that have the same held places have the same word
  pub word_same : strip_word h X ≡ strip_word h Y
  word_same = same_elements _ _ (word_within h l X Y below_there) (word_within h l Y X below_back)

  passed_same : (p : Place) → passed_to h X p ≡ passed_to h Y p
  passed_same p = same_elements _ _ (passed_within h l X Y below_there p) (passed_within h l Y X below_back p)

  -- and to strip them is the same
  pub strip_same : (a : Rights) (f : Bool) → strip h X a f ≡ strip h Y a f
  strip_same a f = same_each _ _ h l.sorted (λ p m is. by p m (rw is refl))
    where
      narrowed : (p : Place) → is_held h p ≡ true → is_narrowed h X f p ≡ is_narrowed h Y f p
      narrowed p held = λ i. under_same h l X Y same p held i || (f && same p held i)

      by : (p : Place) (m : Held) → is_held h p ≡ true → stripping h X a f p m ≡ stripping h Y a f p m
      by p m held = λ i. left_of (narrowed p held i) (narrowed_to (narrowed p held i) a m (if below_same h l X Y same p held i then no_rights else join m.status (passed_same p i)))

-- where two sets have the same below them, and narrow the same
module _ (h : Holdings) (l : IsLawful h) (X Y : PlaceSet) (below : (p : Place) → is_held h p ≡ true → is_below h X p ≡ is_below h Y p) where
  -- they have the same word
  pub word_alike : strip_word h X ≡ strip_word h Y
  word_alike = same_elements _ _ (word_within h l X Y (λ p held is. sym (below p held) ∙ is)) (word_within h l Y X (λ p held is. below p held ∙ is))

  passed_alike : (p : Place) → passed_to h X p ≡ passed_to h Y p
  passed_alike p = same_elements _ _ (passed_within h l X Y (λ q held is. sym (below q held) ∙ is) p) (passed_within h l Y X (λ q held is. below q held ∙ is) p)

  -- and to strip them is the same
  pub strip_alike : (a : Rights) (f : Bool) → ((p : Place) → is_held h p ≡ true → is_narrowed h X f p ≡ is_narrowed h Y f p) → strip h X a f ≡ strip h Y a f
  strip_alike a f narrowed = same_each _ _ h l.sorted (λ p m is. by p m (rw is refl))
    where
      by : (p : Place) (m : Held) → is_held h p ≡ true → stripping h X a f p m ≡ stripping h Y a f p m
      by p m held = λ i. left_of (narrowed p held i) (narrowed_to (narrowed p held i) a m (if below p held i then no_rights else join m.status (passed_alike p i)))

-- where nothing is below the set there is no word
pub word_nothing : (h : Holdings) (set : PlaceSet) → IsLawful h → ((p : Place) → is_held h p ≡ true → is_below h set p ≡ false) → strip_word h set ≡ no_rights
word_nothing h set l nothing = nothing_from (strip_word h set) (λ b bit. let s = word_from h l.sorted set b bit in cc (s.within, nothing s.place (rw (s.is) refl)))

-- and to strip it changes nothing
pub strip_nothing : (h : Holdings) → IsLawful h → (set : PlaceSet) (a : Rights) (f : Bool) → ((p : Place) → is_held h p ≡ true → is_below h set p ≡ false) → strip h set a f ≡ h
strip_nothing h l set a f nothing = each_kept (stripping h set a f) h l.sorted (λ p m is.
    let outside = nothing p (rw is refl) in
    rw (not_narrowed h set f p outside, outside, none p, join_nothing m.status) refl)
  where
    none : (p : Place) → passed_to h set p ≡ no_rights
    none p = nothing_from (passed_to h set p) (λ b bit. let c = passed_from h set p b l.sorted bit in cc (c.below, nothing c.place (rw (c.is) refl)))
