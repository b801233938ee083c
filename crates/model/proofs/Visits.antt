-- The visit of a place takes the status below it, and clears and narrows what is below it.
use Rattle.std.proofs.Common.{◌≡◌, ℕ, zero, suc, ◌+◌, true, false, Bool, ◌&&◌, ◌||◌, cond, List, [], ◌∷◌, filter, length, Option, Some, None, refl, sym, ap, ◌∙◌, subst, arith, ◌⊎◌, inl, inr, if◌then◌else◌}
use Rattle.std.proofs.Math.Bool.{and-true, and-false, or-false}
use Rattle.std.specs.FinMap.Entries.{below_all, is_sorted}
use Rattle.std.specs.Option.{is_some, option_and_then, option_map_or}
use Rattle.std.proofs.lemmas.Bool.{and_parts, or_cases, or_left, or_right, false_from_ne_true}
use Rattle.fpage.specs.Rights.{no_rights, join, has}
use Rattle.fpage.specs.declared.rights.Rights.{Rights}
use Rattle.fpage.specs.declared.rights.Access.{Access}
use Rattle.space.specs.declared.place.Place.{Place}
use Rattle.space.specs.Place.{place_cmp, same_place}
use Rattle.model.specs.Definitions.Holdings.{Held, Holdings, PlaceSet, only, at, is_held, origin_at, derives_from, each, places}
use Rattle.model.specs.Definitions.Derived.{is_under, is_below}
use Rattle.model.specs.Definitions.Lawful.{ends}
use Rattle.model.specs.Definitions.Strip.{is_narrowed, rights_left, left_of, strip_word}
use Rattle.model.specs.Definitions.Recursion.{Visited, joined, in_turn, children, taken, visit}
use Rattle.space.proofs.Places.{same_is, same_self, same_or_apart, apart_back}
use Rattle.fpage.proofs.RightSets.{has-join, has-none, same_elements}
use Rattle.model.proofs.Lookups.{Sorted, below_absent, changed, at_each, each_twice}
use Rattle.model.proofs.LawfulParts.{IsLawful}
use Rattle.model.proofs.Chains.{under_below, chain_ends, along, held_with_origin, in_below, under_self, below_unheld, below_empty}
use Rattle.model.proofs.ChainLengths.{ends_within_length}
use Rattle.model.proofs.EvenChanges.{IsEven, same_origin}
use Rattle.model.proofs.StatusSums.{HasStatus, over_has, word_has, word_from}
use Rattle.model.proofs.StripUnions.{word_nothing}
use Rattle.model.proofs.Narrowings.{either, narrowed_to, narrowing_even}
use Rattle.model.proofs.Clearings.{cleared_status, clearing, clear, clearing_outside, clear_nothing, lawful_clear, clear-union, clear_word-union}

-- what a test of the origin says
pub origin_from_test : (p : Place) (o : Option Place) → option_map_or (same_place p) o false ≡ true → o ≡ Some p
origin_from_test p None test = absurd (cc test)
origin_from_test p (Some o) test = ap Some (sym (same_is p o test))

-- ---- lists of places

-- the places of a list
abbrev pub among : List Place → PlaceSet
among [] q = false
among (p ∷ ps) q = either (only p) (among ps) q

module _ (test : Place × Held → Bool) where
  -- of the mappings that pass a test, the places are those that hold such a mapping
  pub among_passing : (h : Holdings) → Sorted h → (q : Place) → among (places (filter test h)) q ≡ option_map_or (λ m. test (q, m)) (at h q) false
  among_passing [] sorted q = refl
  among_passing (e ∷ h) sorted q =
      let parts = and_parts (below_all place_cmp e.0 h) (is_sorted place_cmp h) sorted in
      by (same_or_apart e.0 q) (test e) refl (among_passing h parts.1 q)
    where
      absent : at h e.0 ≡ None
      absent = below_absent e.0 h (and_parts (below_all place_cmp e.0 h) (is_sorted place_cmp h) sorted).0

      by : (e.0 ≡ q) ⊎ (same_place e.0 q ≡ false) → (x : Bool) → test e ≡ x → among (places (filter test h)) q ≡ option_map_or (λ m. test (q, m)) (at h q) false
          → among (places (cond x (e ∷ filter test h) (filter test h))) q ≡ option_map_or (λ m. test (q, m)) (at (e ∷ h) q) false
      by (inl same) true passes rest = rw (← same, same_self e.0, passes) refl
      by (inl same) false fails rest =
          let here : option_map_or (λ m. test (q, m)) (at (e ∷ h) q) false ≡ false = rw (← same, same_self e.0) fails in
          rest ∙ ap (λ o. option_map_or (λ m. test (q, m)) o false) (subst (λ y. at h y ≡ None) same absent) ∙ sym here
      by (inr apart) true passes rest = rw (apart, apart_back e.0 q apart) rest
      by (inr apart) false fails rest = rw (apart_back e.0 q apart) rest

-- a filter of places is a filter of mappings
pub filter-places : (set : PlaceSet) (h : Holdings) → filter set (places h) ≡ places (filter (λ e. set e.0) h)
filter-places set [] = refl
filter-places set (e ∷ h) = by (set e.0) (filter-places set h)
  where
    by : (x : Bool) → filter set (places h) ≡ places (filter (λ d. set d.0) h) → cond x (e.0 ∷ filter set (places h)) (filter set (places h)) ≡ places (cond x (e ∷ filter (λ d. set d.0) h) (filter (λ d. set d.0) h))
    by true rest = ap (λ ps. e.0 ∷ ps) rest
    by false rest = rest

-- ---- enough fuel

-- chains of mappings that derive from the place, each from the one before, have at most n places with the place itself
abbrev pub IsEnough : ℕ → Holdings → Place → Type 0
IsEnough zero h p = is_held h p ≡ false
IsEnough (suc n) h p = (c : Place) → origin_at h c ≡ Some p → IsEnough n h c

-- it stays enough
pub enough_each : (h : Holdings) (change : Place → Held → Option Held) → IsLawful h → IsEven h change → (n : ℕ) (p : Place) → IsEnough n h p → IsEnough n (each change h) p
enough_each h change l e zero p unheld = ap is_some (at_each change h p l.sorted) ∙ by (at h p) unheld
  where
    by : (m : Option Held) → is_some m ≡ false → is_some (changed change p m) ≡ false
    by None none = refl
    by (Some m) none = absurd (cc none)
enough_each h change l e (suc n) p enough = λ c is.
    let k = held_with_origin (each change h) c p is in
    enough_each h change l e n c (enough c (sym (same_origin h change l e c (rw (k.1) refl)) ∙ is))

module _ (h : Holdings) (l : IsLawful h) where
  -- enough is left where a chain from the place does not end within what was used
  enough_from : (n j : ℕ) (p : Place) → j + n ≡ length h → ends j h (Some p) ≡ false → IsEnough n h p
  enough_from zero j p sum long = false_from_ne_true (is_held h p) (λ held. cc (long, subst (λ x. ends x h (Some p) ≡ true) whole (all_end (at h p) refl held)))
    where
      whole : length h ≡ j
      whole = omega arith

      all_end : (m : Option Held) → at h p ≡ m → is_some m ≡ true → ends (length h) h (Some p) ≡ true
      all_end None is held = absurd (cc held)
      all_end (Some m) is held =
          ends_within_length h (λ q o k is from. let origin = l.origin q o k is from in (origin.held, origin.is)) (suc (length h)) (Some p)
          (λ q same. (m, sym (ap (option_and_then (at h)) same) ∙ is)) (chain_ends h l p)
  enough_from (suc n) j p sum long = λ c is. enough_from n (suc j) c (omega arith) (ap (ends j h) is ∙ long)

  -- as many as there are mappings is enough
  pub enough_length : (p : Place) → IsEnough (length h) h p
  enough_length p = enough_from (length h) 0 p (omega arith) refl

-- ---- the visit of a place

-- what a visit is to give
abbrev pub cleared : Holdings → PlaceSet → Rights → Bool → Visited
cleared h set a f = record { word = strip_word h set; left = clear h set a f }

-- where nothing is below the set that is nothing
pub cleared_nothing : (h : Holdings) → IsLawful h → (set : PlaceSet) (a : Rights) (f : Bool) → ((p : Place) → is_held h p ≡ true → is_below h set p ≡ false)
    → record { word = no_rights; left = h } ≡ cleared h set a f
cleared_nothing h l set a f nothing = λ i. record { word = sym (word_nothing h set l nothing) i; left = sym (clear_nothing h set a f l nothing) i }

module _ (h : Holdings) (l : IsLawful h) (p : Place) where
  -- the children of the place
  abbrev derived : PlaceSet
  derived = among (children h p)

  -- a place is among the children where its origin is the place
  among_children : (q : Place) → derived q ≡ option_map_or (same_place p) (origin_at h q) false
  among_children q = among_passing (λ e. derives_from p e.1) h l.sorted q ∙ by (at h q)
    where
      by : (m : Option Held) → option_map_or (λ m. derives_from p m) m false ≡ option_map_or (same_place p) (option_and_then (λ m. m.origin) m) false
      by None = refl
      by (Some m) = refl

  origin_of_child : (c : Place) → derived c ≡ true → origin_at h c ≡ Some p
  origin_of_child c is = origin_from_test p (origin_at h c) (sym (among_children c) ∙ is)

  -- what is below the children is under the place
  below_children : (q : Place) → is_below h derived q ≡ is_under h (only p) q
  below_children = along h l (λ q. is_below h derived q ≡ is_under h (only p) q) (λ q ih. by q (origin_at h q) refl ih)
    where
      by : (q : Place) (o : Option Place) → origin_at h q ≡ o → ((r : Place) → o ≡ Some r → is_below h derived r ≡ is_under h (only p) r)
          → is_below h derived q ≡ is_under h (only p) q
      by q None is ih = rw (among_children q, under_below h l derived q, under_below h l (only p) q, is) refl
      by q (Some o) is ih = rw (among_children q, under_below h l derived q, under_below h l (only p) q, is) (ap (λ x. same_place p o || x) (ih o refl))

  module _ (a : Rights) (narrows : Bool) where
    -- the holdings that the children's visits leave
    abbrev children_left : Holdings
    children_left = clear h derived a true

    still_at : at children_left p ≡ at h p
    still_at = at_each (clearing h derived a true) h p l.sorted ∙ by (at h p)
      where
        by : (m : Option Held) → changed (clearing h derived a true) p m ≡ m
        by None = refl
        by (Some m) = clearing_outside h derived a true p m (below_children p ∙ under_self h l p)

    -- the status of the place joins to the word of the children's visits
    word_with_own : join (strip_word h derived) (option_map_or (λ m. m.status) (at children_left p) no_rights) ≡ strip_word h (only p)
    word_with_own = rw still_at (same_elements (join (strip_word h derived) own) (strip_word h (only p))
        (λ b bit. there b (or_cases (has (strip_word h derived) b) (has own b) (sym (has-join (strip_word h derived) own b) ∙ bit)))
        (λ b bit. has-join (strip_word h derived) own b ∙ back b (word_from h l.sorted (only p) b bit)))
      where
        own : Rights
        own = option_map_or (λ m. m.status) (at h p) no_rights

        of_own : (b : Access) (m : Option Held) → at h p ≡ m → has (option_map_or (λ m. m.status) m no_rights) b ≡ true → has (strip_word h (only p)) b ≡ true
        of_own b None is bit = absurd (cc (bit, has-none b))
        of_own b (Some m) is bit = over_has (is_below h (only p)) b h p m is (in_below h l (only p) p (same_self p)) bit

        there : (b : Access) → (has (strip_word h derived) b ≡ true) ⊎ (has own b ≡ true) → has (strip_word h (only p)) b ≡ true
        there b (inl bit) =
            let s = word_from h l.sorted derived b bit in
            word_has s (only p) (or_right _ _ (sym (below_children s.place) ∙ s.within))
        there b (inr bit) = of_own b (at h p) refl bit

        back : (b : Access) → HasStatus h (is_below h (only p)) b → (has (strip_word h derived) b || has own b) ≡ true
        back b s = by (or_cases (same_place p s.place) (is_under h (only p) s.place) s.within)
          where
            by : (same_place p s.place ≡ true) ⊎ (is_under h (only p) s.place ≡ true) → (has (strip_word h derived) b || has own b) ≡ true
            by (inl same) =
                let here : at h p ≡ Some s.held = subst (λ q. at h q ≡ Some s.held) (sym (same_is p s.place same)) s.is in
                or_right (has (strip_word h derived) b) (has own b) (ap (λ m. has (option_map_or (λ m. m.status) m no_rights) b) here ∙ s.bit)
            by (inr under) = or_left _ _ (word_has s derived (below_children s.place ∙ under))

    -- and to take the place from what they leave is to clear what is below it
    left_with_own : (taken a narrows p children_left).left ≡ clear h (only p) a narrows
    left_with_own = each_twice _ _ _ h l.sorted (λ q m is. by q m (same_or_apart p q))
      where
        own : Place → Held → Option Held
        own q m = if same_place p q then left_of narrows (record m { rights = rights_left narrows a m.rights; status = no_rights }) else Some m

        self : (m : Held) → changed own p (clearing h derived a true p m) ≡ clearing h (only p) a narrows p m
        self m = rw (clearing_outside h derived a true p m (below_children p ∙ under_self h l p), same_self p, under_self h l p, and-true narrows) refl

        other : (q : Place) (m : Held) → same_place p q ≡ false → (k : Option Held) → changed own q k ≡ k
        other q m apart None = refl
        other q m apart (Some k) = rw apart refl

        flipped : (x y : Bool) → (x || (true && y)) ≡ (y || x)
        flipped x y = grind arith

        narrowed_apart : (q : Place) → same_place p q ≡ false → is_narrowed h derived true q ≡ is_narrowed h (only p) narrows q
        narrowed_apart q apart =
            flipped (is_under h derived q) (derived q) ∙ below_children q ∙ rw (apart, and-false narrows, or-false (is_under h (only p) q)) refl

        below_apart : (q : Place) → same_place p q ≡ false → is_below h derived q ≡ is_below h (only p) q
        below_apart q apart = below_children q ∙ rw apart refl

        by : (q : Place) (m : Held) → (p ≡ q) ⊎ (same_place p q ≡ false) → changed own q (clearing h derived a true q m) ≡ clearing h (only p) a narrows q m
        by q m (inl same) = subst (λ r. changed own r (clearing h derived a true r m) ≡ clearing h (only p) a narrows r m) same (self m)
        by q m (inr apart) = other q m apart (clearing h derived a true q m)
            ∙ (λ i. left_of (narrowed_apart q apart i) (narrowed_to (narrowed_apart q apart i) a m (if below_apart q apart i then no_rights else m.status)))

-- ---- visits in turn

-- what is shown of a visit, by the fuel
abbrev VisitClears : ℕ → Rights → Type 0
VisitClears n a = (h : Holdings) → IsLawful h → (p : Place) → IsEnough n h p → visit n a true p h ≡ cleared h (only p) a true

-- then visits in turn clear what is below one of the places
visits_in_turn : (n : ℕ) (a : Rights) → VisitClears n a → (ps : List Place) (h : Holdings) → IsLawful h → ((q : Place) → among ps q ≡ true → IsEnough n h q)
    → in_turn (visit n a true) ps h ≡ cleared h (among ps) a true
visits_in_turn n a clears [] h l enough = cleared_nothing h l (among []) a true (λ q _. below_empty h l (among []) (λ r. refl) q)
visits_in_turn n a clears (p ∷ ps) h l enough =
    let still = enough_each h (clearing h (only p) a true) l (narrowing_even h (only p) a true (cleared_status h (only p)) l) n in
    ap (λ (v : Visited). joined v.word (in_turn (visit n a true) ps v.left)) (clears h l p (enough p (or_left (same_place p p) (among ps p) (same_self p))))
    ∙ ap (joined (strip_word h (only p))) (visits_in_turn n a clears ps (clear h (only p) a true) (lawful_clear h (only p) a true l) (λ q is. still q (enough q (or_right (same_place p q) (among ps q) is))))
    ∙ (λ i. record { word = clear_word-union h l (only p) (among ps) a true i; left = clear-union h l (only p) (among ps) a true i })

-- the visit of a place gives the word below it, and clears and narrows what is below it
pub visit_is : (n : ℕ) (a : Rights) (narrows : Bool) (h : Holdings) → IsLawful h → (p : Place) → IsEnough n h p → visit n a narrows p h ≡ cleared h (only p) a narrows
visit_is zero a narrows h l p unheld = cleared_nothing h l (only p) a narrows (below_unheld h l p unheld)
visit_is (suc n) a narrows h l p enough =
    ap (λ (v : Visited). joined v.word (taken a narrows p v.left)) (visits_in_turn n a (visit_is n a true) (children h p) h l (λ c is. enough c (origin_of_child h l p c is)))
    ∙ (λ i. record { word = word_with_own h l p a narrows i; left = left_with_own h l p a narrows i })
