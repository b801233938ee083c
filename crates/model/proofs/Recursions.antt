-- The recursion of Unmap over derived mappings gives what strip gives.
use Rattle.std.proofs.Common.{◌≡◌, ℕ, true, false, Bool, List, [], ◌∷◌, filter, length, Option, Some, None, refl, sym, ap, ◌∙◌, subst, ◌⊎◌, inl, inr, if◌then◌else◌}
use Rattle.std.specs.Option.{is_some, option_map_or}
use Rattle.std.proofs.lemmas.Bool.{false_from_ne_true}
use Rattle.fpage.specs.Rights.{no_rights, join, has}
use Rattle.fpage.specs.declared.rights.Rights.{Rights}
use Rattle.fpage.specs.declared.rights.Access.{Access}
use Rattle.space.specs.declared.place.Place.{Place}
use Rattle.space.specs.Place.{same_place}
use Rattle.model.specs.Definitions.Holdings.{Held, Holdings, PlaceSet, only, at, is_held, origin_at, each, places}
use Rattle.model.specs.Definitions.Derived.{is_below}
use Rattle.model.specs.Definitions.Strip.{strip_word, passed_to, strip}
use Rattle.model.specs.Definitions.Recursion.{Visited, joined, in_turn, visit, passed_up, visit_named, recur}
use Rattle.model.specs.Laws.RecursionLaws.{unmapped, RecursionIsStrip, StripsJoin}
use Rattle.space.proofs.Places.{same_is, same_self}
use Rattle.fpage.proofs.RightSets.{same_elements, nothing_from, join_nothing}
use Rattle.model.proofs.Lookups.{changed, each_twice}
use Rattle.model.proofs.LawfulParts.{IsLawful, lawful_parts}
use Rattle.model.proofs.Chains.{held_with_origin, in_below, under_from, below_cases, below_trans, under_self, below_unheld, below_empty}
use Rattle.model.proofs.StatusSums.{word_has, word_from, passed_has, passed_from}
use Rattle.model.proofs.StripAt.{stripping, strip_even, lawful_strip}
use Rattle.model.proofs.Narrowings.{not_narrowed}
use Rattle.model.proofs.StripUnions.{word-union, strip-union, word_same, strip_same, word_nothing, strip_nothing}
use Rattle.model.proofs.Clearings.{clearing, clear, clearing_outside}
use Rattle.model.proofs.Visits.{among, among_passing, filter-places, origin_from_test, IsEnough, enough_each, enough_length, cleared, visit_is}

module _ (h : Holdings) (l : IsLawful h) (p : Place) where
  -- ---- what is passed below one place

  -- the origin is passed the word
  passed_to_origin : (q : Place) → origin_at h p ≡ Some q → passed_to h (only p) q ≡ strip_word h (only p)
  passed_to_origin q is = same_elements _ _ there back
    where
      there : (b : Access) → has (passed_to h (only p) q) b ≡ true → has (strip_word h (only p)) b ≡ true
      there b bit =
          let c = passed_from h (only p) q b l.sorted bit in
          let s = word_from h l.sorted (only c.place) b c.bit in
          word_has s (only p) (below_trans h l (only p) c.place s.place c.below s.within)

      back : (b : Access) → has (strip_word h (only p)) b ≡ true → has (passed_to h (only p) q) b ≡ true
      back b bit = let m = held_with_origin h p q is in passed_has h (only p) q b p m.0 m.1 m.2 (in_below h l (only p) p (same_self p)) bit

  -- and no other place outside is passed anything
  passed_to_none : (q : Place) → option_map_or (same_place q) (origin_at h p) false ≡ false → is_below h (only p) q ≡ false → passed_to h (only p) q ≡ no_rights
  passed_to_none q other outside = nothing_from (passed_to h (only p) q) (λ b bit.
      let c = passed_from h (only p) q b l.sorted bit in
      let from : origin_at h c.place ≡ Some q = rw (c.is) (c.origin) in
      by c.place from (below_cases h l (only p) c.place c.below))
    where
      by : (c : Place) → origin_at h c ≡ Some q → (same_place p c ≡ true) ⊎ ((o : Place) × (origin_at h c ≡ Some o) × (is_below h (only p) o ≡ true)) → ⊥
      by c from (inl same) =
          let here : origin_at h p ≡ Some q = subst (λ y. origin_at h y ≡ Some q) (sym (same_is p c same)) from in
          cc (other, ap (λ o. option_map_or (same_place q) o false) here, same_self q)
      by c from (inr (o, is, below)) =
          let one : o ≡ q = cc (is, from) in
          cc (outside, subst (λ y. is_below h (only p) y ≡ true) one below)

  -- the origin of a place is not below it
  origin_outside : (q : Place) → origin_at h p ≡ Some q → is_below h (only p) q ≡ false
  origin_outside q is = false_from_ne_true _ (λ below. cc (under_self h l p, under_from h l (only p) p q is below))

  -- ---- the visit of a named place

  module _ (a : Rights) (f : Bool) where
    -- the change that passes the word to the origin
    abbrev pub passing : Place → Held → Option Held
    passing q m = Some (if option_map_or (same_place q) (origin_at h p) false then record m { status = join m.status (strip_word h (only p)) } else m)

    passed_at : (q : Place) (m : Held) (x : Bool) → option_map_or (same_place q) (origin_at h p) false ≡ x → changed passing q (clearing h (only p) a f q m) ≡ stripping h (only p) a f q m
    passed_at q m true test =
        let is = origin_from_test q (origin_at h p) test in
        let outside = origin_outside q is in
        rw (clearing_outside h (only p) a f q m outside, test, not_narrowed h (only p) f q outside, outside, passed_to_origin q is) refl
    passed_at q m false test = kept (clearing h (only p) a f q m) ∙ same (is_below h (only p) q) refl
      where
        kept : (k : Option Held) → changed passing q k ≡ k
        kept None = refl
        kept (Some k) = rw test refl

        same : (x : Bool) → is_below h (only p) q ≡ x → clearing h (only p) a f q m ≡ stripping h (only p) a f q m
        same true inside = rw inside refl
        same false outside = rw (outside, passed_to_none q test outside, join_nothing m.status) refl

    -- to clear below the place and pass the word to its origin is to strip it
    pub passed_is : passed_up (origin_at h p) (cleared h (only p) a f) ≡ unmapped h (only p) a f
    passed_is =
        let left : each passing (clear h (only p) a f) ≡ strip h (only p) a f = each_twice _ _ _ h l.sorted (λ q m _. passed_at q m (option_map_or (same_place q) (origin_at h p) false) refl) in
        λ i. record { word = strip_word h (only p); left = left i }

    -- a named place is stripped, held or not
    pub visit_named_is : (n : ℕ) → IsEnough n h p → visit_named n a f p h ≡ unmapped h (only p) a f
    visit_named_is n enough = by (is_held h p) refl
      where
        by : (x : Bool) → is_held h p ≡ x → (if x then passed_up (origin_at h p) (visit n a f p h) else record { word = no_rights; left = h }) ≡ unmapped h (only p) a f
        by true held = ap (passed_up (origin_at h p)) (visit_is n a f h l p enough) ∙ passed_is
        by false unheld =
            let nothing = below_unheld h l p unheld in
            λ i. record { word = sym (word_nothing h (only p) l nothing) i; left = sym (strip_nothing h l (only p) a f nothing) i }

-- ---- the named places in turn

-- named places, visited in turn, are stripped at once
named_in_turn : (n : ℕ) (a : Rights) (f : Bool) (ps : List Place) (h : Holdings) → IsLawful h → ((q : Place) → IsEnough n h q) → in_turn (visit_named n a f) ps h ≡ unmapped h (among ps) a f
named_in_turn n a f [] h l enough =
    let nothing = below_empty h l (among []) (λ r. refl) in
    λ i. record { word = sym (word_nothing h (among []) l (λ q _. nothing q)) i; left = sym (strip_nothing h l (among []) a f (λ q _. nothing q)) i }
named_in_turn n a f (p ∷ ps) h l enough =
    ap (λ (v : Visited). joined v.word (in_turn (visit_named n a f) ps v.left)) (visit_named_is h l p a f n (enough p))
    ∙ ap (joined (strip_word h (only p))) (named_in_turn n a f ps (strip h (only p) a f) (lawful_strip h (only p) a f l) (λ q. enough_each h (stripping h (only p) a f) l (strip_even h (only p) a f l) n q (enough q)))
    ∙ (λ i. record { word = word-union h l (only p) a f (among ps) i; left = strip-union h l (only p) a f (among ps) i })

-- the named places that are held
named_held : (h : Holdings) → IsLawful h → (set : PlaceSet) (q : Place) → is_held h q ≡ true → among (filter set (places h)) q ≡ set q
named_held h l set q held = ap (λ ps. among ps q) (filter-places set h) ∙ among_passing (λ e. set e.0) h l.sorted q ∙ by (at h q) held
  where
    by : (m : Option Held) → is_some m ≡ true → option_map_or (λ _. set q) m false ≡ set q
    by None held = absurd (cc held)
    by (Some m) held = refl

-- on lawful holdings the recursion of Unmap gives what strip gives
pub recursion_is_strip : (h : Holdings) → IsLawful h → (set : PlaceSet) (a : Rights) (f : Bool) → recur h set a f ≡ record { word = strip_word h set; left = strip h set a f }
recursion_is_strip h l set a f =
    named_in_turn (length h) a f (filter set (places h)) h l (enough_length h l)
    ∙ (λ i. record { word = word_same h l (among (filter set (places h))) set (named_held h l set) i; left = strip_same h l (among (filter set (places h))) set (named_held h l set) a f i })

pub recursion_law : RecursionIsStrip
recursion_law h lawful set a f = recursion_is_strip h (lawful_parts h lawful) set a f

pub strips_join : StripsJoin
strips_join h lawful X Y a f = let l = lawful_parts h lawful in (strip-union h l X a f Y, word-union h l X a f Y)
