-- The listing of what is held, by place: it is sorted, and holds at each place within the limits what is held there.
use Rattle.std.proofs.Common.{◌≡◌, ℕ, zero, suc, ◌+◌, ◌<◌, true, false, Bool, ◌&&◌, ◌||◌, ◌==◌, nat_lt, nat_le, List, [], ◌∷◌, ◌++◌, Option, Some, None, refl, sym, ap, ◌∙◌, arith, ◌⊎◌, inl, inr, if◌then◌else◌}
use Rattle.std.specs.List.{list_any, list_all}
use Rattle.std.specs.Ordering.{is_lt}
use Rattle.std.specs.FinMap.Entries.{below_all, put}
use Rattle.std.proofs.lemmas.Bool.{and_parts, and_from, ltb-true}
use Rattle.std.proofs.lemmas.Bool.Decides.{nat_tests}
use Rattle.std.proofs.lemmas.List.Folds.{list_any-append, list_all-append}
use Rattle.space.specs.declared.place.Place.{Place}
use Rattle.space.specs.Place.{place_cmp, same_place}
use Rattle.space.specs.Directory.{pages_of}
use Rattle.space.proofs.Places.{same_self, same_or_apart}
use Rattle.model.specs.Definitions.Holdings.{Held, Holdings, at, keep, each}
use Rattle.model.specs.Definitions.Calls.{Limits}
use Rattle.model.proofs.Lookups.{Sorted, same_holdings, at_each, sorted_each, changed}
use Rattle.model.proofs.Puts.{apart_places, put_here, put_elsewhere, sorted_put}
use Rattle.holdings.specs.Places.{IsWithin, pages_from, spaces_from, listed, listing}
use Rattle.holdings.specs.Inner.Held.{is_place}

-- ---- the places within the limits, by rising place

-- each place of a list is above this one
abbrev AreAbove : Place → List Place → Type 0
AreAbove p ps = list_all (λ q. is_lt (place_cmp p q)) ps ≡ true

-- each place is below those behind it
abbrev pub are_rising : List Place → Bool
are_rising [] = true
are_rising (p ∷ ps) = list_all (λ q. is_lt (place_cmp p q)) ps && are_rising ps

less_page : (s i j : ℕ) → i < j → is_lt (place_cmp (record { space = s; page = i }) (record { space = s; page = j })) ≡ true
less_page s i j less = grind (arith, nat_tests)

less_space : (p q : Place) → p.space < q.space → is_lt (place_cmp p q) ≡ true
less_space p q less = grind (arith, nat_tests)

pages_above : (s i j n : ℕ) → i < j → AreAbove (record { space = s; page = i }) (pages_from s j n)
pages_above s i j zero less = refl
pages_above s i j (suc n) less = and_from _ _ (less_page s i j less) (pages_above s i (j + 1) n (omega arith))

later_pages_above : (p : Place) (s j n : ℕ) → p.space < s → AreAbove p (pages_from s j n)
later_pages_above p s j zero less = refl
later_pages_above p s j (suc n) less = and_from _ _ (less_space p (record { space = s; page = j }) less) (later_pages_above p s (j + 1) n less)

above_append : (p : Place) (ps qs : List Place) → AreAbove p ps → AreAbove p qs → AreAbove p (ps ++ qs)
above_append p ps qs first rest = list_all-append (λ q. is_lt (place_cmp p q)) ps qs ∙ and_from _ _ first rest

spaces_above : (p : Place) (pages s n : ℕ) → p.space < s → AreAbove p (spaces_from pages s n)
spaces_above p pages s zero less = refl
spaces_above p pages s (suc n) less =
    above_append p (pages_from s 0 pages) (spaces_from pages (s + 1) n) (later_pages_above p s 0 pages less) (spaces_above p pages (s + 1) n (omega arith))

rising_before : (s i n : ℕ) (rest : List Place) → ((p : Place) → p.space ≡ s → AreAbove p rest) → are_rising rest ≡ true → are_rising (pages_from s i n ++ rest) ≡ true
rising_before s i zero rest above rising = rising
rising_before s i (suc n) rest above rising =
    let p : Place = record { space = s; page = i } in
    and_from _ _ (above_append p (pages_from s (i + 1) n) rest (pages_above s i (i + 1) n (omega arith)) (above p refl)) (rising_before s (i + 1) n rest above rising)

rising_spaces : (pages s n : ℕ) → are_rising (spaces_from pages s n) ≡ true
rising_spaces pages s zero = refl
rising_spaces pages s (suc n) =
    rising_before s 0 pages (spaces_from pages (s + 1) n) (λ p is. spaces_above p pages (s + 1) n (omega (arith, is))) (rising_spaces pages (s + 1) n)

-- ---- which places these are

one_page : (p : Place) (s i n : ℕ) → (same_place p (record { space = s; page = i }) || ((p.space == s) && (nat_le (i + 1) p.page && nat_lt p.page (i + 1 + n)))) ≡ ((p.space == s) && (nat_le i p.page && nat_lt p.page (i + suc n)))
one_page p s i n = grind (arith, nat_tests)

no_page : (a : Bool) (p i : ℕ) → false ≡ (a && (nat_le i p && nat_lt p (i + 0)))
no_page a p i = grind (arith, nat_tests)

pub in_pages : (p : Place) (s i n : ℕ) → list_any (same_place p) (pages_from s i n) ≡ ((p.space == s) && (nat_le i p.page && nat_lt p.page (i + n)))
in_pages p s i zero = no_page (p.space == s) p.page i
in_pages p s i (suc n) = ap (λ b. same_place p (record { space = s; page = i }) || b) (in_pages p s (i + 1) n) ∙ one_page p s i n

one_space : (k g s n pages : ℕ) → (((k == s) && (nat_le 0 g && nat_lt g (0 + pages))) || ((nat_le (s + 1) k && nat_lt k (s + 1 + n)) && nat_lt g pages)) ≡ ((nat_le s k && nat_lt k (s + suc n)) && nat_lt g pages)
one_space k g s n pages = grind (arith, nat_tests)

no_space : (b : Bool) (k s : ℕ) → false ≡ ((nat_le s k && nat_lt k (s + 0)) && b)
no_space b k s = grind (arith, nat_tests)

in_spaces : (p : Place) (pages s n : ℕ) → list_any (same_place p) (spaces_from pages s n) ≡ ((nat_le s p.space && nat_lt p.space (s + n)) && nat_lt p.page pages)
in_spaces p pages s zero = no_space (nat_lt p.page pages) p.space s
in_spaces p pages s (suc n) =
    list_any-append (same_place p) (pages_from s 0 pages) (spaces_from pages (s + 1) n)
    ∙ (λ i. in_pages p s 0 pages i || in_spaces p pages (s + 1) n i)
    ∙ one_space p.space p.page s n pages

-- the places of the listing are those within the limits
pub is_one : (limits : Limits) (p : Place) → list_any (same_place p) (spaces_from (pages_of limits.bits) 0 limits.spaces) ≡ is_place limits p
is_one limits p = in_spaces p (pages_of limits.bits) 0 limits.spaces ∙ from_zero p.space limits.spaces (nat_lt p.page (pages_of limits.bits))
  where
    from_zero : (k n : ℕ) (b : Bool) → ((nat_le 0 k && nat_lt k (0 + n)) && b) ≡ (nat_lt k n && b)
    from_zero k n b = grind (arith, nat_tests)

pub place_from_within : (limits : Limits) (p : Place) → IsWithin limits p → is_place limits p ≡ true
place_from_within limits p within =
    let space = within.space in
    let page = within.page in
    by p.space limits.spaces p.page (pages_of limits.bits) space page
  where
    by : (a b c d : ℕ) → a < b → c < d → (nat_lt a b && nat_lt c d) ≡ true
    by a b c d first second = grind (arith, nat_tests)

pub within_from_place : (limits : Limits) (p : Place) → is_place limits p ≡ true → IsWithin limits p
within_from_place limits p is =
    let parts = and_parts _ _ is in
    record { space = ltb-true p.space limits.spaces parts.0; page = ltb-true p.page (pages_of limits.bits) parts.1 }

-- ---- what is held, listed

module _ (f : Place → Option Held) where
  above_kept : (p q : Place) (m : Option Held) (h : Holdings) → is_lt (place_cmp p q) ≡ true → below_all place_cmp p h ≡ true → below_all place_cmp p (keep q m h) ≡ true
  above_kept p q None h less low = low
  above_kept p q (Some m) h less low = and_from _ _ less low

  below_listed : (p : Place) (ps : List Place) → AreAbove p ps → below_all place_cmp p (listed f ps) ≡ true
  below_listed p [] above = refl
  below_listed p (q ∷ ps) above =
      let parts = and_parts (is_lt (place_cmp p q)) (list_all (λ q. is_lt (place_cmp p q)) ps) above in
      above_kept p q (f q) (listed f ps) parts.0 (below_listed p ps parts.1)

  sorted_kept : (p : Place) (m : Option Held) (h : Holdings) → below_all place_cmp p h ≡ true → Sorted h → Sorted (keep p m h)
  sorted_kept p None h low sorted = sorted
  sorted_kept p (Some m) h low sorted = and_from _ _ low sorted

  pub sorted_listed : (ps : List Place) → are_rising ps ≡ true → Sorted (listed f ps)
  sorted_listed [] rising = refl
  sorted_listed (p ∷ ps) rising =
      let parts = and_parts (list_all (λ q. is_lt (place_cmp p q)) ps) (are_rising ps) rising in
      sorted_kept p (f p) (listed f ps) (below_listed p ps parts.0) (sorted_listed ps parts.1)

  at_apart : (p q : Place) (m : Option Held) (h : Holdings) → same_place p q ≡ false → at (keep q m h) p ≡ at h p
  at_apart p q None h apart = refl
  at_apart p q (Some m) h apart = rw apart refl

  at_here : (p : Place) (m : Option Held) (h : Holdings) (b : Bool) → at h p ≡ (if b then m else None) → at (keep p m h) p ≡ m
  at_here p None h true is = is
  at_here p None h false is = is
  at_here p (Some m) h b is = rw (same_self p) refl

  pub at_listed : (ps : List Place) (p : Place) → at (listed f ps) p ≡ (if list_any (same_place p) ps then f p else None)
  at_listed [] p = refl
  at_listed (q ∷ ps) p = by (same_or_apart p q) (at_listed ps p)
    where
      by : (p ≡ q) ⊎ (same_place p q ≡ false) → at (listed f ps) p ≡ (if list_any (same_place p) ps then f p else None)
          → at (keep q (f q) (listed f ps)) p ≡ (if same_place p q || list_any (same_place p) ps then f p else None)
      by (inl same) rest = rw (← same, same_self p) (at_here p (f p) (listed f ps) (list_any (same_place p) ps) rest)
      by (inr apart) rest = rw apart (at_apart p q (f q) (listed f ps) apart ∙ rest)

  module _ (limits : Limits) where
    -- it is sorted
    pub sorted_listing : Sorted (listing limits f)
    unfolding listing
    sorted_listing = sorted_listed (spaces_from (pages_of limits.bits) 0 limits.spaces) (rising_spaces (pages_of limits.bits) 0 limits.spaces)

    -- at each place within the limits it holds what is held there, and elsewhere nothing
    pub at_listing : (p : Place) → at (listing limits f) p ≡ (if is_place limits p then f p else None)
    unfolding listing
    at_listing p = at_listed (spaces_from (pages_of limits.bits) 0 limits.spaces) p ∙ ap (λ b. if b then f p else None) (is_one limits p)

    pub at_within : (p : Place) → IsWithin limits p → at (listing limits f) p ≡ f p
    at_within p within = at_listing p ∙ ap (λ b. if b then f p else None) (place_from_within limits p within)

    pub at_outside : (p : Place) → is_place limits p ≡ false → at (listing limits f) p ≡ None
    at_outside p outside = at_listing p ∙ ap (λ b. if b then f p else None) outside

    -- what is listed is held at a place within the limits
    pub listed_within : (p : Place) (m : Held) → at (listing limits f) p ≡ Some m → IsWithin limits p × (f p ≡ Some m)
    listed_within p m held = by (is_place limits p) refl
      where
        by : (b : Bool) → is_place limits p ≡ b → IsWithin limits p × (f p ≡ Some m)
        by true is = let within = within_from_place limits p is in (within, sym (at_within p within) ∙ held)
        by false is = absurd (cc (held, at_outside p is))

    -- it is the one list that is sorted and holds this
    pub listing_is : (h : Holdings) → Sorted h → ((p : Place) → IsWithin limits p → at h p ≡ f p) → ((p : Place) → is_place limits p ≡ false → at h p ≡ None) → listing limits f ≡ h
    listing_is h sorted inside outside = same_holdings (listing limits f) h sorted_listing sorted (λ p. by p (is_place limits p) refl)
      where
        by : (p : Place) (b : Bool) → is_place limits p ≡ b → at (listing limits f) p ≡ at h p
        by p true is = let within = within_from_place limits p is in at_within p within ∙ sym (inside p within)
        by p false is = at_outside p is ∙ sym (outside p is)

-- ---- listings of what differs

module _ (limits : Limits) (f g : Place → Option Held) where
  -- where the same is held, the same is listed
  pub listing_same : ((p : Place) → IsWithin limits p → f p ≡ g p) → listing limits f ≡ listing limits g
  listing_same same =
      listing_is f limits (listing limits g) (sorted_listing g limits) (λ p within. at_within g limits p within ∙ sym (same p within)) (at_outside g limits)

  -- where each mapping is changed, each that is listed is
  pub listing_each : (change : Place → Held → Option Held) → ((p : Place) → IsWithin limits p → g p ≡ changed change p (f p)) → listing limits g ≡ each change (listing limits f)
  listing_each change same =
      let sorted = sorted_listing f limits in
      listing_is g limits (each change (listing limits f)) (sorted_each change (listing limits f) sorted)
      (λ p within. at_each change (listing limits f) p sorted ∙ ap (changed change p) (at_within f limits p within) ∙ sym (same p within))
      (λ p outside. at_each change (listing limits f) p sorted ∙ ap (changed change p) (at_outside f limits p outside))

  -- where one more mapping is held, or another at one place, it is put into the listing
  pub listing_put : (q : Place) (m : Held) → IsWithin limits q → g q ≡ Some m → ((p : Place) → IsWithin limits p → same_place p q ≡ false → g p ≡ f p) → listing limits g ≡ put place_cmp q m (listing limits f)
  listing_put q m q_within here elsewhere =
      listing_is g limits (put place_cmp q m (listing limits f)) (sorted_put q m (listing limits f) (sorted_listing f limits))
      (λ p within. inside p within (same_or_apart p q))
      (λ p outside. put_elsewhere p q m (listing limits f) (apart p outside) ∙ at_outside f limits p outside)
    where
      inside : (p : Place) → IsWithin limits p → (p ≡ q) ⊎ (same_place p q ≡ false) → at (put place_cmp q m (listing limits f)) p ≡ g p
      inside p within (inl same) = rw same (put_here q m (listing limits f) ∙ sym here)
      inside p within (inr apart) = put_elsewhere p q m (listing limits f) apart ∙ at_within f limits p within ∙ sym (elsewhere p within apart)

      apart : (p : Place) → is_place limits p ≡ false → same_place p q ≡ false
      apart p outside = apart_places p q (λ same. cc (outside, ap (is_place limits) same, place_from_within limits q q_within))
