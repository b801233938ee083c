-- What the lines to come decide, and the line of a place.
use Rattle.std.proofs.Common.{◌≡◌, ℕ, zero, suc, ◌+◌, ◌-◌, ◌<◌, ◌≤◌, true, false, Bool, ◌&&◌, ◌||◌, ◌==◌, List, [], ◌∷◌, length, map, drop, get_or, Some, None, refl, sym, ap, ◌∙◌, arith, ◌⊎◌, inl, inr}
use Rattle.std.specs.Prelude.{not, is_some}
use Rattle.std.specs.List.{list_all}
use Rattle.std.specs.List.Sorted.{IsNonDecreasingBy, IsPartitionPoint}
use Rattle.std.specs.Ordering.{is_lt, is_ge, is_eq, ordering_index}
use Rattle.std.specs.declared.cmp.Ordering.{Ordering}
use Rattle.std.specs.declared.cmp.Ordering.TheVariants.{Less, Equal, Greater}
use Rattle.std.specs.FinMap.Entries.{is_sorted, below_all}
use Rattle.std.proofs.lemmas.Bool.{and_parts, and_from, cases_lt}
use Rattle.std.proofs.lemmas.Bool.Decides.{nat_tests}
use Rattle.std.proofs.lemmas.List.{drop_more, length-drop}
use Rattle.std.proofs.lemmas.List.Sorted.{searchable_from_sorted}
use Rattle.fpage.specs.Rights.{no_rights}
use Rattle.space.specs.declared.place.Place.{Place}
use Rattle.space.specs.Place.{place_cmp, same_place}
use Rattle.space.proofs.Places.{places_total, same_self, same_is}
use Rattle.model.specs.Definitions.Holdings.{Held, Holdings, at}
use Rattle.mapdb.specs.Held.{Mapping, mapped_of}

-- any mapping
abbrev pub blank : Mapping
blank = record { place = record { space = 0; page = 0 }; frame = 0; rights = no_rights; status = no_rights; origin = None }

-- a mapping that is no root, or of another frame, or at the same place
abbrev pub is_other_root : Place × Held → Place × Held → Bool
is_other_root e d = is_some d.1.origin || not (d.1.frame == e.1.frame) || same_place d.0 e.0

-- what the line at a position adds to a test of all lines
module _ (test : Place × Held → Bool) (lines : List Mapping) (i : ℕ) (d : Mapping) (within : i < length lines) where
  pub test_more : list_all test (map mapped_of (drop i lines)) ≡ (test (mapped_of (get_or lines i d)) && list_all test (map mapped_of (drop (i + 1) lines)))
  test_more = ap (λ ls. list_all test (map mapped_of ls)) (drop_more lines i d within)

  pub test_passed : test (mapped_of (get_or lines i d)) ≡ true → list_all test (map mapped_of (drop i lines)) ≡ list_all test (map mapped_of (drop (i + 1) lines))
  test_passed is = test_more ∙ ap (λ b. b && list_all test (map mapped_of (drop (i + 1) lines))) is

  pub test_failed : test (mapped_of (get_or lines i d)) ≡ false → list_all test (map mapped_of (drop i lines)) ≡ false
  test_failed is = test_more ∙ ap (λ b. b && list_all test (map mapped_of (drop (i + 1) lines))) is

-- ---- rising places

above : (p q r : Place) → is_lt (place_cmp p q) ≡ true → is_lt (place_cmp q r) ≡ true → is_lt (place_cmp p r) ≡ true
above p q r less more = grind (arith, nat_tests)

below_more : (p q : Place) (h : Holdings) → is_lt (place_cmp p q) ≡ true → below_all place_cmp q h ≡ true → below_all place_cmp p h ≡ true
below_more p q [] less low = refl
below_more p q (e ∷ h) less low =
    let parts = and_parts (is_lt (place_cmp q e.0)) (below_all place_cmp q h) low in
    and_from _ _ (above p q e.0 less parts.0) (below_more p q h less parts.1)

-- a mapping below the next adds nothing to whether they rise
rises : (a b : Place × Held) (h : Holdings) → is_lt (place_cmp a.0 b.0) ≡ true → is_sorted place_cmp (a ∷ b ∷ h) ≡ is_sorted place_cmp (b ∷ h)
rises a b h less = rw less (by (is_sorted place_cmp (b ∷ h)) refl)
  where
    by : (s : Bool) → is_sorted place_cmp (b ∷ h) ≡ s → (below_all place_cmp a.0 h && is_sorted place_cmp (b ∷ h)) ≡ is_sorted place_cmp (b ∷ h)
    by true is =
        let parts = and_parts (below_all place_cmp b.0 h) (is_sorted place_cmp h) is in
        rw (below_more a.0 b.0 h less parts.0) refl
    by false is = rw is (none (below_all place_cmp a.0 h))
      where
        none : (b : Bool) → (b && false) ≡ false
        none true = refl
        none false = refl

falls : (a b : Place × Held) (h : Holdings) → is_lt (place_cmp a.0 b.0) ≡ false → is_sorted place_cmp (a ∷ b ∷ h) ≡ false
falls a b h not_less = rw not_less refl

module _ (lines : List Mapping) (i : ℕ) (d : Mapping) (some : 1 ≤ i) (within : i < length lines) where
  abbrev first : Mapping
  first = get_or lines (i - 1) d

  abbrev second : Mapping
  second = get_or lines i d

  two_more : drop (i - 1) lines ≡ first ∷ second ∷ drop (i + 1) lines
  two_more =
      let next : i - 1 + 1 ≡ i = omega (arith, some) in
      drop_more lines (i - 1) d (omega (arith, within, some)) ∙ ap (λ k. first ∷ drop k lines) next ∙ ap (λ ls. first ∷ ls) (drop_more lines i d within)

  pub rise_on : is_lt (place_cmp first.place second.place) ≡ true → is_sorted place_cmp (map mapped_of (drop (i - 1) lines)) ≡ is_sorted place_cmp (map mapped_of (drop i lines))
  rise_on less =
      ap (λ ls. is_sorted place_cmp (map mapped_of ls)) two_more ∙ rises (mapped_of first) (mapped_of second) (map mapped_of (drop (i + 1) lines)) less
      ∙ ap (λ ls. is_sorted place_cmp (map mapped_of ls)) (sym (drop_more lines i d within))

  pub fall_there : is_lt (place_cmp first.place second.place) ≡ false → is_sorted place_cmp (map mapped_of (drop (i - 1) lines)) ≡ false
  fall_there not_less = ap (λ ls. is_sorted place_cmp (map mapped_of ls)) two_more ∙ falls (mapped_of first) (mapped_of second) (map mapped_of (drop (i + 1) lines)) not_less

pub not_at_least : (o : Ordering) → is_ge o ≡ false → is_lt o ≡ true
not_at_least Less is = refl
not_at_least Equal is = absurd (cc is)
not_at_least Greater is = absurd (cc is)

pub at_least : (o : Ordering) → is_ge o ≡ true → is_lt o ≡ false
at_least Less is = absurd (cc is)
at_least Equal is = refl
at_least Greater is = refl

-- fewer than two lines rise
few_rise : (lines : List Mapping) → length lines ≤ 1 → is_sorted place_cmp (map mapped_of lines) ≡ true
few_rise [] few = refl
few_rise (a ∷ []) few = refl
few_rise (a ∷ b ∷ lines) few = absurd (omega (arith, few))

pub last_rises : (lines : List Mapping) (k : ℕ) → length lines ≤ k + 1 → is_sorted place_cmp (map mapped_of (drop k lines)) ≡ true
last_rises lines k upto = let left = length-drop k lines in few_rise (drop k lines) (omega (arith, left, upto))

-- ---- the line of a place

abbrev place_of : Mapping → Place
place_of l = l.place

low_at : (p : Place) (lines : List Mapping) (i : ℕ) (d : Mapping) → below_all place_cmp p (map mapped_of lines) ≡ true → i < length lines → is_lt (place_cmp p (get_or lines i d).place) ≡ true
low_at p [] i d low within = absurd (omega (arith, within))
low_at p (l ∷ lines) zero d low within = (and_parts (is_lt (place_cmp p l.place)) (below_all place_cmp p (map mapped_of lines)) low).0
low_at p (l ∷ lines) (suc i) d low within = low_at p lines i d (and_parts (is_lt (place_cmp p l.place)) (below_all place_cmp p (map mapped_of lines)) low).1 (omega (arith, within))

less_apart : (p q : Place) → is_lt (place_cmp p q) ≡ true → same_place q p ≡ false
less_apart p q less = grind (arith, nat_tests)

at_found : (lines : List Mapping) (q : Place) (i : ℕ) (d : Mapping) → is_sorted place_cmp (map mapped_of lines) ≡ true → i < length lines → (get_or lines i d).place ≡ q
    → at (map mapped_of lines) q ≡ Some (mapped_of (get_or lines i d)).1
at_found [] q i d sorted within is = absurd (omega (arith, within))
at_found (l ∷ lines) q zero d sorted within is = rw (← is, same_self l.place) refl
at_found (l ∷ lines) q (suc i) d sorted within is =
    let parts = and_parts (below_all place_cmp l.place (map mapped_of lines)) (is_sorted place_cmp (map mapped_of lines)) sorted in
    let less = low_at l.place lines i d parts.0 (omega (arith, within)) in
    let apart = less_apart l.place q (ap (λ p. is_lt (place_cmp l.place p)) (sym is) ∙ less) in
    rw apart (at_found lines q i d parts.1 (omega (arith, within)) is)

at_absent : (lines : List Mapping) (q : Place) (d : Mapping) → ((k : ℕ) → k < length lines → same_place q (get_or lines k d).place ≡ false) → at (map mapped_of lines) q ≡ None
at_absent [] q d apart = refl
at_absent (l ∷ lines) q d apart = rw (apart 0 (omega arith)) (at_absent lines q d (λ k within. apart (suc k) (omega (arith, within))))

-- the places of sorted lines can be searched
tail_falls_not : (p q : Place) → is_lt (place_cmp p q) ≡ true → is_lt (place_cmp q p) ≡ false
tail_falls_not p q less = grind (arith, nat_tests)

sorted_at : (lines : List Mapping) (k : ℕ) (d : Mapping) → is_sorted place_cmp (map mapped_of lines) ≡ true → k + 1 < length lines → is_lt (place_cmp (get_or lines (k + 1) d).place (get_or lines k d).place) ≡ false
sorted_at [] k d sorted within = absurd (omega (arith, within))
sorted_at (l ∷ lines) zero d sorted within =
    let parts = and_parts (below_all place_cmp l.place (map mapped_of lines)) (is_sorted place_cmp (map mapped_of lines)) sorted in
    tail_falls_not l.place (get_or lines 0 d).place (low_at l.place lines 0 d parts.0 (omega (arith, within)))
sorted_at (l ∷ lines) (suc k) d sorted within =
    let parts = and_parts (below_all place_cmp l.place (map mapped_of lines)) (is_sorted place_cmp (map mapped_of lines)) sorted in
    let next : suc k + 1 ≡ suc (k + 1) = omega arith in
    ap (λ n. is_lt (place_cmp (get_or (l ∷ lines) n d).place (get_or lines k d).place)) next ∙ sorted_at lines k d parts.1 (omega (arith, within))

pub searchable : (lines : List Mapping) (q : Place) → is_sorted place_cmp (map mapped_of lines) ≡ true → IsNonDecreasingBy (λ y. ordering_index (place_cmp (place_of y) q)) lines
searchable lines q sorted = searchable_from_sorted places_total place_of lines q (λ k d low within. sorted_at lines k d sorted within)

equal_is : (p q : Place) → place_cmp p q ≡ Equal → p ≡ q
equal_is p q tied = same_is p q (rw tied refl)

apart_less : (p q : Place) → place_cmp p q ≡ Less → same_place q p ≡ false
apart_less p q less = less_apart p q (rw less refl)

greater_apart : (p q : Place) → is_lt (place_cmp p q) ≡ false → is_eq (place_cmp p q) ≡ false → same_place q p ≡ false
greater_apart p q not_less not_equal = grind (arith, nat_tests)

apart_greater : (p q : Place) → place_cmp p q ≡ Greater → same_place q p ≡ false
apart_greater p q greater = greater_apart p q (rw greater refl) (rw greater refl)

-- what a binary search by place found is what is held there
pub searched_line : (lines : List Mapping) (q : Place) (i : ℕ) (d : Mapping) → is_sorted place_cmp (map mapped_of lines) ≡ true → i < length lines → place_cmp (get_or lines i d).place q ≡ Equal
    → Some (mapped_of (get_or lines i d)).1 ≡ at (map mapped_of lines) q
searched_line lines q i d sorted within tied = sym (at_found lines q i d sorted within (equal_is _ q tied))

-- what it did not find is not there
pub absent_line : (lines : List Mapping) (q : Place) (i : ℕ) → IsPartitionPoint (λ y. place_cmp (place_of y) q ≡ Less) (λ y. place_cmp (place_of y) q ≡ Greater) lines i → None ≡ at (map mapped_of lines) q
absent_line lines q i apart = sym (at_absent lines q blank (λ k within. by k within (cases_lt k i)))
  where
    by : (k : ℕ) → k < length lines → (k < i) ⊎ (i ≤ k) → same_place q (get_or lines k blank).place ≡ false
    by k within (inl low) = apart_less (get_or lines k blank).place q (apart.0 k blank (omega arith) low)
    by k within (inr high) = apart_greater (get_or lines k blank).place q (apart.1 k blank high within)
