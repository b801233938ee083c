-- A map of places that gets one more.
use Rattle.std.proofs.Common.{◌≡◌, ◌≢◌, ℕ, ◌-◌, ◌<◌, ◌≤◌, ◌==◌, ◌&&◌, nat_le, true, false, Bool, List, length, get_or, Option, Some, None, refl, sym, ap, ◌∙◌, arith, ◌⊎◌, inl, inr, if◌then◌else◌, get_or-set_same, get_or-set_other}
use Rattle.std.proofs.Math.ListN.{set}
use Rattle.std.proofs.lemmas.Bool.{le-leb, cases_lt}
use Rattle.std.proofs.lemmas.List.{get_or_past}
use Rattle.std.proofs.lemmas.Bool.Decides.{nat_tests}
use Rattle.space.specs.declared.place.Place.{Place}
use Rattle.space.specs.Place.{same_place}
use Rattle.space.proofs.Places.{same_self, same_or_apart}
use Rattle.maptree.specs.PlaceMaps.{place_for}

module _ (space first : ℕ) (key : Place) (space_is : key.space ≡ space) (page : first ≤ key.page) where
  -- a place of the map with another key stands at another index
  other_index : (p : Place) → (p.space == space) ≡ true → nat_le first p.page ≡ true → same_place p key ≡ false → p.page - first ≢ key.page - first
  other_index p there from apart = λ same.
      let space_same : p.space ≡ key.space = grind (arith, nat_tests, there, space_is) in
      let page_same : p.page ≡ key.page = grind (arith, nat_tests, from, page, same) in
      let one : p ≡ key = λ i. record { space = space_same i; page = page_same i } in
      cc (apart, ap (λ q. same_place q key) one, same_self key)

  -- the place that is put is found, and no other is lost
  pub put_says : (now before : List (Option Place)) (place p : Place) → key.page - first < length now → ((i : ℕ) → get_or now i None ≡ get_or before i None)
      → place_for (record { space = space; first = first; places = set now (key.page - first) (Some place) }) p
      ≡ (if same_place p key then Some place else place_for (record { space = space; first = first; places = before }) p)
  put_says now before place p within same = by (same_or_apart p key)
    where
      found : place_for (record { space = space; first = first; places = set now (key.page - first) (Some place) }) key ≡ Some place
      found =
          let here : (key.space == space) ≡ true = grind (arith, nat_tests, space_is) in
          let from : nat_le first key.page ≡ true = le-leb first key.page page in
          rw (here, from) (get_or-set_same now (key.page - first) (Some place) None within)

      kept : (b c : Bool) → (p.space == space) ≡ b → nat_le first p.page ≡ c → same_place p key ≡ false
          → (if b && c then get_or (set now (key.page - first) (Some place)) (p.page - first) None else None) ≡ (if b && c then get_or before (p.page - first) None else None)
      kept true true there from apart = get_or-set_other now (key.page - first) (p.page - first) (Some place) None (other_index p there from apart) ∙ same (p.page - first)
      kept true false there from apart = refl
      kept false c there from apart = refl

      by : (p ≡ key) ⊎ (same_place p key ≡ false) → place_for (record { space = space; first = first; places = set now (key.page - first) (Some place) }) p
          ≡ (if same_place p key then Some place else place_for (record { space = space; first = first; places = before }) p)
      by (inl is) =
          let one : same_place p key ≡ true = ap (λ q. same_place q key) is ∙ same_self key in
          rw one (ap (place_for (record { space = space; first = first; places = set now (key.page - first) (Some place) })) is ∙ found)
      by (inr apart) = rw apart (kept (p.space == space) (nat_le first p.page) refl refl apart)

-- entries of nothing at the end are as if they were not there
pub grown_same : (now before : List (Option Place)) → length before ≤ length now
    → ((k : ℕ) (d : Option Place) → k < length now → k < length before → get_or now k d ≡ get_or before k d)
    → ((k : ℕ) → length before ≤ k → k < length now → get_or now k None ≡ None) → (i : ℕ) → get_or now i None ≡ get_or before i None
grown_same now before grows old new i = by (cases_lt i (length before)) (cases_lt i (length now))
  where
    by : (i < length before) ⊎ (length before ≤ i) → (i < length now) ⊎ (length now ≤ i) → get_or now i None ≡ get_or before i None
    by (inl low) _ = old i None (omega (arith, low, grows)) low
    by (inr high) (inl within) = new i high within ∙ sym (get_or_past before i None high)
    by (inr high) (inr past) = get_or_past now i None past ∙ sym (get_or_past before i None high)
