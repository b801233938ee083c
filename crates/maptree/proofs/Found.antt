-- Where a place stands in a tree, and whether it does.
use Rattle.std.proofs.Common.{◌≡◌, ℕ, zero, suc, ◌<◌, true, false, Bool, ◌||◌, ◌+◌, not, nat_lt, [], ◌∷◌, length, get_or, Option, Some, None, refl, sym, ap, ◌∙◌, arith, if◌then◌else◌}
use Rattle.std.specs.Prelude.{position, is_some}
use Rattle.std.specs.List.{list_any, prefix_len}
use Rattle.std.proofs.lemmas.List.Quantifiers.{position-Some}
use Rattle.std.proofs.lemmas.Bool.Decides.{nat_tests}
use Rattle.std.proofs.lemmas.List.Folds.{list_any_at}
use Rattle.space.specs.declared.place.Place.{Place}
use Rattle.space.specs.Place.{same_place}
use Rattle.space.proofs.Places.{same_is}
use Rattle.maptree.specs.Origins.{Origins, place_at}

-- ---- where a place stands

pub at_read : (os : Origins) (i : ℕ) (d : Place) → place_at os i d ≡ (get_or os i (d, None)).0
at_read [] i d = refl
at_read (o ∷ os) zero d = refl
at_read (o ∷ os) (suc i) d = at_read os i d

-- what stands at a position
pub record StandsAt (os : Origins) (p : Place) (i : ℕ) : Type 0 where
  pub within : i < length os
  pub place : (d : Place) → place_at os i d ≡ p
  pub listed : list_any (λ o. same_place p o.0) os ≡ true

pub found_at : (os : Origins) (p : Place) (i : ℕ) → position (λ o. same_place p o.0) os ≡ Some i → StandsAt os p i
found_at os p i is =
    let at : (d : Place) → (i < length os) × (same_place p (get_or os i (d, None)).0 ≡ true) × ((k : ℕ) → k < i → same_place p (get_or os k (d, None)).0 ≡ false) =
    λ d. position-Some (λ (o : Place × Option Place). same_place p o.0) os i (d, None) is in
    record {
      within = (at p).0;
      place = λ d. at_read os i d ∙ sym (same_is p _ (at d).1);
      listed = list_any_at (λ (o : Place × Option Place). same_place p o.0) os i (p, None) (at p).0 (at p).1;
    }

module _ (test : Place × Option Place → Bool) where
  -- a test that some element passes is passed before the end
  ends_early : (os : Origins) → nat_lt (prefix_len (λ o. not (test o)) os) (length os) ≡ list_any test os
  ends_early [] = refl
  ends_early (o ∷ os) = by (test o) (prefix_len (λ o. not (test o)) os) (length os) (list_any test os) (ends_early os)
    where
      by : (b : Bool) (k n : ℕ) (any : Bool) → nat_lt k n ≡ any → nat_lt (if not b then 1 + k else 0) (suc n) ≡ (b || any)
      by true k n any is = grind (arith, nat_tests)
      by false k n any is = grind (arith, nat_tests)

  position_is : (os : Origins) → position test os ≡ (if list_any test os then Some (prefix_len (λ o. not (test o)) os) else None)
  position_is os = ap (λ b. if b then Some (prefix_len (λ o. not (test o)) os) else None) (ends_early os)

  -- a position is found exactly where an element passes
  pub none_found : (os : Origins) → list_any test os ≡ false → position test os ≡ None
  none_found os none = position_is os ∙ ap (λ b. if b then Some (prefix_len (λ o. not (test o)) os) else None) none

  pub none_from_position : (os : Origins) → position test os ≡ None → list_any test os ≡ false
  none_from_position os none = by (list_any test os) (prefix_len (λ o. not (test o)) os) (sym (position_is os) ∙ none)
    where
      by : (b : Bool) (k : ℕ) → (if b then Some k else None) ≡ None → b ≡ false
      by true k is = absurd (cc is)
      by false k is = refl

-- a place that stands in the tree has a position
pub some_found : (test : Place × Option Place → Bool) (os : Origins) → list_any test os ≡ true → is_some (position test os) ≡ true
some_found test os any = ap is_some (position_is test os ∙ ap (λ b. if b then Some (prefix_len (λ o. not (test o)) os) else None) any)
