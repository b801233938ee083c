-- No two places of the tree become one: after the renaming each comes once.
use Rattle.std.proofs.Common.{◌≡◌, ℕ, true, not, [], ◌∷◌, Option, Some, None, sym, ap, ◌∙◌, subst, ◌⊎◌, inl, inr, if◌then◌else◌}
use Rattle.std.specs.List.{list_all, list_any}
use Rattle.std.proofs.lemmas.Bool.{and_parts, or_cases}
use Rattle.space.specs.declared.place.Place.{Place}
use Rattle.space.specs.Place.{same_place}
use Rattle.space.proofs.Places.{same_is, same_self}
use Rattle.maptree.specs.Origins.{Origins, are_once}
use Rattle.maptree.specs.PlaceMaps.{place_for}
use Rattle.maptree.specs.Renamings.{replaced_by, all_renamed, StayApart}
use Rattle.page_tests.proofs.trees.renamed.Goals as goal

module _ (new : Place → Option Place) where
  -- a place that none becomes
  becomes_another : (x q : Place) (os : Origins) → list_all (λ o. not (same_place x o.0)) (all_renamed new os) ≡ true → list_any (λ o. same_place q o.0) os ≡ true → not (same_place x (replaced_by new q)) ≡ true
  becomes_another x q [] apart there = absurd (cc there)
  becomes_another x q (o ∷ os) apart there = by (or_cases (same_place q o.0) (list_any (λ o. same_place q o.0) os) there) (becomes_another x q os parts.1)
    where
      parts : (not (same_place x (replaced_by new o.0)) ≡ true) × (list_all (λ o. not (same_place x o.0)) (all_renamed new os) ≡ true)
      parts = and_parts _ _ apart

      by : (same_place q o.0 ≡ true) ⊎ (list_any (λ o. same_place q o.0) os ≡ true) → (list_any (λ o. same_place q o.0) os ≡ true → not (same_place x (replaced_by new q)) ≡ true)
          → not (same_place x (replaced_by new q)) ≡ true
      by (inl here) rest = subst (λ r. not (same_place x (replaced_by new r)) ≡ true) (sym (same_is q o.0 here)) parts.0
      by (inr later) rest = rest later

  -- where each place comes once afterwards, no two became one
  stay_apart : (os : Origins) → are_once (all_renamed new os) ≡ true → StayApart new os
  stay_apart [] once p q p_there q_there same = absurd (cc p_there)
  stay_apart (o ∷ os) once p q p_there q_there same =
      by (or_cases (same_place p o.0) (list_any (λ o. same_place p o.0) os) p_there) (or_cases (same_place q o.0) (list_any (λ o. same_place q o.0) os) q_there)
      (λ p_later q_later. stay_apart os parts.1 p q p_later q_later same)
    where
      parts : (list_all (λ r. not (same_place (replaced_by new o.0) r.0)) (all_renamed new os) ≡ true) × (are_once (all_renamed new os) ≡ true)
      parts = and_parts _ _ once

      -- one of the rest does not become what the first does
      other : (r : Place) → list_any (λ o. same_place r o.0) os ≡ true → replaced_by new o.0 ≡ replaced_by new r → ⊥
      other r there is = cc (becomes_another (replaced_by new o.0) r os parts.0 there, ap (same_place (replaced_by new o.0)) is, same_self (replaced_by new o.0))

      by : (same_place p o.0 ≡ true) ⊎ (list_any (λ o. same_place p o.0) os ≡ true) → (same_place q o.0 ≡ true) ⊎ (list_any (λ o. same_place q o.0) os ≡ true)
          → (list_any (λ o. same_place p o.0) os ≡ true → list_any (λ o. same_place q o.0) os ≡ true → p ≡ q) → p ≡ q
      by (inl p_here) (inl q_here) rest = same_is p o.0 p_here ∙ sym (same_is q o.0 q_here)
      by (inl p_here) (inr q_later) rest = absurd (other q q_later (ap (replaced_by new) (sym (same_is p o.0 p_here)) ∙ same))
      by (inr p_later) (inl q_here) rest = absurd (other p p_later (ap (replaced_by new) (sym (same_is q o.0 q_here)) ∙ sym same))
      by (inr p_later) (inr q_later) rest = rest p_later q_later

-- a place by its numbers
abbrev at : ℕ → ℕ → Place
at space page = record { space = space; page = page }

-- the tree before
abbrev before : Origins
before = (at 0 5, None) ∷ (at 1 0, Some (at 0 5)) ∷ (at 0 7, Some (at 1 0)) ∷ (at 2 0, Some (at 0 7)) ∷ (at 2 4, Some (at 0 5)) ∷ []

-- one place more in a map
abbrev more : Place → Place → Place → Option Place → Option Place
more key place p o = if same_place p key then Some place else o

-- the map
abbrev new : Place → Option Place
new p = more (at 0 9) (at 3 2) p (more (at 0 7) (at 0 5) p (more (at 0 5) (at 3 1) p None))

pub rename_all-requires : goal.rename_all-requires
rename_all-requires g c =
    let links_are : c.in_ok-tree.tree.links ≡ before = c.in_ok-assert_links.ensures in
    let first : (p : Place) → place_for c.put.new.self p ≡ more (at 0 5) (at 3 1) p None = λ p. c.in_ok-put.ensures.put p ∙ (λ i. more (at 0 5) (at 3 1) p (c.none-new.ensures.none p i)) in
    let second : (p : Place) → place_for c.put-2.new.self p ≡ more (at 0 7) (at 0 5) p (more (at 0 5) (at 3 1) p None) = λ p. c.in_ok-put-2.ensures.put p ∙ (λ i. more (at 0 7) (at 0 5) p (first p i)) in
    let third : (p : Place) → place_for c.put-3.new.self p ≡ new p = λ p. c.in_ok-put-3.ensures.put p ∙ (λ i. more (at 0 9) (at 3 2) p (second p i)) in
    let map_is : place_for c.put-3.new.self ≡ new = λ i p. third p i in
    record { apart = stay_apart (place_for c.put-3.new.self) c.in_ok-tree.tree.links (ap (λ os. are_once (all_renamed (place_for c.put-3.new.self) os)) links_are ∙ ap (λ f. are_once (all_renamed f before)) map_is) }
