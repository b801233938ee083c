-- The origin of a node, read off the links of the tree.
use Rattle.std.proofs.Common.{◌≡◌, ℕ, zero, suc, ◌<◌, true, false, not, [], ◌∷◌, length, get_or, Option, Some, refl, ap, ◌∙◌, arith, if◌then◌else◌}
use Rattle.std.specs.Prelude.{◌||◌}
use Rattle.std.specs.List.{list_all, list_any}
use Rattle.std.specs.Option.{option_and_then}
use Rattle.std.specs.FinMap.Entries.{find}
use Rattle.std.proofs.lemmas.Bool.{and_parts, not-true}
use Rattle.space.specs.declared.place.Place.{Place}
use Rattle.space.specs.Place.{place_cmp, same_place}
use Rattle.space.proofs.Places.{same_self, apart_back}
use Rattle.maptree.specs.Origins.{Origins, OriginsStand, are_once, origin_in, place_at, IsOriginAt}

-- the place at a position stands in the tree
pub listed_at : (os : Origins) (j : ℕ) (d : Place) → j < length os → list_any (λ o. same_place (place_at os j d) o.0) os ≡ true
listed_at [] j d within = absurd (omega (arith, within))
listed_at (o ∷ os) zero d within = rw (same_self o.0) refl
listed_at (o ∷ os) (suc j) d within = rw (listed_at os j d (omega (arith, within))) (elim (same_place (place_at os j d) o.0) as (λ b. (b || true) ≡ true) [ true ↦ refl | false ↦ refl ])

-- a node's origin stands beside its place
own_origin : (os : Origins) (i : ℕ) (o : Place × Option Place) (d : Place) → are_once os ≡ true → i < length os → origin_in os (place_at os i d) ≡ (get_or os i o).1
own_origin os i o d once within = ap (option_and_then (λ o. o)) (found os i o d once within)
  where
    apart_at : (p : Place) (os : Origins) (i : ℕ) (d : Place) → list_all (λ q. not (same_place p q.0)) os ≡ true → i < length os → same_place p (place_at os i d) ≡ false
    apart_at p [] i d apart within = absurd (omega (arith, within))
    apart_at p (o ∷ os) zero d apart within = not-true (same_place p o.0) (and_parts (not (same_place p o.0)) (list_all (λ q. not (same_place p q.0)) os) apart).0
    apart_at p (o ∷ os) (suc i) d apart within = apart_at p os i d (and_parts (not (same_place p o.0)) (list_all (λ q. not (same_place p q.0)) os) apart).1 (omega (arith, within))

    found : (os : Origins) (i : ℕ) (o : Place × Option Place) (d : Place) → are_once os ≡ true → i < length os → find place_cmp (place_at os i d) os ≡ Some (get_or os i o).1
    found [] i o d once within = absurd (omega (arith, within))
    found (x ∷ os) zero o d once within = ap (λ b. if b then Some x.1 else find place_cmp x.0 os) (same_self x.0)
    found (x ∷ os) (suc i) o d once within =
        let parts = and_parts (list_all (λ q. not (same_place x.0 q.0)) os) (are_once os) once in
        ap (λ b. if b then Some x.1 else find place_cmp (place_at os i d) os) (apart_back x.0 (place_at os i d) (apart_at x.0 os i d parts.0 (omega (arith, within))))
        ∙ found os i o d parts.1 (omega (arith, within))

pub listed_origin : (os : Origins) (i : ℕ) (o : Place × Option Place) → are_once os ≡ true → OriginsStand os → i < length os → IsOriginAt os i (get_or os i o).1
listed_origin os i o once stand within = record {
  is = λ d. own_origin os i o d once within;
  stands = λ q is. stand (place_at os i q) q (own_origin os i o q once within ∙ is);
}
