-- The places of a tree: their positions, and their origins.
use Rattle.std.proofs.Common.{◌≡◌, ℕ, zero, suc, ◌<◌, true, false, Bool, ◌||◌, ◌+◌, [], ◌∷◌, length, Option, Some, None, refl, ap, ◌∙◌, arith, if◌then◌else◌}
use Rattle.std.specs.Prelude.{insert}
use Rattle.std.specs.List.{list_any}
use Rattle.std.specs.FinMap.Entries.{find}
use Rattle.std.specs.Option.{option_and_then}
use Rattle.std.proofs.lemmas.Bool.{or_parts}
use Rattle.std.proofs.Common.{List, ◌++◌, ◌≤◌, ◌⊎◌, inl, inr}
use Rattle.std.proofs.lemmas.List.{length-append}
use Rattle.std.proofs.lemmas.Bool.{cases_lt}
use Rattle.maptree.specs.Origins.{Shape}
use Rattle.holdings.specs.Inner.Held.{links_in}
use Rattle.holdings.specs.Inner.Start.{root_place}
use Rattle.space.specs.declared.place.Place.{Place}
use Rattle.space.specs.Place.{place_cmp, same_place}
use Rattle.space.proofs.Places.{same_self}
use Rattle.maptree.specs.Origins.{Origins, origin_in}
use Rattle.holdings.specs.Inner.Derivation.{IsDerived}

-- ---- a place that is not in the tree

-- it is found nowhere
pub unlisted_find : (os : Origins) (p : Place) → list_any (λ o. same_place p o.0) os ≡ false → find place_cmp p os ≡ None
unlisted_find [] p none = refl
unlisted_find (o ∷ os) p none = by (same_place p o.0) none (unlisted_find os p)
  where
    by : (b : Bool) → (b || list_any (λ o. same_place p o.0) os) ≡ false → (list_any (λ o. same_place p o.0) os ≡ false → find place_cmp p os ≡ None) → (if b then Some o.1 else find place_cmp p os) ≡ None
    by true none rest = absurd (cc none)
    by false none rest = rest none

-- it has no origin
pub unlisted_origin : (os : Origins) (p : Place) → list_any (λ o. same_place p o.0) os ≡ false → origin_in os p ≡ None
unlisted_origin os p none = ap (option_and_then (λ o. o)) (unlisted_find os p none)

-- ---- one place more

module _ (q : Place) (v : Option Place) where
  find_before : (os : Origins) (i : ℕ) (p : Place) → same_place p q ≡ false → find place_cmp p (insert os i (q, v)) ≡ find place_cmp p os
  find_before [] zero p apart = rw apart refl
  find_before [] (suc i) p apart = rw apart refl
  find_before (o ∷ os) zero p apart = rw apart refl
  find_before (o ∷ os) (suc i) p apart = ap (λ r. if same_place p o.0 then Some o.1 else r) (find_before os i p apart)

  find_new : (os : Origins) (i : ℕ) → list_any (λ o. same_place q o.0) os ≡ false → find place_cmp q (insert os i (q, v)) ≡ Some v
  find_new [] zero new = rw (same_self q) refl
  find_new [] (suc i) new = rw (same_self q) refl
  find_new (o ∷ os) zero new = rw (same_self q) refl
  find_new (o ∷ os) (suc i) new =
      let parts = or_parts (same_place q o.0) (list_any (λ o. same_place q o.0) os) new in
      rw (parts.0) (find_new os i parts.1)

  stands_more : (os : Origins) (i : ℕ) (p : Place) → list_any (λ o. same_place p o.0) (insert os i (q, v)) ≡ (same_place p q || list_any (λ o. same_place p o.0) os)
  stands_more [] zero p = refl
  stands_more [] (suc i) p = refl
  stands_more (o ∷ os) zero p = refl
  stands_more (o ∷ os) (suc i) p = ap (λ b. same_place p o.0 || b) (stands_more os i p) ∙ swap (same_place p o.0) (same_place p q) (list_any (λ o. same_place p o.0) os)
    where
      swap : (a b c : Bool) → (a || (b || c)) ≡ (b || (a || c))
      swap a b c = grind arith

-- a place that was put behind its origin derives from it
pub derived_below : (os new : Origins) (i : ℕ) (origin place : Place) → list_any (λ o. same_place place o.0) os ≡ false → new ≡ insert os (i + 1) (place, Some origin) → IsDerived os new origin place
derived_below os new i origin place absent is = record {
  there = ap (λ n. origin_in n place) is ∙ ap (option_and_then (λ o. o)) (find_new place (Some origin) os (i + 1) absent);
  elsewhere = λ q apart. ap (λ n. origin_in n q) is ∙ ap (option_and_then (λ o. o)) (find_before place (Some origin) os (i + 1) q apart);
  stands = λ q. ap (λ (n : Origins). list_any (λ o. same_place q o.0) n) is ∙ stands_more place (Some origin) os (i + 1) q;
}

-- ---- lists of trees

-- the trees of roots, with one more
pub one_tree_more : (trees : List Shape) (t : Shape) (n : ℕ) → length trees ≡ n → ((f : ℕ) → f < n → links_in trees f ≡ (root_place f, None) ∷ []) → t.links ≡ (root_place n, None) ∷ []
    → record { count : length (trees ++ t ∷ []) ≡ n + 1; roots : (f : ℕ) → f < n + 1 → links_in (trees ++ t ∷ []) f ≡ (root_place f, None) ∷ [] }
one_tree_more trees t n size roots root =
    let longer = length-append trees (t ∷ []) in
    record { count = longer ∙ omega (arith, size); roots = λ f less. by f (cases_lt f n) less }
  where
    front : (ts : List Shape) (f : ℕ) → f < length ts → links_in (ts ++ t ∷ []) f ≡ links_in ts f
    front [] f within = absurd (omega (arith, within))
    front (x ∷ ts) zero within = refl
    front (x ∷ ts) (suc f) within = front ts f (omega (arith, within))

    last : (ts : List Shape) → links_in (ts ++ t ∷ []) (length ts) ≡ t.links
    last [] = refl
    last (x ∷ ts) = last ts

    by : (f : ℕ) → (f < n) ⊎ (n ≤ f) → f < n + 1 → links_in (trees ++ t ∷ []) f ≡ (root_place f, None) ∷ []
    by f (inl less) _ = front trees f (omega (arith, less, size)) ∙ roots f less
    by f (inr upto) less =
        let same : f ≡ length trees = omega (arith, upto, less, size) in
        let here : n ≡ f = omega (arith, upto, less) in
        ap (links_in (trees ++ t ∷ [])) same ∙ last trees ∙ root ∙ ap (λ k. (root_place k, None) ∷ []) here
