-- Places: their order is total, and places that tie are one.
use Rattle.std.proofs.Common.{◌≡◌, ℕ, true, false, refl, ap, arith, ◌⊎◌, inl, inr}
use Rattle.std.specs.Cmp.{IsTotalOrder}
use Rattle.std.specs.Ordering.{nat_cmp, ordering_then, is_eq}
use Rattle.std.proofs.lemmas.Cmp.{then_total, on_total, nat_cmp_total, tied_itself}
use Rattle.std.proofs.lemmas.Bool.{false_from_ne_true}
use Rattle.std.proofs.lemmas.Bool.Decides.{nat_tests}
use Rattle.space.specs.declared.place.Place.{Place}
use Rattle.space.specs.Place.{place_cmp, same_place}

pub places_total : IsTotalOrder place_cmp
places_total = then_total (on_total (λ (p : Place). p.space) nat_cmp_total) (on_total (λ (p : Place). p.page) nat_cmp_total)

tied_numbers : (a b c d : ℕ) → is_eq (ordering_then (nat_cmp a c) (nat_cmp b d)) ≡ true → (a ≡ c) × (b ≡ d)
tied_numbers a b c d tied = grind (arith, nat_tests)

pub same_is : (p q : Place) → same_place p q ≡ true → p ≡ q
same_is p q same = let e = tied_numbers p.space p.page q.space q.page same in λ i. record { space = e.0 i; page = e.1 i }

pub same_self : (p : Place) → same_place p p ≡ true
same_self p = rw (tied_itself places_total p) refl

pub same_or_apart : (p q : Place) → (p ≡ q) ⊎ (same_place p q ≡ false)
same_or_apart p q = elim (same_place p q) as (λ b. same_place p q ≡ b → (p ≡ q) ⊎ (same_place p q ≡ false)) [
  | true ↦ λ same. inl (same_is p q same)
  | false ↦ λ apart. inr apart
] refl

-- two places are apart both ways
pub apart_back : (p q : Place) → same_place p q ≡ false → same_place q p ≡ false
apart_back p q apart = false_from_ne_true (same_place q p) (λ same. cc (apart, ap (same_place p) (same_is q p same), same_self p))
