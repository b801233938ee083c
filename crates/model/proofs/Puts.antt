-- What is held where after one mapping is put at a place.
use Rattle.std.proofs.Common.{◌≡◌, true, false, Bool, Some, refl, sym, subst, T}
use Rattle.std.specs.FinMap.Entries.{put, find-put, is_sorted-put}
use Rattle.std.proofs.lemmas.Bool.{false_from_ne_true}
use Rattle.space.specs.declared.place.Place.{Place}
use Rattle.space.specs.Place.{place_cmp, same_place}
use Rattle.model.specs.Definitions.Holdings.{Held, Holdings, at}
use Rattle.space.proofs.Places.{places_total, same_is, same_self}
use Rattle.model.proofs.Lookups.{Sorted}

-- places that are not one do not tie
pub apart_places : (p q : Place) → (p ≡ q → ⊥) → same_place p q ≡ false
apart_places p q differ = false_from_ne_true (same_place p q) (λ same. differ (same_is p q same))

-- the place holds what is put there
pub put_here : (q : Place) (k : Held) (h : Holdings) → at (put place_cmp q k h) q ≡ Some k
put_here q k h = rw (find-put place_cmp places_total q q k h, same_self q) refl

-- any other place holds what it held
pub put_elsewhere : (p q : Place) (k : Held) (h : Holdings) → same_place p q ≡ false → at (put place_cmp q k h) p ≡ at h p
put_elsewhere p q k h apart = rw (find-put place_cmp places_total p q k h, apart) refl

to_truth : (b : Bool) → T b → b ≡ true
to_truth true t = refl
to_truth false t = absurd t

-- the order stays
pub sorted_put : (q : Place) (k : Held) (h : Holdings) → Sorted h → Sorted (put place_cmp q k h)
sorted_put q k h sorted = to_truth _ (is_sorted-put place_cmp places_total q k h (subst T (sym sorted) tt))
