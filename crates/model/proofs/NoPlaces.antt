-- A set of no places: nothing is stripped.
use Rattle.std.proofs.Common.{◌≡◌, ℕ, zero, suc, true, false, [], ◌∷◌, Option, Some, None, refl, ap, ◌∙◌}
use Rattle.std.proofs.Math.Bool.{or-false, and-false}
use Rattle.fpage.specs.Rights.{no_rights, join}
use Rattle.fpage.specs.declared.rights.Rights.{Rights}
use Rattle.space.specs.declared.place.Place.{Place}
use Rattle.model.specs.Definitions.Holdings.{Held, Holdings, PlaceSet, origin_at, each}
use Rattle.model.specs.Definitions.Derived.{meets, is_below}
use Rattle.model.specs.Definitions.Strip.{strip, stripped, gain_from, left_of, is_narrowed}

abbrev IsNone : PlaceSet → Type 0
IsNone set = (p : Place) → set p ≡ false

meets_none : (n : ℕ) (h : Holdings) (set : PlaceSet) (o : Option Place) → IsNone set → meets n h set o ≡ false
meets_none zero h set o none = refl
meets_none (suc n) h set None none = refl
meets_none (suc n) h set (Some o) none = rw (none o) (meets_none n h set (origin_at h o) none)

below_none : (h : Holdings) (set : PlaceSet) (p : Place) → IsNone set → is_below h set p ≡ false
below_none h set p none = rw (none p) (meets_none _ h set (origin_at h p) none)

gain_none : (h : Holdings) (set : PlaceSet) (p : Place) (rest : Holdings) → IsNone set → gain_from h set p rest ≡ no_rights
gain_none h set p [] none = refl
gain_none h set p (e ∷ rest) none = rw (below_none h set e.0 none, and-false, gain_none h set p rest none) refl

join_none : (a : Rights) → join a no_rights ≡ a
join_none a = rw (or-false a.read, or-false a.write, or-false a.execute) refl

stripped_none : (h : Holdings) (set : PlaceSet) (a : Rights) (p : Place) (m : Held) → IsNone set → stripped h set a true p m ≡ m
stripped_none h set a p m none = rw (none p, meets_none _ h set (origin_at h p) none, gain_none h set p h none, join_none m.status) refl

each_none : (h : Holdings) (set : PlaceSet) (a : Rights) (rest : Holdings) → IsNone set → each (λ p m. left_of (is_narrowed h set true p) (stripped h set a true p m)) rest ≡ rest
each_none h set a [] none = refl
each_none h set a (e ∷ rest) none =
    let kept : is_narrowed h set true e.0 ≡ false = rw (none e.0, meets_none _ h set (origin_at h e.0) none) refl in
    let stays : left_of (is_narrowed h set true e.0) (stripped h set a true e.0 e.1) ≡ Some e.1 =
    ap (λ b. left_of b (stripped h set a true e.0 e.1)) kept ∙ ap Some (stripped_none h set a e.0 e.1 none) in
    rw (stays, each_none h set a rest none) refl

-- to strip no places changes nothing
pub strip_none : (h : Holdings) (set : PlaceSet) (a : Rights) → IsNone set → strip h set a true ≡ h
strip_none h set a none = each_none h set a h none
