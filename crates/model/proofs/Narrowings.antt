-- A change that narrows what a set says, with any status, keeps holdings lawful; two in turn are one of both sets.
use Rattle.std.proofs.Common.{◌≡◌, true, false, Bool, ◌&&◌, ◌||◌, not, Option, Some, None, refl, sym, ap, ◌∙◌, arith}
use Rattle.std.proofs.lemmas.Bool.{or_parts, or_from, and_right}
use Rattle.fpage.specs.Rights.{has, without, is_empty}
use Rattle.fpage.specs.declared.rights.Rights.{Rights}
use Rattle.space.specs.declared.place.Place.{Place}
use Rattle.model.specs.Definitions.Holdings.{Held, Holdings, PlaceSet, at, is_held, origin_at, each}
use Rattle.model.specs.Definitions.Derived.{is_under, is_below}
use Rattle.model.specs.Definitions.Strip.{is_narrowed, rights_left, stripped, left_of}
use Rattle.model.proofs.Lookups.{changed, each_twice}
use Rattle.fpage.proofs.RightSets.{has-without, same_rights}
use Rattle.model.proofs.LawfulParts.{IsLawful}
use Rattle.model.proofs.Chains.{is_origin_below, under_below, below-union}
use Rattle.model.proofs.EvenChanges.{IsEven, is_left, lawful_each, under_each, below_each}
use Rattle.model.proofs.StripAt.{left_is, left_stays, stripping, strip_even}

-- the places of one set or of another
abbrev pub either : PlaceSet → PlaceSet → PlaceSet
either X Y p = X p || Y p

-- a mapping that loses some rights, or does not, with a status
abbrev pub narrowed_to : Bool → Rights → Held → Rights → Held
narrowed_to loses a m status = record m { rights = rights_left loses a m.rights; status = status }

-- the status says nothing about what stays
restatus : (loses : Bool) (m k : Held) (status : Rights) → left_of loses m ≡ Some k → left_of loses (record m { status = status }) ≡ Some (record k { status = status })
restatus loses m k status left =
    let is = left_is loses m k left in
    left_stays loses (record m { status = status }) is.1 ∙ ap (λ (x : Held). Some (record x { status = status })) (sym is.0)

module _ (h : Holdings) (set : PlaceSet) (a : Rights) (f : Bool) (status : Place → Held → Rights) where
  -- the change that narrows as strip does, and gives this status
  abbrev pub narrowing : Place → Held → Option Held
  narrowing p m = left_of (is_narrowed h set f p) (narrowed_to (is_narrowed h set f p) a m (status p m))

  as_strip : (p : Place) (m k : Held) → narrowing p m ≡ Some k → stripping h set a f p m ≡ Some (record k { status = (stripped h set a f p m).status })
  as_strip p m k left = restatus (is_narrowed h set f p) (narrowed_to (is_narrowed h set f p) a m (status p m)) k _ left

  of_strip : (p : Place) (m k : Held) → stripping h set a f p m ≡ Some k → narrowing p m ≡ Some (record k { status = status p m })
  of_strip p m k left = restatus (is_narrowed h set f p) (stripped h set a f p m) k _ left

  module _ (l : IsLawful h) where
    -- such a change is even
    pub narrowing_even : IsEven h narrowing
    narrowing_even = record {
      frame = λ p m k held left. (strip_even h set a f l).frame p m _ held (as_strip p m k left);
      origin = λ p m k held left. (strip_even h set a f l).origin p m _ held (as_strip p m k left);
      some = λ p m k held left. (strip_even h set a f l).some p m _ held (as_strip p m k left);
      even = λ p o m n k held from held_o left.
          let kept = (strip_even h set a f l).even p o m n _ held from held_o (as_strip p m k left) in
          record { held = record (kept.held) { status = status o n }; is = of_strip o n kept.held kept.is; within = kept.within };
    }

    -- so it keeps holdings lawful
    pub lawful_narrowing : IsLawful (each narrowing h)
    lawful_narrowing = lawful_each h narrowing l narrowing_even

    -- what is still held is under the same sets
    pub narrowing_under : (other : PlaceSet) (p : Place) → is_held (each narrowing h) p ≡ true → is_under (each narrowing h) other p ≡ is_under h other p
    narrowing_under other p held = under_each h narrowing l narrowing_even other p held

    -- and below the same sets
    pub narrowing_below : (other : PlaceSet) (p : Place) → is_held (each narrowing h) p ≡ true → is_below (each narrowing h) other p ≡ is_below h other p
    narrowing_below other p held = below_each h narrowing l narrowing_even other p held

-- outside the set nothing is narrowed
pub not_narrowed : (h : Holdings) (set : PlaceSet) (f : Bool) (p : Place) → is_below h set p ≡ false → is_narrowed h set f p ≡ false
not_narrowed h set f p outside =
    let parts = or_parts (set p) (is_under h set p) outside in
    or_from _ _ parts.1 (and_right f (set p) parts.0)

-- ---- two in turn

-- a place is under two sets where it is under one of the two
pub under-either : (h : Holdings) → IsLawful h → (X Y : PlaceSet) (p : Place) → is_under h (either X Y) p ≡ (is_under h X p || is_under h Y p)
under-either h l X Y p = rw (under_below h l (either X Y) p, under_below h l X p, under_below h l Y p) (by (origin_at h p))
  where
    by : (o : Option Place) → is_origin_below h (either X Y) o ≡ (is_origin_below h X o || is_origin_below h Y o)
    by None = refl
    by (Some o) = below-union h l X Y o

narrowed_parts : (x y u v f : Bool) → ((u || v) || (f && (x || y))) ≡ ((u || (f && x)) || (v || (f && y)))
narrowed_parts x y u v f = grind arith

narrowed-either : (h : Holdings) → IsLawful h → (X Y : PlaceSet) (f : Bool) (p : Place) → is_narrowed h (either X Y) f p ≡ (is_narrowed h X f p || is_narrowed h Y f p)
narrowed-either h l X Y f p = rw (under-either h l X Y p) (narrowed_parts (X p) (Y p) (is_under h X p) (is_under h Y p) f)

without_again : (a r : Rights) → without (without r a) a ≡ without r a
without_again a r = same_rights (without (without r a) a) (without r a) (λ b. rw (has-without (without r a) a b, has-without r a b) (twice (has r b) (has a b)))
  where
    twice : (x y : Bool) → ((x && not y) && not y) ≡ (x && not y)
    twice x y = grind arith

-- what loses the rights in turn loses them once
two_losses : (x y : Bool) (a : Rights) (m : Held) (s t : Rights) (next : Place → Held → Option Held) (p : Place)
    → (left_of x (narrowed_to x a m s) ≡ Some (narrowed_to x a m s) → next p (narrowed_to x a m s) ≡ left_of y (narrowed_to y a (narrowed_to x a m s) t))
    → changed next p (left_of x (narrowed_to x a m s)) ≡ left_of (x || y) (narrowed_to (x || y) a m t)
two_losses false y a m s t next p then = then refl
two_losses true y a m s t next p then = by (is_empty (without m.rights a)) refl
  where
    once : (y : Bool) → is_empty (without m.rights a) ≡ false → left_of y (narrowed_to y a (narrowed_to true a m s) t) ≡ Some (narrowed_to true a m t)
    once true some = ap (λ (r : Rights). left_of true (record m { rights = r; status = t })) (without_again a m.rights) ∙ rw some refl
    once false some = refl

    by : (b : Bool) → is_empty (without m.rights a) ≡ b → changed next p (left_of true (narrowed_to true a m s)) ≡ left_of true (narrowed_to true a m t)
    by true gone = rw gone refl
    by false stays = rw stays (then (rw stays refl) ∙ once y stays)

module _ (h : Holdings) (l : IsLawful h) (X Y : PlaceSet) (a : Rights) (f : Bool) (s : Place → Held → Rights) where
  -- what is left by the first
  abbrev first_left : Holdings
  first_left = each (narrowing h X a f s) h

  -- what the first makes of a mapping
  abbrev pub first_of : Place → Held → Held
  first_of p m = narrowed_to (is_narrowed h X f p) a m (s p m)

  -- if the status that the two give in turn is the status of a third, then what they leave is too
  pub narrowing-either : (t u : Place → Held → Rights) → ((p : Place) (m : Held) → at h p ≡ Some m → at first_left p ≡ Some (first_of p m) → t p (first_of p m) ≡ u p m)
      → each (narrowing first_left Y a f t) first_left ≡ each (narrowing h (either X Y) a f u) h
  narrowing-either t u status = each_twice _ _ _ h l.sorted (λ p m is.
      rw (narrowed-either h l X Y f p) (two_losses (is_narrowed h X f p) (is_narrowed h Y f p) a m (s p m) (u p m) (narrowing first_left Y a f t) p (λ stays.
      let k = is_left h (narrowing h X a f s) l p m (first_of p m) is stays in
      rw (narrowing_under h X a f s l Y p (rw k refl), status p m is k) refl)))
