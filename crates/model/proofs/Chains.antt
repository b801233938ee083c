-- Chains of origins in lawful holdings: a place is under a set where its origin is below the set.
use Rattle.std.proofs.Common.{◌≡◌, ℕ, zero, suc, true, false, Bool, ◌||◌, length, Option, Some, None, refl, sym, ap, ◌∙◌, subst, arith, ◌⊎◌, inl, inr}
use Rattle.space.specs.declared.place.Place.{Place}
use Rattle.model.specs.Definitions.Holdings.{Held, Holdings, PlaceSet, at, origin_at}
use Rattle.model.specs.Definitions.Derived.{meets, is_under, is_below}
use Rattle.model.specs.Definitions.Lawful.{ends}
use Rattle.model.proofs.LawfulParts.{IsLawful}
use Rattle.space.proofs.Places.{same_is, same_self}
use Rattle.std.proofs.lemmas.Bool.{or_cases, or_right, false_from_ne_true}
use Rattle.model.specs.Definitions.Holdings.{only, is_held}
use Rattle.std.specs.Option.{option_and_then}
use Rattle.space.specs.Place.{same_place}

-- the origin of a place that holds nothing is none
ends_of : (h : Holdings) → IsLawful h → (p : Place) (k : Option Held) → at h p ≡ k → ends (length h) h (origin_at h p) ≡ true
ends_of h l p None is = rw is refl
ends_of h l p (Some m) is = rw is (l.ending p m is)

pub chain_ends : (h : Holdings) → IsLawful h → (p : Place) → ends (length h) h (origin_at h p) ≡ true
chain_ends h l p = ends_of h l p (at h p) refl

-- a longer walk finds no more
meets_longer : (n : ℕ) (h : Holdings) (set : PlaceSet) (o : Option Place) → ends n h o ≡ true → meets (suc n) h set o ≡ meets n h set o
meets_longer zero h set None end = refl
meets_longer zero h set (Some o) end = absurd (cc end)
meets_longer (suc n) h set None end = refl
meets_longer (suc n) h set (Some o) end = ap (λ b. set o || b) (meets_longer n h set (origin_at h o) end)

-- whether an origin is below a set
abbrev pub is_origin_below : Holdings → PlaceSet → Option Place → Bool
is_origin_below h set None = false
is_origin_below h set (Some o) = is_below h set o

meets_below : (n : ℕ) (h : Holdings) (set : PlaceSet) (o : Option Place) → length h ≡ n → ends n h o ≡ true → meets n h set o ≡ is_origin_below h set o
meets_below zero h set None is end = refl
meets_below zero h set (Some o) is end = absurd (cc end)
meets_below (suc n) h set None is end = refl
meets_below (suc n) h set (Some o) is end = rw is (ap (λ b. set o || b) (sym (meets_longer n h set (origin_at h o) end)))

pub under_below : (h : Holdings) → IsLawful h → (set : PlaceSet) (p : Place) → is_under h set p ≡ is_origin_below h set (origin_at h p)
under_below h l set p = meets_below (length h) h set (origin_at h p) refl (chain_ends h l p)

-- ---- induction along the origins

along_within : (h : Holdings) (P : Place → Type 0) → ((p : Place) → ((o : Place) → origin_at h p ≡ Some o → P o) → P p) → (n : ℕ) (o : Place) → ends n h (Some o) ≡ true → P o
along_within h P step zero o end = absurd (cc end)
along_within h P step (suc n) o end = step o (λ q is. along_within h P step n q (subst (λ x. ends n h x ≡ true) is end))

-- what holds of a place where it holds of the place's origin holds of each place
pub along : (h : Holdings) → IsLawful h → (P : Place → Type 0) → ((p : Place) → ((o : Place) → origin_at h p ≡ Some o → P o) → P p) → (p : Place) → P p
along h l P step p = step p (λ o is. along_within h P step (length h) o (subst (λ x. ends (length h) h x ≡ true) is (chain_ends h l p)))

-- ---- what follows by it

-- a place with an origin is held
pub held_with_origin : (h : Holdings) (p o : Place) → origin_at h p ≡ Some o → (m : Held) × (at h p ≡ Some m) × (m.origin ≡ Some o)
held_with_origin h p o is = by (at h p) refl
  where
    by : (m : Option Held) → at h p ≡ m → (m : Held) × (at h p ≡ Some m) × (m.origin ≡ Some o)
    by None none = absurd (cc (is, ap (option_and_then (λ m. m.origin)) none))
    by (Some m) held = (m, held, cc (is, ap (option_and_then (λ m. m.origin)) held))

-- the origin of a place is held
pub origin_is_held : (h : Holdings) → IsLawful h → (p o : Place) → origin_at h p ≡ Some o → is_held h o ≡ true
origin_is_held h l p o is =
    let m = held_with_origin h p o is in
    rw ((l.origin p o m.0 m.1 m.2).is) refl

module _ (h : Holdings) (l : IsLawful h) where
  below_or : (set : PlaceSet) (p : Place) → is_below h set p ≡ (set p || is_origin_below h set (origin_at h p))
  below_or set p = ap (λ b. set p || b) (under_below h l set p)

  -- a place of the set is below it, and so is a place whose origin is
  pub in_below : (set : PlaceSet) (p : Place) → set p ≡ true → is_below h set p ≡ true
  in_below set p is = rw is refl

  pub under_from : (set : PlaceSet) (p o : Place) → origin_at h p ≡ Some o → is_below h set o ≡ true → is_under h set p ≡ true
  under_from set p o is below = under_below h l set p ∙ ap (is_origin_below h set) is ∙ below

  pub below_from : (set : PlaceSet) (p o : Place) → origin_at h p ≡ Some o → is_below h set o ≡ true → is_below h set p ≡ true
  below_from set p o is below = or_right (set p) (is_under h set p) (under_from set p o is below)

  -- a place below the set is of the set, or its origin is below the set
  pub under_cases : (set : PlaceSet) (p : Place) → is_under h set p ≡ true → (o : Place) × (origin_at h p ≡ Some o) × (is_below h set o ≡ true)
  under_cases set p under = by (origin_at h p) refl
    where
      by : (o : Option Place) → origin_at h p ≡ o → (o : Place) × (origin_at h p ≡ Some o) × (is_below h set o ≡ true)
      by None is = absurd (cc (under_below h l set p, under, ap (is_origin_below h set) is))
      by (Some o) is = (o, is, cc (under_below h l set p, under, ap (is_origin_below h set) is))

  pub below_cases : (set : PlaceSet) (p : Place) → is_below h set p ≡ true → (set p ≡ true) ⊎ ((o : Place) × (origin_at h p ≡ Some o) × (is_below h set o ≡ true))
  below_cases set p below = by (or_cases (set p) (is_under h set p) below)
    where
      by : (set p ≡ true) ⊎ (is_under h set p ≡ true) → (set p ≡ true) ⊎ ((o : Place) × (origin_at h p ≡ Some o) × (is_below h set o ≡ true))
      by (inl is) = inl is
      by (inr under) = inr (under_cases set p under)

  -- what is below a set that is below another is below the other
  pub below_within : (X Y : PlaceSet) → ((q : Place) → X q ≡ true → is_below h Y q ≡ true) → (p : Place) → is_below h X p ≡ true → is_below h Y p ≡ true
  below_within X Y inside = along h l (λ p. is_below h X p ≡ true → is_below h Y p ≡ true) (λ p ih below. by p ih (below_cases X p below))
    where
      by : (p : Place) → ((o : Place) → origin_at h p ≡ Some o → is_below h X o ≡ true → is_below h Y o ≡ true)
          → (X p ≡ true) ⊎ ((o : Place) × (origin_at h p ≡ Some o) × (is_below h X o ≡ true)) → is_below h Y p ≡ true
      by p ih (inl is) = inside p is
      by p ih (inr (o, is, below)) = below_from Y p o is (ih o is below)

  pub under_within : (X Y : PlaceSet) → ((q : Place) → X q ≡ true → is_below h Y q ≡ true) → (p : Place) → is_under h X p ≡ true → is_under h Y p ≡ true
  under_within X Y inside p under =
      let c = under_cases X p under in
      under_from Y p c.0 c.1 (below_within X Y inside c.0 c.2)

  -- what is below a union is below one of the two
  abbrev pub union : PlaceSet → PlaceSet → PlaceSet
  union X Y p = X p || Y p

  pub below-union : (X Y : PlaceSet) (p : Place) → is_below h (union X Y) p ≡ (is_below h X p || is_below h Y p)
  below-union X Y = along h l (λ p. is_below h (union X Y) p ≡ (is_below h X p || is_below h Y p)) (λ p ih. by p (origin_at h p) refl ih)
    where
      regroup : (a b c d : Bool) → ((a || b) || (c || d)) ≡ ((a || c) || (b || d))
      regroup a b c d = grind arith

      by : (p : Place) (o : Option Place) → origin_at h p ≡ o → ((q : Place) → o ≡ Some q → is_below h (union X Y) q ≡ (is_below h X q || is_below h Y q))
          → is_below h (union X Y) p ≡ (is_below h X p || is_below h Y p)
      by p None is ih = rw (under_below h l (union X Y) p, under_below h l X p, under_below h l Y p, is) (regroup (X p) (Y p) false false)
      by p (Some o) is ih = rw (under_below h l (union X Y) p, under_below h l X p, under_below h l Y p, is, ih o refl) (regroup (X p) (Y p) (is_below h X o) (is_below h Y o))

  -- of two places that have something below both, one is below the other
  pub below_nest : (c d p : Place) → is_below h (only c) p ≡ true → is_below h (only d) p ≡ true → (is_below h (only c) d ≡ true) ⊎ (is_below h (only d) c ≡ true)
  below_nest c d = along h l (λ p. is_below h (only c) p ≡ true → is_below h (only d) p ≡ true → (is_below h (only c) d ≡ true) ⊎ (is_below h (only d) c ≡ true))
      (λ p ih below_c below_d. by p ih below_c below_d (below_cases (only c) p below_c) (below_cases (only d) p below_d))
    where
      by : (p : Place) → ((o : Place) → origin_at h p ≡ Some o → is_below h (only c) o ≡ true → is_below h (only d) o ≡ true → (is_below h (only c) d ≡ true) ⊎ (is_below h (only d) c ≡ true))
          → is_below h (only c) p ≡ true → is_below h (only d) p ≡ true
          → (same_place c p ≡ true) ⊎ ((o : Place) × (origin_at h p ≡ Some o) × (is_below h (only c) o ≡ true))
          → (same_place d p ≡ true) ⊎ ((o : Place) × (origin_at h p ≡ Some o) × (is_below h (only d) o ≡ true))
          → (is_below h (only c) d ≡ true) ⊎ (is_below h (only d) c ≡ true)
      by p ih below_c below_d (inl is) _ = inr (rw (same_is c p is) below_d)
      by p ih below_c below_d (inr _) (inl is) = inl (rw (same_is d p is) below_c)
      by p ih below_c below_d (inr (o, is, c_o)) (inr (q, is_q, d_q)) =
          let one : q ≡ o = cc in
          ih o is c_o (rw one at d_q)

  -- what is below a place that is below a set is below the set
  pub below_trans : (set : PlaceSet) (p q : Place) → is_below h set p ≡ true → is_below h (only p) q ≡ true → is_below h set q ≡ true
  below_trans set p q p_below q_below = below_within (only p) set (λ z same. subst (λ y. is_below h set y ≡ true) (same_is p z same) p_below) q q_below

  -- what is below a place is below its origin
  pub below_origin : (p o q : Place) → origin_at h p ≡ Some o → is_below h (only p) q ≡ true → is_below h (only o) q ≡ true
  below_origin p o q is below = below_trans (only o) p q (below_from (only o) p o is (in_below (only o) o (same_self o))) below

  -- no place is under itself
  pub under_self : (p : Place) → is_under h (only p) p ≡ false
  under_self = along h l (λ p. is_under h (only p) p ≡ false) (λ p ih. false_from_ne_true _ (λ under.
      let c = under_cases (only p) p under in
      let o_under : is_under h (only p) c.0 ≡ true = by p c.0 under (or_cases (same_place p c.0) (is_under h (only p) c.0) c.2) in
      let inside : is_below h (only c.0) p ≡ true = below_from (only c.0) p c.0 c.1 (in_below (only c.0) c.0 (same_self c.0)) in
      cc (ih c.0 c.1, under_within (only p) (only c.0) (λ q same. subst (λ y. is_below h (only c.0) y ≡ true) (same_is p q same) inside) c.0 o_under)))
    where
      by : (p o : Place) → is_under h (only p) p ≡ true → (same_place p o ≡ true) ⊎ (is_under h (only p) o ≡ true) → is_under h (only p) o ≡ true
      by p o under (inl same) = subst (λ y. is_under h (only p) y ≡ true) (same_is p o same) under
      by p o under (inr o_under) = o_under

  -- nothing that is held is below a place that is not held
  pub below_unheld : (p : Place) → is_held h p ≡ false → (q : Place) → is_held h q ≡ true → is_below h (only p) q ≡ false
  below_unheld p unheld = along h l (λ q. is_held h q ≡ true → is_below h (only p) q ≡ false) (λ q ih held. false_from_ne_true _ (λ below. by q held ih (below_cases (only p) q below)))
    where
      by : (q : Place) → is_held h q ≡ true → ((o : Place) → origin_at h q ≡ Some o → is_held h o ≡ true → is_below h (only p) o ≡ false)
          → (same_place p q ≡ true) ⊎ ((o : Place) × (origin_at h q ≡ Some o) × (is_below h (only p) o ≡ true)) → ⊥
      by q held ih (inl same) = cc (held, unheld, ap (is_held h) (same_is p q same))
      by q held ih (inr (o, is, below)) = cc (below, ih o is (origin_is_held h l q o is))

  -- nothing is below an empty set
  pub below_empty : (set : PlaceSet) → ((q : Place) → set q ≡ false) → (p : Place) → is_below h set p ≡ false
  below_empty set none = along h l (λ p. is_below h set p ≡ false) (λ p ih. false_from_ne_true _ (λ below. by p ih (below_cases set p below)))
    where
      by : (p : Place) → ((o : Place) → origin_at h p ≡ Some o → is_below h set o ≡ false) → (set p ≡ true) ⊎ ((o : Place) × (origin_at h p ≡ Some o) × (is_below h set o ≡ true)) → ⊥
      by p ih (inl is) = cc (is, none p)
      by p ih (inr (o, is, below)) = cc (below, ih o is)

  -- sets that have the same held places have the same held places under them
  pub under_same : (X Y : PlaceSet) → ((q : Place) → is_held h q ≡ true → X q ≡ Y q) → (p : Place) → is_held h p ≡ true → is_under h X p ≡ is_under h Y p
  under_same X Y same = along h l (λ p. is_held h p ≡ true → is_under h X p ≡ is_under h Y p) (λ p ih held. under_below h l X p ∙ by p ih (origin_at h p) refl ∙ sym (under_below h l Y p))
    where
      by : (p : Place) → ((o : Place) → origin_at h p ≡ Some o → is_held h o ≡ true → is_under h X o ≡ is_under h Y o) → (o : Option Place) → origin_at h p ≡ o → is_origin_below h X o ≡ is_origin_below h Y o
      by p ih None is = refl
      by p ih (Some o) is = let held = origin_is_held h l p o is in λ i. same o held i || ih o is held i

  -- and below them
  pub below_same : (X Y : PlaceSet) → ((q : Place) → is_held h q ≡ true → X q ≡ Y q) → (p : Place) → is_held h p ≡ true → is_below h X p ≡ is_below h Y p
  below_same X Y same p held = λ i. same p held i || under_same X Y same p held i
