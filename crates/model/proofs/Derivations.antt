-- The laws of derivation.
use Rattle.std.proofs.Common.{◌≡◌, ℕ, zero, suc, ◌≤◌, true, false, Bool, length, Option, Some, None, refl, sym, ap, ◌∙◌, subst, arith, ◌⊎◌, inl, inr}
use Rattle.std.specs.Option.{option_and_then, is_some}
use Rattle.std.proofs.lemmas.Bool.{or_left}
use Rattle.space.specs.declared.place.Place.{Place}
use Rattle.model.specs.Definitions.Holdings.{Held, Holdings, PlaceSet, only, at, is_held, origin_at}
use Rattle.model.specs.Definitions.Derived.{is_under, is_below}
use Rattle.model.specs.Definitions.Lawful.{ends}
use Rattle.model.specs.Laws.DerivationLaws.{after_origins, LeadsInto, BelowIsAChain, UnderIsAChain, ChainsEnd, ChainsAreHeld, BelowBothSets, NoneFromItself, NestOrApart}
use Rattle.model.proofs.LawfulParts.{IsLawful, lawful_parts}
use Rattle.model.proofs.Chains.{along, chain_ends, below_cases, under_cases, below_from, under_from, below-union, below_nest, origin_is_held, below_trans, under_self}
use Rattle.model.proofs.ChainLengths.{ends_within_length}

-- one origin more before a chain
step_leads : (h : Holdings) (least : ℕ) (set : PlaceSet) (p o : Place) → origin_at h p ≡ Some o → LeadsInto h least set o → LeadsInto h (suc least) set p
step_leads h least set p o is chain = record {
  origins = suc chain.origins;
  enough = let enough = chain.enough in omega (arith, enough);
  into = chain.into;
  leads = ap (option_and_then (after_origins chain.origins h)) is ∙ chain.leads;
  within = chain.within;
}

fewer : (h : Holdings) (set : PlaceSet) (p : Place) → LeadsInto h 1 set p → LeadsInto h 0 set p
fewer h set p chain = record { origins = chain.origins; enough = omega arith; into = chain.into; leads = chain.leads; within = chain.within }

module _ (h : Holdings) (l : IsLawful h) (set : PlaceSet) where
  pub below_leads : (p : Place) → is_below h set p ≡ true → LeadsInto h 0 set p
  below_leads = along h l (λ p. is_below h set p ≡ true → LeadsInto h 0 set p) (λ p ih below. by p ih (below_cases h l set p below))
    where
      by : (p : Place) → ((o : Place) → origin_at h p ≡ Some o → is_below h set o ≡ true → LeadsInto h 0 set o)
          → (set p ≡ true) ⊎ ((o : Place) × (origin_at h p ≡ Some o) × (is_below h set o ≡ true)) → LeadsInto h 0 set p
      by p ih (inl is) = record { origins = 0; enough = omega arith; into = p; leads = refl; within = is }
      by p ih (inr (o, is, below)) = fewer h set p (step_leads h 0 set p o is (ih o is below))

  pub under_leads : (p : Place) → is_under h set p ≡ true → LeadsInto h 1 set p
  under_leads p under =
      let c = under_cases h l set p under in
      step_leads h 0 set p c.0 c.1 (below_leads c.0 c.2)

  leads_below_in : (n : ℕ) (p into : Place) → after_origins n h p ≡ Some into → set into ≡ true → is_below h set p ≡ true
  leads_below_in zero p into leads within = let same : p ≡ into = cc in or_left _ _ (subst (λ q. set q ≡ true) (sym same) within)
  leads_below_in (suc n) p into leads within = by (origin_at h p) refl leads (λ o is. leads_below_in n o into is within)
    where
      by : (o : Option Place) → origin_at h p ≡ o → option_and_then (after_origins n h) o ≡ Some into
          → ((o : Place) → after_origins n h o ≡ Some into → is_below h set o ≡ true) → is_below h set p ≡ true
      by None is leads rest = absurd (cc leads)
      by (Some o) is leads rest = below_from h l set p o is (rest o leads)

  pub leads_below : (p : Place) → LeadsInto h 0 set p → is_below h set p ≡ true
  leads_below p chain = leads_below_in chain.origins p chain.into chain.leads chain.within

  pub leads_under : (p : Place) → LeadsInto h 1 set p → is_under h set p ≡ true
  leads_under p chain = by chain.origins (origin_at h p) refl chain.enough chain.leads
    where
      by : (n : ℕ) (o : Option Place) → origin_at h p ≡ o → 1 ≤ n → after_origins n h p ≡ Some chain.into → is_under h set p ≡ true
      by zero o is some leads = absurd (omega arith)
      by (suc n) None is some leads = absurd (cc (is, leads))
      by (suc n) (Some o) is some leads =
          under_from h l set p o is (leads_below_in n o chain.into (cc (is, leads)) chain.within)

pub below_is_a_chain : BelowIsAChain
below_is_a_chain h lawful set p = let l = lawful_parts h lawful in (below_leads h l set p, leads_below h l set p)

pub under_is_a_chain : UnderIsAChain
under_is_a_chain h lawful set p = let l = lawful_parts h lawful in (under_leads h l set p, leads_under h l set p)

-- ---- chains end

ended : (n : ℕ) (h : Holdings) (o : Option Place) → ends n h o ≡ true → option_and_then (after_origins n h) o ≡ None
ended n h None end = refl
ended zero h (Some o) end = absurd (cc end)
ended (suc n) h (Some o) end = ended n h (origin_at h o) end

pub chains_end : ChainsEnd
chains_end h lawful p held =
    let l = lawful_parts h lawful in
    ended (length h) h (Some p)
    (ends_within_length h (λ q o m is from. let origin = l.origin q o m is from in (origin.held, origin.is)) (suc (length h)) (Some p) (λ q same. held_as q same) (chain_ends h l p))
  where
    some_of : (o : Option Held) → is_some o ≡ true → (m : Held) × (o ≡ Some m)
    some_of None is = absurd (cc is)
    some_of (Some m) is = (m, refl)

    held_as : (q : Place) → Some p ≡ Some q → (m : Held) × (at h q ≡ Some m)
    held_as q same = let one : p ≡ q = cc in some_of (at h q) (subst (λ x. is_held h x ≡ true) one held)

chains_are_held_from : (h : Holdings) → IsLawful h → (n : ℕ) (p o : Place) → is_held h p ≡ true → after_origins n h p ≡ Some o → is_held h o ≡ true
chains_are_held_from h l zero p o held is = let same : p ≡ o = cc in subst (λ q. is_held h q ≡ true) same held
chains_are_held_from h l (suc n) p o held is = by (origin_at h p) refl is (λ q held_q is_q. chains_are_held_from h l n q o held_q is_q)
  where
    by : (q : Option Place) → origin_at h p ≡ q → option_and_then (after_origins n h) q ≡ Some o
        → ((q : Place) → is_held h q ≡ true → after_origins n h q ≡ Some o → is_held h o ≡ true) → is_held h o ≡ true
    by None from is rest = absurd (cc is)
    by (Some q) from is rest = rest q (origin_is_held h l p q from) is

pub chains_are_held : ChainsAreHeld
chains_are_held h lawful p held n o is = chains_are_held_from h (lawful_parts h lawful) n p o held is

pub below_both_sets : BelowBothSets
below_both_sets h lawful X Y p = below-union h (lawful_parts h lawful) X Y p

pub none_from_itself : NoneFromItself
none_from_itself h lawful p = under_self h (lawful_parts h lawful) p

-- ---- nest or apart

pub nest_or_apart : NestOrApart
nest_or_apart h lawful c d = by (is_below h (only d) c) (is_below h (only c) d) refl refl
  where
    l : IsLawful h
    l = lawful_parts h lawful

    by : (x y : Bool) → is_below h (only d) c ≡ x → is_below h (only c) d ≡ y
        → ((p : Place) → is_below h (only c) p ≡ true → is_below h (only d) p ≡ true)
        ⊎ ((p : Place) → is_below h (only d) p ≡ true → is_below h (only c) p ≡ true)
        ⊎ ((p : Place) → is_below h (only c) p ≡ true → is_below h (only d) p ≡ true → ⊥)
    by true y c_below d_below = inl (λ p. below_trans h l (only d) c p c_below)
    by false true c_below d_below = inr (inl (λ p. below_trans h l (only c) d p d_below))
    by false false c_not d_not = inr (inr (λ p below_c below_d. neither (below_nest h l c d p below_c below_d)))
      where
        neither : (is_below h (only c) d ≡ true) ⊎ (is_below h (only d) c ≡ true) → ⊥
        neither (inl d_below) = cc (d_below, d_not)
        neither (inr c_below) = cc (c_below, c_not)
