-- A chain of origins that ends has at most as many places as are held.
use Rattle.std.proofs.Common.{◌≡◌, ℕ, zero, suc, ◌+◌, ◌-◌, ◌≤◌, true, false, Bool, length, [], ◌∷◌, Option, Some, None, refl, sym, ap, ◌∙◌, subst, arith, ◌⊎◌, inl, inr, if◌then◌else◌}
use Rattle.std.specs.Option.{option_and_then}
use Rattle.space.specs.declared.place.Place.{Place}
use Rattle.model.specs.Definitions.Holdings.{Held, Holdings, at, origin_at}
use Rattle.model.specs.Definitions.Lawful.{ends}
use Rattle.model.proofs.Lookups.{held_cases}

-- how many mappings pass a test
abbrev passing : (Place × Held → Bool) → Holdings → ℕ
passing test [] = 0
passing test (e ∷ h) = (if test e then 1 else 0) + passing test h

passing-most : (test : Place × Held → Bool) (h : Holdings) → passing test h ≤ length h
passing-most test [] = omega arith
passing-most test (e ∷ h) =
    let rest = passing-most test h in
    elim (test e) as (λ b. (if b then 1 else 0) + passing test h ≤ suc (length h)) [ true ↦ omega (arith, rest) | false ↦ omega (arith, rest) ]

add_upto : (a b : Bool) (m n : ℕ) → (a ≡ true → b ≡ true) → m ≤ n → (if a then 1 else 0) + m ≤ (if b then 1 else 0) + n
add_upto true b m n more upto = rw (more refl) (omega arith)
add_upto false true m n more upto = omega arith
add_upto false false m n more upto = omega arith

-- a test that passes more
module _ (test more : Place × Held → Bool) (weaker : (e : Place × Held) → test e ≡ true → more e ≡ true) where
  passing-upto : (h : Holdings) → passing test h ≤ passing more h
  passing-upto [] = omega arith
  passing-upto (e ∷ h) = add_upto (test e) (more e) (passing test h) (passing more h) (weaker e) (passing-upto h)

  passing-below : (h : Holdings) (p : Place) (m : Held) → at h p ≡ Some m → test (p, m) ≡ false → more (p, m) ≡ true → passing test h + 1 ≤ passing more h
  passing-below [] p m held fails passes = absurd (cc held)
  passing-below (e ∷ h) p m held fails passes = by (held_cases e h p m held) (λ later. passing-below h p m later fails passes)
    where
      by : ((p ≡ e.0) × (m ≡ e.1)) ⊎ (at h p ≡ Some m) → (at h p ≡ Some m → passing test h + 1 ≤ passing more h) → passing test (e ∷ h) + 1 ≤ passing more (e ∷ h)
      by (inl (same, is)) rest =
          let others = passing-upto h in
          let here : (p, m) ≡ e = λ i. (same i, is i) in
          let not_it : test e ≡ false = subst (λ d. test d ≡ false) here fails in
          let it : more e ≡ true = subst (λ d. more d ≡ true) here passes in
          rw (not_it, it) (omega (arith, others))
      by (inr held) rest =
          let first = add_upto (test e) (more e) (passing test h + 1) (passing more h) (weaker e) (rest held) in
          omega (arith, first)

-- each origin is held
abbrev pub OriginsHeld : Holdings → Type 0
OriginsHeld h = (p o : Place) (m : Held) → at h p ≡ Some m → m.origin ≡ Some o → (k : Held) × (at h o ≡ Some k)

abbrev pub IsHeldIfAny : Holdings → Option Place → Type 0
IsHeldIfAny h o = (q : Place) → o ≡ Some q → (k : Held) × (at h q ≡ Some k)

pub ends_longer : (n : ℕ) (h : Holdings) (o : Option Place) → ends n h o ≡ true → ends (suc n) h o ≡ true
ends_longer zero h None end = refl
ends_longer zero h (Some o) end = absurd (cc end)
ends_longer (suc n) h None end = refl
ends_longer (suc n) h (Some o) end = ends_longer n h (origin_at h o) end

module _ (h : Holdings) (held : OriginsHeld h) where
  abbrev ending_within : ℕ → Place × Held → Bool
  ending_within n e = ends n h e.1.origin

  more_end : (n : ℕ) (e : Place × Held) → ending_within n e ≡ true → ending_within (suc n) e ≡ true
  more_end n e end = ends_longer n h e.1.origin end

  -- a chain of more than n places has a place for each number of places that are left
  many_held : (n : ℕ) (o : Option Place) → IsHeldIfAny h o → ends (suc n) h o ≡ true → ends n h o ≡ false → n + 1 ≤ passing (ending_within n) h
  many_held n None is_held end long = absurd (cc (long, ends_none n))
    where
      ends_none : (n : ℕ) → ends n h None ≡ true
      ends_none zero = refl
      ends_none (suc n) = refl
  many_held zero (Some q) is_held end long =
      let k = is_held q refl in
      let some = passing-below (λ e. false) (ending_within 0) (λ e no. absurd (cc no)) h q k.0 k.1 refl (subst (λ m. ends 0 h (option_and_then (λ m. m.origin) m) ≡ true) k.1 end) in
      omega (arith, some)
  many_held (suc n) (Some q) is_held end long =
      let k = is_held q refl in
      let here : origin_at h q ≡ k.0.origin = ap (option_and_then (λ m. m.origin)) k.1 in
      let rest = many_held n (origin_at h q) (λ r is. held q r k.0 k.1 (sym here ∙ is)) end long in
      let next = passing-below (ending_within n) (ending_within (suc n)) (more_end n) h q k.0 k.1 (subst (λ o. ends n h o ≡ false) here long) (subst (λ o. ends (suc n) h o ≡ true) here end) in
      omega (arith, rest, next)

  ends_upto : (d n k : ℕ) (o : Option Place) → n + d ≡ k → ends n h o ≡ true → ends k h o ≡ true
  ends_upto zero n k o is end = let same : n ≡ k = omega arith in subst (λ x. ends x h o ≡ true) same end
  ends_upto (suc d) n k o is end = ends_upto d (suc n) k o (omega arith) (ends_longer n h o end)

  -- a chain that ends does so within the number of places that are held
  pub ends_within_length : (n : ℕ) (o : Option Place) → IsHeldIfAny h o → ends n h o ≡ true → ends (length h) h o ≡ true
  ends_within_length zero o is_held end = ends_upto (length h) 0 (length h) o (omega arith) end
  ends_within_length (suc n) o is_held end = elim (ends n h o) as (λ b. ends n h o ≡ b → ends (length h) h o ≡ true) [
    | true ↦ λ sooner. ends_within_length n o is_held sooner
    | false ↦ λ long.
        let many = many_held n o is_held end long in
        let most = passing-most (ending_within n) h in
        ends_upto (length h - suc n) (suc n) (length h) o (omega (arith, many, most)) end
  ] refl
