-- A place whose number is above all others is new.
use Rattle.std.proofs.Common.{◌≡◌, ℕ, ◌+◌, ◌*◌, true, false, not, nat_lt, [], ◌∷◌, length, Some, None, refl, sym, ap, ◌∙◌, arith, if◌then◌else◌, ◌⊎◌, inl, inr}
use Rattle.std.specs.List.{list_all, prefix_len}
use Rattle.std.proofs.lemmas.Bool.{and_parts}
use Rattle.std.proofs.lemmas.Bool.Decides.{nat_tests}
use Rattle.space.specs.declared.place.Place.{Place}
use Rattle.space.specs.Place.{same_place}
use Rattle.space.proofs.Places.{same_or_apart}
use Rattle.maptree.specs.Origins.{Origins}
use Rattle.page_tests.proofs.trees.large.Numbered.fresh.Goals as goal

-- no place with a smaller number is this one
all_apart : (n : ℕ) (p : Place) → p.page * 512 + p.space ≡ n → (os : Origins) → list_all (λ o. nat_lt (o.0.page * 512 + o.0.space) n) os ≡ true
    → prefix_len (λ o. not (same_place p o.0)) os ≡ length os
all_apart n p is [] below = refl
all_apart n p is (o ∷ os) below =
    let parts = and_parts (nat_lt (o.0.page * 512 + o.0.space) n) (list_all (λ o. nat_lt (o.0.page * 512 + o.0.space) n) os) below in
    by (same_or_apart p o.0) parts.0 (all_apart n p is os parts.1)
  where
    not_below : (m n : ℕ) → m ≡ n → nat_lt m n ≡ true → ⊥
    not_below m n is less = grind (arith, nat_tests)

    by : (p ≡ o.0) ⊎ (same_place p o.0 ≡ false) → nat_lt (o.0.page * 512 + o.0.space) n ≡ true → prefix_len (λ o. not (same_place p o.0)) os ≡ length os
        → prefix_len (λ o. not (same_place p o.0)) (o ∷ os) ≡ length (o ∷ os)
    by (inl same) less rest = absurd (not_below (o.0.page * 512 + o.0.space) n (ap (λ q. q.page * 512 + q.space) (sym same) ∙ is) less)
    by (inr apart) less rest = rw apart (omega (arith, rest))

-- what stands past the end stands nowhere
nowhere : (m n : ℕ) → m ≡ n → (if nat_lt m n then Some m else None) ≡ None
nowhere m n is = rw (not_less m n is) refl
  where
    not_less : (m n : ℕ) → m ≡ n → nat_lt m n ≡ false
    not_less m n is = grind (arith, nat_tests)

pub returns-clause-new : goal.returns-clause-new
returns-clause-new c =
    let p = c.nth_place.result in
    let os = c.args.self.now.tree.links in
    nowhere (prefix_len (λ o. not (same_place p o.0)) os) (length os) (all_apart c.args.self.now.next p c.nth_place.ensures os c.args.self.now.below)
