-- All numbers stay below that of the next place.
use Rattle.std.proofs.Common.{◌≡◌, ℕ, zero, suc, ◌+◌, ◌*◌, true, nat_lt, [], ◌∷◌, length, insert, Option, Some, refl, sym, ap, ◌∙◌, subst, arith}
use Rattle.std.specs.List.{list_all}
use Rattle.std.proofs.lemmas.Bool.{and_parts}
use Rattle.std.proofs.lemmas.Bool.Decides.{nat_tests}
use Rattle.std.proofs.lemmas.List.Edits.{length-insert}
use Rattle.space.specs.declared.place.Place.{Place}
use Rattle.maptree.specs.Origins.{Origins, place_at}
use Rattle.page_tests.proofs.trees.large.Numbered.grow.Goals as goal

-- a test of one number more
one_more : (m n : ℕ) → nat_lt m n ≡ true → nat_lt m (n + 1) ≡ true
one_more m n less = grind (arith, nat_tests)

-- all places below one number more
raised : (n : ℕ) (os : Origins) → list_all (λ o. nat_lt (o.0.page * 512 + o.0.space) n) os ≡ true → list_all (λ o. nat_lt (o.0.page * 512 + o.0.space) (n + 1)) os ≡ true
raised n [] below = refl
raised n (o ∷ os) below =
    let parts = and_parts (nat_lt (o.0.page * 512 + o.0.space) n) (list_all (λ o. nat_lt (o.0.page * 512 + o.0.space) n) os) below in
    rw (one_more (o.0.page * 512 + o.0.space) n parts.0) (raised n os parts.1)

-- with the place of that number
grown : (n i : ℕ) (p : Place) (q : Option Place) (os : Origins) → p.page * 512 + p.space ≡ n → list_all (λ o. nat_lt (o.0.page * 512 + o.0.space) n) os ≡ true
    → list_all (λ o. nat_lt (o.0.page * 512 + o.0.space) (n + 1)) (insert os i (p, q)) ≡ true
grown n zero p q os is below = rw (nat_lt_is (p.page * 512 + p.space) n is) (raised n os below)
  where
    nat_lt_is : (m n : ℕ) → m ≡ n → nat_lt m (n + 1) ≡ true
    nat_lt_is m n is = grind (arith, nat_tests)
grown n (suc i) p q [] is below = rw (nat_lt_is (p.page * 512 + p.space) n is) refl
  where
    nat_lt_is : (m n : ℕ) → m ≡ n → nat_lt m (n + 1) ≡ true
    nat_lt_is m n is = grind (arith, nat_tests)
grown n (suc i) p q (o ∷ os) is below =
    let parts = and_parts (nat_lt (o.0.page * 512 + o.0.space) n) (list_all (λ o. nat_lt (o.0.page * 512 + o.0.space) n) os) below in
    rw (one_more (o.0.page * 512 + o.0.space) n parts.0) (grown n i p q os is parts.1)

pub invariant_of-self-2 : goal.invariant_of-self-2
invariant_of-self-2 g c =
    let before = c.in_ok-reserve.ensures.links in
    let o = place_at c.reserve.new.self.links c.args.at c.fresh-place.result in
    let links = c.insert_below.ensures.links c.fresh-place.result in
    let below = subst (λ os. list_all (λ o. nat_lt (o.0.page * 512 + o.0.space) c.args.self.now.next) os ≡ true) (sym before) c.args.self.now.below in
    let here = grown c.args.self.now.next (c.args.at + 1) c.fresh-place.result (Some o) c.reserve.new.self.links c.fresh-place.ensures.number below in
    let counted = c.args.self.now.counted ∙ sym (ap length before) in
    let more = ap length links ∙ length-insert _ _ _ (omega (arith, counted, c.requires)) in
    record {
      some = omega (arith, c.in-Some-Some.ensures.1);
      counted = omega (arith, counted, more, c.in-Some-Some.ensures.1);
      below = subst (λ n. list_all (λ o. nat_lt (o.0.page * 512 + o.0.space) n) c.insert_below.new.self.links ≡ true) (sym c.in-Some-Some.ensures'.1)
          (subst (λ os. list_all (λ o. nat_lt (o.0.page * 512 + o.0.space) (c.args.self.now.next + 1)) os ≡ true) (sym links) here);
    }
