-- All numbers stay below that of the next place.
use Rattle.std.proofs.Common.{◌≡◌, ℕ, ◌+◌, ◌*◌, true, false, Bool, nat_lt, [], ◌∷◌, length, refl, sym, ap, ◌∙◌, subst, arith, if◌then◌else◌}
use Rattle.std.specs.List.{list_all}
use Rattle.std.proofs.lemmas.Bool.{and_parts}
use Rattle.std.proofs.lemmas.Bool.Decides.{nat_tests}
use Rattle.std.proofs.lemmas.List.{length-map}
use Rattle.space.specs.declared.place.Place.{Place}
use Rattle.space.specs.Place.{same_place}
use Rattle.maptree.specs.Origins.{Origins, renamed, place_at}
use Rattle.page_tests.proofs.trees.large.Numbered.rename.Goals as goal

-- a place, or the one of this number in its stead
one : (n : ℕ) (b : Bool) (p q : Place) → q.page * 512 + q.space ≡ n → nat_lt (p.page * 512 + p.space) n ≡ true
    → nat_lt ((if b then q else p).page * 512 + (if b then q else p).space) (n + 1) ≡ true
one n true p q is less = same (q.page * 512 + q.space) n is
  where
    same : (m n : ℕ) → m ≡ n → nat_lt m (n + 1) ≡ true
    same m n is = grind (arith, nat_tests)
one n false p q is less = more (p.page * 512 + p.space) n less
  where
    more : (m n : ℕ) → nat_lt m n ≡ true → nat_lt m (n + 1) ≡ true
    more m n less = grind (arith, nat_tests)

all_below : (n : ℕ) (p q : Place) (os : Origins) → q.page * 512 + q.space ≡ n → list_all (λ o. nat_lt (o.0.page * 512 + o.0.space) n) os ≡ true
    → list_all (λ o. nat_lt (o.0.page * 512 + o.0.space) (n + 1)) (renamed p q os) ≡ true
all_below n p q [] is below = refl
all_below n p q (o ∷ os) is below =
    let parts = and_parts (nat_lt (o.0.page * 512 + o.0.space) n) (list_all (λ o. nat_lt (o.0.page * 512 + o.0.space) n) os) below in
    rw (one n (same_place p o.0) o.0 q is parts.0) (all_below n p q os is parts.1)

pub invariant_of-self : goal.invariant_of-self
invariant_of-self g c =
    let p = place_at c.args.self.now.tree.links c.args.at c.fresh-place.result in
    let q = c.fresh-place.result in
    let links = c.rename.ensures.links c.fresh-place.result in
    let here = all_below c.args.self.now.next p q c.args.self.now.tree.links c.fresh-place.ensures.number c.args.self.now.below in
    record {
      some = c.args.self.now.some;
      counted = c.args.self.now.counted ∙ sym (ap length links ∙ length-map _ _);
      below = subst (λ n. list_all (λ o. nat_lt (o.0.page * 512 + o.0.space) n) c.rename.new.self.links ≡ true) (sym c.in-Some.ensures.1)
          (subst (λ os. list_all (λ o. nat_lt (o.0.page * 512 + o.0.space) (c.args.self.now.next + 1)) os ≡ true) (sym links) here);
    }
