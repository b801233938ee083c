-- One more place is not in the tree.
use Rattle.std.proofs.Common.{◌≡◌, ℕ, suc, ◌+◌, ◌<◌, ◌≤◌, ◌&&◌, ◌||◌, true, false, Bool, not, nat_lt, List, [], ◌∷◌, length, take, get_or, Option, Some, None, refl, sym, ap, ◌∙◌, arith, if◌then◌else◌}
use Rattle.std.specs.Option.{is_some}
use Rattle.std.specs.List.{list_all, list_any, position, prefix_len}
use Rattle.std.proofs.lemmas.Bool.{and_parts, ltb-false}
use Rattle.std.proofs.lemmas.List.Folds.{list_any_more}
use Rattle.space.specs.declared.place.Place.{Place}
use Rattle.space.specs.Place.{same_place}
use Rattle.maptree.specs.Origins.{Origins}
use Rattle.space.proofs.Lists.{blank}
use Rattle.page_tests.proofs.trees.cuts.are_absent.Goals as goal

-- at no place no node stands
none_yet : (os : Origins) → list_all (λ o. not (list_any (λ q. same_place q o.0) [])) os ≡ true
none_yet [] = refl
none_yet (o ∷ os) = none_yet os

-- a place that has no position is that of no node
not_there : (p : Place) (os : Origins) → position (λ o. same_place p o.0) os ≡ None → list_all (λ o. not (same_place p o.0)) os ≡ true
not_there p os none =
    all os (ltb-false (prefix_len (λ o. not (same_place p o.0)) os) (length os) (past (nat_lt (prefix_len (λ o. not (same_place p o.0)) os) (length os)) (prefix_len (λ o. not (same_place p o.0)) os) none))
  where
    past : (b : Bool) (x : ℕ) → (if b then Some x else None) ≡ None → b ≡ false
    past true x is = absurd (cc is)
    past false x is = refl

    all : (os : Origins) → length os ≤ prefix_len (λ o. not (same_place p o.0)) os → list_all (λ o. not (same_place p o.0)) os ≡ true
    all [] upto = refl
    all (o ∷ os) upto = by (same_place p o.0) upto (all os)
      where
        by : (b : Bool) → suc (length os) ≤ (if not b then 1 + prefix_len (λ o. not (same_place p o.0)) os else 0)
            → (length os ≤ prefix_len (λ o. not (same_place p o.0)) os → list_all (λ o. not (same_place p o.0)) os ≡ true)
            → (not b && list_all (λ o. not (same_place p o.0)) os) ≡ true
        by true upto rest = absurd (omega (arith, upto))
        by false upto rest = rest (omega (arith, upto))

-- one more place
one_more : (gone : List Place) (i : ℕ) (p d : Place) → i < length gone → p ≡ get_or gone i d → (os : Origins) → list_all (λ o. not (same_place p o.0)) os ≡ true
    → list_all (λ o. not (list_any (λ q. same_place q o.0) (take i gone))) os ≡ true → list_all (λ o. not (list_any (λ q. same_place q o.0) (take (i + 1) gone))) os ≡ true
one_more gone i p d within is [] here so_far = refl
one_more gone i p d within is (o ∷ os) here so_far =
    let a = and_parts (not (same_place p o.0)) (list_all (λ o. not (same_place p o.0)) os) here in
    let b = and_parts (not (list_any (λ q. same_place q o.0) (take i gone))) (list_all (λ o. not (list_any (λ q. same_place q o.0) (take i gone))) os) so_far in
    let more = list_any_more (λ q. same_place q o.0) gone i d within in
    let rest = one_more gone i p d within is os a.1 b.1 in
    both (list_any (λ q. same_place q o.0) (take (i + 1) gone)) (list_any (λ q. same_place q o.0) (take i gone)) (same_place p o.0) _ (more ∙ ap (λ x. list_any (λ q. same_place q o.0) (take i gone) || same_place x o.0) (sym is)) a.0 b.0 rest
  where
    both : (x y z r : Bool) → x ≡ (y || z) → not z ≡ true → not y ≡ true → r ≡ true → (not x && r) ≡ true
    both x true z r e no_z no_y rest = absurd (cc no_y)
    both x false true r e no_z no_y rest = absurd (cc no_z)
    both x false false r e no_z no_y rest = ap (λ b. not b && r) e ∙ rest

none_found : (r : Option ℕ) → is_some r ≡ false → r ≡ None
none_found (Some i) is = absurd (cc is)
none_found None is = refl

pub loop-place-init : goal.loop-place-init
loop-place-init c = none_yet c.args.tree.now.links

pub loop-place-preserved : goal.loop-place-preserved
loop-place-preserved c =
    let p = get_or c.args.gone.now c.loop-place.place-index blank.place in
    let none = not_there p c.args.tree.now.links (sym c.find.ensures ∙ none_found c.find.result (sym c.is_some.ensures ∙ c.if-is_some.false)) in
    one_more c.args.gone.now c.loop-place.place-index p blank.place c.loop-place-test.true refl c.args.tree.now.links none c.loop-place.invariant
