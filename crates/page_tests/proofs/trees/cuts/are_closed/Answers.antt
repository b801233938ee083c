-- What is kept is kept with its origin.
use Rattle.std.proofs.Common.{◌≡◌, ℕ, suc, ◌<◌, true, false, Bool, not, [], ◌∷◌, length, Some, None, option_map, sym, ap, ◌∙◌, subst, arith, ◌⊎◌, inl, inr, below_more}
use Rattle.std.specs.List.{list_any}
use Rattle.space.specs.declared.place.Place.{Place}
use Rattle.space.specs.Place.{same_place}
use Rattle.space.proofs.Places.{same_or_apart}
use Rattle.maptree.specs.Origins.{Origins, origin_in, place_at}
use Rattle.page_tests.proofs.trees.cuts.are_closed.Goals as goal
use Rattle.page_tests.proofs.trees.cuts.are_closed.Goals.{in-Some+else-is_one_of, else-is_one_of-via-then-is_one_of+else-not-is_one_of, else-is_one_of-via-else-is_one_of, in_default}

-- what has an origin stands at a position
stands_at : (os : Origins) (p o d : Place) → origin_in os p ≡ Some o → (k : ℕ) × (k < length os) × (place_at os k d ≡ p)
stands_at [] p o d is = absurd (cc is)
stands_at (e ∷ os) p o d is = by (same_or_apart p e.0) (λ (rest : origin_in os p ≡ Some o). stands_at os p o d rest)
  where
    by : (p ≡ e.0) ⊎ (same_place p e.0 ≡ false) → (origin_in os p ≡ Some o → (k : ℕ) × (k < length os) × (place_at os k d ≡ p))
        → (k : ℕ) × (k < length (e ∷ os)) × (place_at (e ∷ os) k d ≡ p)
    by (inl same) rest = (0, omega arith, sym same)
    by (inr apart) rest =
        let there = rest (rw apart at is) in
        (suc there.0, omega (arith, there.1), there.2)

clash : (b : Bool) → b ≡ true → not b ≡ true → ⊥
clash true is kept = cc kept
clash false is kept = cc is

none_some : {A : Type 0} {o : A} → None ≡ Some o → ⊥
none_some is = cc is

pub loop-i-preserved : goal.loop-i-preserved
loop-i-preserved c =
    below_more (λ k. (d o : Place) → origin_in c.args.tree.now.links (place_at c.args.tree.now.links k d) ≡ Some o
    → not (list_any (λ q. same_place q (place_at c.args.tree.now.links k d)) c.args.gone.now) ≡ true → not (list_any (λ q. same_place q o) c.args.gone.now) ≡ true)
    c.loop-i.i c.loop-i.invariant
    (λ d o is kept. elim c.match-origin_of.branch [
      | in-Some+else-is_one_of w ↦ elim w.else-is_one_of.branch [
        | else-is_one_of-via-then-is_one_of+else-not-is_one_of v ↦
            absurd (clash _ (ap (λ x. list_any (λ q. same_place q x) c.args.gone.now) (sym (v.node-then-is_one_of.ensures.place d)) ∙ sym v.is_one_of-then-is_one_of.ensures ∙ v.if-not-is_one_of.false) kept)
        | else-is_one_of-via-else-is_one_of v ↦
            let above : Some (place_at c.args.tree.now.links w.in-Some.above d) ≡ Some o =
            sym (c.origin_of.ensures.origin d ∙ ap (option_map (λ r. place_at c.args.tree.now.links r d)) w.in-Some.is) ∙ is in
            let same : place_at c.args.tree.now.links w.in-Some.above d ≡ o = cc above in
            ap not (ap (λ x. list_any (λ q. same_place q x) c.args.gone.now) (sym same ∙ sym (w.node.ensures.place d)) ∙ sym w.is_one_of.ensures ∙ v.if-is_one_of.false)
      ]
      | in_default w ↦
          absurd (none_some (sym (c.origin_of.ensures.origin d ∙ ap (option_map (λ r. place_at c.args.tree.now.links r d)) w.in_default.is) ∙ is))
    ])

pub returns : goal.returns
returns c = λ _ p o is kept.
    let os = c.args.tree.now.links in
    let there = stands_at os p o p is in
    let within : there.0 < c.loop-i.i = omega (arith, there.1, c.loop-i-test.false, c.requires) in
    c.loop-i.invariant there.0 within p o (subst (λ x. origin_in os x ≡ Some o) (sym there.2) is) (subst (λ x. not (list_any (λ q. same_place q x) c.args.gone.now) ≡ true) (sym there.2) kept)
