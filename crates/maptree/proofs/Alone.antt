-- Ranges taken out of a list of one node, or of none, or of a root and one node below it.
use Rattle.std.proofs.Common.{◌≡◌, ◌≢◌, ◌<◌, ◌≤◌, ◌-◌, ◌++◌, ℕ, zero, suc, true, List, [], ◌∷◌, length, take, get_or, refl, sym, ap, ◌∙◌, subst, arith}
use Rattle.std.proofs.Math.Seq.{drop-nil, take-nil}
use Rattle.std.proofs.lemmas.Bool.{true≢false}
use Rattle.std.specs.List.{slice_range}
use Rattle.std.specs.declared.ops.Range.{Range}
use Rattle.space.specs.declared.place.Place.{Place}
use Rattle.space.specs.declared.node.Node.{Node}
use Rattle.maptree.specs.Nodes.{is_forest}
use Rattle.maptree.specs.Origins.{AreRising}
use Rattle.maptree.specs.Cuts.{outside}
use Rattle.maptree.specs.TreeForms.{two_nodes}
use Rattle.maptree.proofs.Cuttings.{rising_within}

-- of no nodes none are left
pub none_left : (from : ℕ) (rs : List (Range ℕ)) → outside {A = Node} from rs [] ≡ []
none_left from [] = drop-nil from
none_left from (r ∷ rs) =
    let none : slice_range {X = Node} [] from r.start ≡ [] = rw (drop-nil {A = Node} from) (take-nil (r.start - from)) in
    rw none (none_left r.end rs)

-- behind the only node none is left
none_behind : (n : Node) (rs : List (Range ℕ)) → AreRising 1 rs 1 → outside 1 rs (n ∷ []) ≡ []
none_behind n [] rise = refl
none_behind n (r ∷ rs) rise = let upto = rising_within r.end rs 1 rise.2 in absurd (omega (arith, upto, rise.0, rise.1))

-- of one node none is left, if there is a range
pub one_left : (n : Node) (rs : List (Range ℕ)) → AreRising 0 rs 1 → 0 < length rs → outside 0 rs (n ∷ []) ≡ []
one_left n [] rise some = absurd (omega (arith, some))
one_left n (r ∷ rs) rise some =
    let upto = rising_within r.end rs 1 rise.2 in
    let first : r.start ≡ 0 = omega (arith, upto, rise.1) in
    let last : r.end ≡ 1 = omega (arith, upto, rise.1) in
    rw (first, last) (none_behind n rs (subst (λ k. AreRising k rs 1) last rise.2))

-- ---- a root and one node below it

-- behind both none is left
behind_both : (a b : Place) (rs : List (Range ℕ)) → AreRising 2 rs 2 → outside 2 rs (two_nodes a b) ≡ []
behind_both a b [] rise = refl
behind_both a b (r ∷ rs) rise = let upto = rising_within r.end rs 2 rise.2 in absurd (omega (arith, upto, rise.0, rise.1))

-- and where the root is gone, the node below it is gone too, since a forest is left
behind_root : (a b : Place) (rs : List (Range ℕ)) → AreRising 1 rs 2 → is_forest (outside 1 rs (two_nodes a b)) ≡ true → outside 1 rs (two_nodes a b) ≡ []
behind_root a b [] rise forest = absurd (true≢false (sym forest))
behind_root a b (r ∷ rs) rise forest =
    let upto = rising_within r.end rs 2 rise.2 in
    let first : r.start ≡ 1 = omega (arith, upto, rise.0, rise.1) in
    let last : r.end ≡ 2 = omega (arith, upto, rise.0, rise.1) in
    rw (first, last) (behind_both a b rs (subst (λ k. AreRising k rs 2) last rise.2))

behind_first : (a b : Place) (end : ℕ) (rs : List (Range ℕ)) → 0 < end → end ≤ 2 → AreRising end rs 2 → is_forest (outside end rs (two_nodes a b)) ≡ true → outside end rs (two_nodes a b) ≡ []
behind_first a b zero rs some upto rise forest = absurd (omega (arith, some))
behind_first a b (suc zero) rs some upto rise forest = behind_root a b rs rise forest
behind_first a b (suc (suc zero)) rs some upto rise forest = behind_both a b rs rise
behind_first a b (suc (suc (suc k))) rs some upto rise forest = absurd (omega (arith, upto))

-- of both those are left that stand before the first range
pub pair_left : (a b : Place) (rs : List (Range ℕ)) (d : Range ℕ) → AreRising 0 rs 2 → 0 < length rs → is_forest (outside 0 rs (two_nodes a b)) ≡ true → outside 0 rs (two_nodes a b) ≡ take (get_or rs 0 d).start (two_nodes a b)
pair_left a b [] d rise some forest = absurd (omega (arith, some))
pair_left a b (r ∷ rs) d rise some forest = by r.start refl
  where
    upto : r.end ≤ 2
    upto = rising_within r.end rs 2 rise.2

    by : (k : ℕ) → r.start ≡ k → outside 0 (r ∷ rs) (two_nodes a b) ≡ take r.start (two_nodes a b)
    by zero is =
        let left : is_forest (outside r.end rs (two_nodes a b)) ≡ true = subst (λ k. is_forest (slice_range (two_nodes a b) 0 k ++ outside r.end rs (two_nodes a b)) ≡ true) is forest in
        ap (λ k. slice_range (two_nodes a b) 0 k ++ outside r.end rs (two_nodes a b)) is
        ∙ behind_first a b r.end rs (omega (arith, rise.1)) upto rise.2 left ∙ ap (λ k. take k (two_nodes a b)) (sym is)
    by (suc zero) is =
        let last : r.end ≡ 2 = omega (arith, rise.1, upto, is) in
        ap (λ k. slice_range (two_nodes a b) 0 k ++ outside r.end rs (two_nodes a b)) is
        ∙ ap (λ k. slice_range (two_nodes a b) 0 1 ++ outside k rs (two_nodes a b)) last
        ∙ ap (λ l. slice_range (two_nodes a b) 0 1 ++ l) (behind_both a b rs (subst (λ k. AreRising k rs 2) last rise.2)) ∙ ap (λ k. take k (two_nodes a b)) (sym is)
    by (suc (suc k)) is = absurd (omega (arith, rise.1, upto, is))

-- where the first range does not begin in front, it begins behind the root
pub first_behind : (rs : List (Range ℕ)) (d : Range ℕ) → AreRising 0 rs 2 → 0 < length rs → (get_or rs 0 d).start ≢ 0 → (get_or rs 0 d).start ≡ 1
first_behind [] d rise some other = absurd (omega (arith, some))
first_behind (r ∷ rs) d rise some other = let upto = rising_within r.end rs 2 rise.2 in omega (arith, rise.1, upto, other)
