-- The first block has the nodes of both, and the second none.
use Rattle.std.proofs.Common.{◌≡◌, ℕ, zero, suc, ◌-◌, ◌<◌, ◌++◌, [], ◌∷◌, List, length, get_or, set, ap, ◌∙◌, sym, rules, arith}
use Rattle.std.proofs.lemmas.List.{append_assoc}
use Rattle.space.specs.declared.node.Node.{Node}
use Rattle.maptree.specs.Blocks.{nodes_in}
use Rattle.maptree.proofs.blocks.join.Goals as goal

-- the nodes of the first of some blocks moved to the last of those before them
moved : (fronts backs : List (List Node)) (j : ℕ) (front back : List Node) → suc j ≡ length fronts → 0 < length backs → front ≡ get_or fronts j front → back ≡ get_or backs 0 back
    → nodes_in (set fronts j (front ++ back) ++ set backs 0 []) ≡ nodes_in (fronts ++ backs)
moved [] backs j front back last some first second = absurd (omega (arith, last))
moved fronts [] j front back last some first second = absurd (omega (arith, some))
moved (x ∷ []) (y ∷ backs) zero front back last some first second =
    ap (λ l. (l ++ back) ++ nodes_in backs) first ∙ ap (λ l. (x ++ l) ++ nodes_in backs) second ∙ append_assoc x y (nodes_in backs)
moved (x ∷ z ∷ fronts) backs zero front back last some first second = absurd (omega (arith, last))
moved (x ∷ []) backs (suc j) front back last some first second = absurd (omega (arith, last))
moved (x ∷ z ∷ fronts) backs (suc j) front back last some first second =
    ap (λ l. x ++ l) (moved (z ∷ fronts) backs j front back (omega (arith, last)) some first second)

pub returns-clause-nodes : goal.returns-clause-nodes
returns-clause-nodes c =
    let fronts = c.split_at_mut-fronts.result.0.now in
    let backs = c.split_at_mut-fronts.result.1.now in
    let j = c.args.k - 1 in
    let front = c.index-fronts-k.result in
    let back = c.index-backs-0.result in
    let last : suc j ≡ length fronts = search (rules, arith, c.requires.some, c.split_at_mut-fronts.ensures.front_len) in
    let some : 0 < length backs = search (rules, arith, c.requires.within, c.split_at_mut-fronts.ensures.back_len) in
    let first : front ≡ get_or fronts j front = c.index-fronts-k.is in
    let second : back ≡ get_or backs 0 back = c.index-backs-0.is in
    let whole : fronts ++ backs ≡ c.args.blocks.now = search (rules, c.split_at_mut-fronts.ensures.value) in
    let one = c.extend.ensures ∙ ap (λ l. l ++ c.nodes.result.now) (sym first) ∙ ap (λ l. front ++ l) (c.nodes.ensures ∙ sym second) in
    ap (λ l. nodes_in (set fronts j l ++ set backs 0 c.clear.new.self)) one
    ∙ ap (λ l. nodes_in (set fronts j (front ++ back) ++ set backs 0 l)) c.clear.ensures
    ∙ moved fronts backs j front back last some first second
    ∙ ap nodes_in whole
