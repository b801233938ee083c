-- A block of which no node is less deep is passed, or the last one stands in it.
use Rattle.std.proofs.Common.{◌≡◌, ◌≤◌, ◌<◌, ◌+◌, ◌-◌, length, take, subst, ap, rules, arith, ◌∙◌, sym, Some, None}
use Rattle.std.proofs.lemmas.List.{take_all}
use Rattle.maptree.specs.Nodes.{last_less}
use Rattle.maptree.specs.Blocks.{nodes_in, AreMinDepths}
use Rattle.maptree.proofs.LastLess.{later}
use Rattle.maptree.proofs.InBlocks.{as_read, read_of, last_within, one_back}
use Rattle.maptree.proofs.MinDepths.{block_not_above, blocks_not_above}
use Rattle.maptree.proofs.blocks.Blocks.last_before.Goals as goal

pub loop-k-init : goal.loop-k-init
loop-k-init c =
    let bs = c.args.self.now.blocks in
    let ls = c.self.inside.min_depths.min_depths in
    let same : c.self.inside.blocks.items ≡ bs = ap (λ v. v.blocks) c.self.view_is in
    let min_depths = subst (λ l. AreMinDepths l ls) same c.self.invariant.7 in
    let from = c.pass_back-end.result in
    let upto = c.pass_back-end.ensures.within in
    let end : from + (c.args.block - from) ≡ c.args.block = omega (arith, upto) in
    let within = c.requires in
    let low = c.pass_back-end.ensures.not_below in
    ap (λ k. last_less c.args.depth (nodes_in (take k bs))) (sym end)
    ∙ blocks_not_above bs ls min_depths c.args.depth from (c.args.block - from) (omega (arith, end, within)) (λ k under less. low k under (omega (arith, less, end)))

pub returns-in-Some-clause-inside : goal.returns-in-Some-clause-inside
returns-in-Some-clause-inside c =
    let bs = c.args.self.now.blocks in
    let items = c.self.inside.blocks.items in
    let block = c.index-block.result.now in
    let same : items ≡ bs = ap (λ v. v.blocks) c.self.view_is in
    let some = c.loop-k-test.true in
    let upto : c.loop-k.k ≤ length bs = search (rules, arith) in
    let within : c.loop-k.k - 1 < length bs = omega (arith, some, upto) in
    let read = ap length (as_read bs (c.loop-k.k - 1) block within (read_of items bs (c.loop-k.k - 1) block same c.index-block.ensures)) in
    let all : take c.len.result block ≡ block = take_all c.len.result block (search (rules, arith)) in
    let inside = last_within c.args.depth block c.in-Some.offset (sym (ap (last_less c.args.depth) all) ∙ sym c.last_above.ensures ∙ c.in-Some.is) in
    record { within = within; inside = omega (arith, inside, read) }

pub returns-in-Some-clause-last : goal.returns-in-Some-clause-last
returns-in-Some-clause-last c =
    let bs = c.args.self.now.blocks in
    let items = c.self.inside.blocks.items in
    let block = c.index-block.result.now in
    let same : items ≡ bs = ap (λ v. v.blocks) c.self.view_is in
    let within : c.loop-k.k ≤ length bs = search (rules, arith) in
    let back = one_back bs c.loop-k.k block c.loop-k-test.true within (read_of items bs (c.loop-k.k - 1) block same c.index-block.ensures) in
    let all : take c.len.result block ≡ block = take_all c.len.result block (search (rules, arith)) in
    let here : last_less c.args.depth block ≡ Some c.in-Some.offset = sym (ap (last_less c.args.depth) all) ∙ sym c.last_above.ensures ∙ c.in-Some.is in
    sym (c.loop-k.invariant ∙ back.last c.args.depth ∙ ap (λ o. later (length (nodes_in (take (c.loop-k.k - 1) bs))) o (last_less c.args.depth (nodes_in (take (c.loop-k.k - 1) bs)))) here)

pub loop-k-preserved-in_default : goal.loop-k-preserved-in_default
loop-k-preserved-in_default c =
    let bs = c.args.self.now.blocks in
    let block = c.index-block.result.now in
    let same : c.self.inside.blocks.items ≡ bs = ap (λ v. v.blocks) c.self.view_is in
    let within : c.loop-k.k ≤ length bs = search (rules, arith) in
    let back = one_back bs c.loop-k.k block c.loop-k-test.true within (read_of c.self.inside.blocks.items bs (c.loop-k.k - 1) block same c.index-block.ensures) in
    let all : take c.len.result block ≡ block = take_all c.len.result block (search (rules, arith)) in
    let none : last_less c.args.depth block ≡ None = sym (ap (last_less c.args.depth) all) ∙ sym c.last_above.ensures ∙ search rules in
    c.loop-k.invariant ∙ back.last c.args.depth ∙ ap (λ o. later (length (nodes_in (take (c.loop-k.k - 1) bs))) o (last_less c.args.depth (nodes_in (take (c.loop-k.k - 1) bs)))) none

pub loop-k-preserved : goal.loop-k-preserved
loop-k-preserved c =
    let bs = c.args.self.now.blocks in
    let ls = c.self.inside.min_depths.min_depths in
    let k = c.loop-k.k - 1 in
    let same : c.self.inside.blocks.items ≡ bs = ap (λ v. v.blocks) c.self.view_is in
    let within : k < length bs = search (rules, arith) in
    let one : k + 1 ≡ c.loop-k.k = let some = c.loop-k-test.true in omega (arith, some) in
    let min_depths = subst (λ l. AreMinDepths l ls) same c.self.invariant.7 in
    let low = subst (λ n. c.args.depth ≤ n) c.get.ensures c.if-get-depth.false in
    c.loop-k.invariant ∙ ap (λ n. last_less c.args.depth (nodes_in (take n bs))) (sym one) ∙ block_not_above bs ls k min_depths within c.args.depth low
