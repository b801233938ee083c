-- One block more has its new places.
use Rattle.std.proofs.Common.{◌≡◌, ◌++◌, ◌+◌, suc, [], map, length, take, drop, set, get_or, ap, ◌∙◌, arith, rules}
use Rattle.std.proofs.lemmas.List.{get_or_default}
use Rattle.maptree.specs.PlaceMaps.{place_for}
use Rattle.maptree.specs.Renamings.{nodes_renamed}
use Rattle.maptree.proofs.BlockChanges.{mapped_more, to_come}
use Rattle.maptree.proofs.blocks.rename_blocks.Goals as goal

pub loop-block-preserved : goal.loop-block-preserved
loop-block-preserved c =
    let f = nodes_renamed (place_for c.args.new.now) in
    let xs = c.args.blocks.now in
    let i = c.loop-block.block-index in
    let one : suc i ≡ i + 1 = omega arith in
    let now = c.loop-block.blocks in
    let same : length now ≡ length xs = search (rules, arith) in
    let within = c.loop-block-test.true in
    let here : get_or now i c.block-item.result ≡ get_or xs i [] =
    get_or_default now i c.block-item.result [] (omega (arith, same, within)) ∙ ap (λ l. get_or l i []) c.loop-block.invariant ∙ to_come f xs i [] within in
    ap (λ b. set now i b) (c.rename_all.ensures ∙ ap f here) ∙ ap (λ l. set l i (f (get_or xs i []))) c.loop-block.invariant
    ∙ mapped_more f xs i [] within ∙ ap (λ n. map f (take n xs) ++ drop n xs) one
