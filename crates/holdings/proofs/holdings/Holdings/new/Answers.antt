-- The words and trees of roots are sound, and their holdings are those of the start.
use Rattle.std.proofs.Common.{◌≡◌, sym, ap, ◌∙◌, subst}
use Rattle.model.specs.Definitions.Calls.{Limits}
use Rattle.model.specs.Definitions.Holdings.{Holdings}
use Rattle.holdings.specs.Inner.Held.{holdings_of, layout_in, limits_in}
use Rattle.holdings.specs.Meaning.{limits_of}
use Rattle.holdings.specs.Inner.Sound.{IsSound}
use Rattle.holdings.proofs.Contents.Roots.{start_holdings, start_sound}
use Rattle.holdings.proofs.holdings.Holdings.new.Goals as goal

-- words and trees are made for the limits
made_for : (c : goal.In_ok-trees) → limits_in c.in_ok-shards.shards c.in_ok-trees.trees.items ≡ limits_of c.args.limits.now
made_for c = λ i. record { spaces = c.in_ok-shards.ensures.spaces i; bits = c.in_ok-shards.ensures.bits i; frames = c.in_ok-trees.ensures.count i }

pub invariant_of-result : goal.invariant_of-result
invariant_of-result c =
    let limits : Limits = limits_of c.args.limits.now in
    let shards = c.in_ok-shards.ensures in
    let trees = c.in_ok-trees.ensures in
    subst (λ (l : Limits). IsSound l c.in_ok-shards.shards c.in_ok-trees.trees.items) (sym (made_for c))
    (start_sound limits c.in_ok-shards.shards c.in_ok-trees.trees.items c.requires shards.spaces shards.bits shards.present shards.entries trees.count trees.roots)

pub returns : goal.returns
returns c =
    let limits : Limits = limits_of c.args.limits.now in
    let shards = c.in_ok-shards.ensures in
    let trees = c.in_ok-trees.ensures in
    let layout = layout_in c.in_ok-shards.shards in
    (λ i. record { limits = made_for c i; holdings = holdings_of (made_for c i) c.in_ok-shards.shards c.in_ok-trees.trees.items; layout = layout })
    ∙ ap (λ (h : Holdings). record { limits = limits; holdings = h; layout = layout })
    (start_holdings limits c.in_ok-shards.shards c.in_ok-trees.trees.items c.requires shards.spaces shards.bits shards.present shards.entries trees.count trees.roots)
