-- The origin stands at the index of the word, or is found in the tree of the frame.
use Rattle.std.proofs.Common.{◌∙◌, ap, subst, get_or, length}
use Rattle.std.specs.Prelude.{IfSome}
use Rattle.holdings.specs.Inner.WordOrigins.{AreOrigins}
use Rattle.space.proofs.ShardWords.{held_have_words}
use Rattle.holdings.proofs.mappings.origin_of.Goals as goal

pub index-requires-clause-has : goal.index-requires-clause-has
index-requires-clause-has c = held_have_words c.args.shards.now c.args.place c.args.entry c.requires.held

pub returns-in-Some : goal.returns-in-Some
returns-in-Some c =
    let s = c.args.shards.now in
    let trees = c.args.trees.now in
    let found = c.index-in-Some.result.now in
    let are : AreOrigins s trees (length trees) c.in-Some.origins.items = subst (λ o. IfSome o (λ list. AreOrigins s trees (length trees) list.items)) c.in-Some.is c.requires.origins in
    c.origin.ensures ∙ c.index-in-Some.ensures ∙ ap (λ i. get_or c.in-Some.origins.items i found) c.index.ensures.index ∙ are.stand c.args.place c.args.entry found c.requires.place c.requires.held c.requires.frame
