-- One more tree.
use Rattle.std.proofs.Common.{◌≡◌, true, ◌<◌, ◌∙◌, [], ◌∷◌, length, Option, IfSome, refl, ap, sym, subst, arith}
use Rattle.std.specs.List.{All}
use Rattle.space.specs.declared.place.Place.{Place}
use Rattle.space.specs.Shards.{index_of}
use Rattle.space.proofs.Places.{same_self}
use Rattle.maptree.specs.Origins.{Origins, IsOriginAt, are_once, origin_in, place_at}
use Rattle.holdings.specs.Inner.OriginWords.{IsSmall}
use Rattle.holdings.specs.Inner.Words.{IsThere}
use Rattle.holdings.specs.Inner.WordOrigins.{ArePut}
use Rattle.holdings.proofs.Trees.Pruning.{on_ok}
use Rattle.holdings.proofs.Contents.WordOrigins.{origin_small, origins_small, places_there, words_there, one_tree}
use Rattle.holdings.proofs.origins.put_tree.Goals as goal

-- a tree of one place has the link of that place
one_link : (os : Origins) (p : Place) (o : Option Place) → length os ≡ 1 → ((d : Place) → p ≡ place_at os 0 d) → IsOriginAt os 0 o → os ≡ (p, o) ∷ []
one_link [] p o one first at = absurd (omega (arith, one))
one_link (x ∷ []) p o one first at =
    let own : origin_in (x ∷ []) x.0 ≡ x.1 = rw (same_self x.0) refl in
    λ i. (sym (first x.0) i, (sym own ∙ at.is x.0) i) ∷ []
one_link (x ∷ y ∷ os) p o one first at = absurd (omega (arith, one))

pub put_origin-requires-clause-place : goal.put_origin-requires-clause-place
put_origin-requires-clause-place c =
    let s = c.args.shards.now in
    let t = c.index-trees-frame.result in
    let link : Place × Option Place = (c.node.result.place, c.place_of_origin.result) in
    let is = one_link t.links c.node.result.place c.place_of_origin.result (sym c.len.ensures ∙ c.if-len-eq1.true) c.node.ensures.place c.place_of_origin.ensures in
    subst (λ (os : Origins). All (λ o. IsThere s o.0) os) is (places_there s c.args.trees.now c.requires.sound c.args.frame t c.requires.within c.index-trees-frame.is (ap are_once is)) 0 link (omega arith)

pub put_origin-requires-clause-reached : goal.put_origin-requires-clause-reached
put_origin-requires-clause-reached c =
    let s = c.args.shards.now in
    let t = c.index-trees-frame.result in
    let n = length c.args.origins.now in
    let link : Place × Option Place = (c.node.result.place, c.place_of_origin.result) in
    let is = one_link t.links c.node.result.place c.place_of_origin.result (sym c.len.ensures ∙ c.if-len-eq1.true) c.node.ensures.place c.place_of_origin.ensures in
    subst (λ (os : Origins). All (λ o. index_of s o.0 < n) os) is
    (words_there s c.args.trees.now c.requires.sound c.args.frame t c.requires.within c.index-trees-frame.is (ap are_once is) n c.requires.before.count) 0 link (omega arith)

pub put_origin-requires-clause-origin : goal.put_origin-requires-clause-origin
put_origin-requires-clause-origin c =
    let t = c.index-trees-frame.result in
    origin_small c.args.shards.now c.args.trees.now c.requires.sound c.args.frame t c.requires.within c.index-trees-frame.is c.place_of_origin.result c.place_of_origin.ensures.stands

pub returns-then-len-eq1 : goal.returns-then-len-eq1
returns-then-len-eq1 c =
    let s = c.args.shards.now in
    let t = c.index-trees-frame.result in
    let old = c.args.origins.now in
    let new = c.put_origin.new.origins in
    let is = one_link t.links c.node.result.place c.place_of_origin.result (sym c.len.ensures ∙ c.if-len-eq1.true) c.node.ensures.place c.place_of_origin.ensures in
    one_tree s c.args.trees.now c.requires.sound c.args.frame t c.requires.within c.index-trees-frame.is old new c.requires.before (subst (λ (os : Origins). ArePut s os old new) (sym is) c.put_origin.ensures)

pub put_origins-requires-clause-places : goal.put_origins-requires-clause-places
put_origins-requires-clause-places c =
    let s = c.args.shards.now in
    let t = c.index-trees-frame.result in
    subst (λ (os : Origins). All (λ o. IsThere s o.0) os) (sym c.each_link.ensures.links) (places_there s c.args.trees.now c.requires.sound c.args.frame t c.requires.within c.index-trees-frame.is c.each_link.ensures.once)

pub put_origins-requires-clause-reached : goal.put_origins-requires-clause-reached
put_origins-requires-clause-reached c =
    let s = c.args.shards.now in
    let t = c.index-trees-frame.result in
    let n = length c.args.origins.now in
    subst (λ (os : Origins). All (λ o. index_of s o.0 < n) os) (sym c.each_link.ensures.links)
    (words_there s c.args.trees.now c.requires.sound c.args.frame t c.requires.within c.index-trees-frame.is c.each_link.ensures.once n c.requires.before.count)

pub put_origins-requires-clause-origins : goal.put_origins-requires-clause-origins
put_origins-requires-clause-origins c =
    let t = c.index-trees-frame.result in
    subst (λ (os : Origins). All (λ o. IfSome o.1 IsSmall) os) (sym c.each_link.ensures.links)
    (origins_small c.args.shards.now c.args.trees.now c.requires.sound c.args.frame t c.requires.within c.index-trees-frame.is c.each_link.ensures.once c.each_link.ensures.origins)

pub put_origins-requires-clause-once : goal.put_origins-requires-clause-once
put_origins-requires-clause-once c = subst (λ (os : Origins). are_once os ≡ true) (sym c.each_link.ensures.links) c.each_link.ensures.once

pub returns : goal.returns
returns c =
    let s = c.args.shards.now in
    let t = c.index-trees-frame.result in
    let old = c.args.origins.now in
    on_ok c.put_origins.result c.put_origins.ensures
    (λ put. one_tree s c.args.trees.now c.requires.sound c.args.frame t c.requires.within c.index-trees-frame.is old c.put_origins.new.origins c.requires.before
    (subst (λ (os : Origins). ArePut s os old c.put_origins.new.origins) c.each_link.ensures.links put))
