-- Each page of the run is taken once, and the origin gains.
use Rattle.std.specs.Vec.{vec_items}
use Rattle.std.proofs.Common.{◌≡◌, ◌<◌, ◌+◌, ◌||◌, not, List, length, Some, None, ◌∷◌, [], option_map, refl, sym, ap, ◌∙◌, subst, arith}
use Rattle.fpage.specs.Rights.{join, no_rights}
use Rattle.space.specs.declared.place.Place.{Place}
use Rattle.space.specs.Place.{same_place}
use Rattle.space.specs.declared.node.Node.{Node}
use Rattle.maptree.specs.Origins.{origin_in, place_at}
use Rattle.holdings.specs.Inner.Held.{links_in}
use Rattle.holdings.proofs.Contents.Holders.{links_read}
use Rattle.holdings.proofs.Trees.Chains.{is_among}
use Rattle.holdings.proofs.Stripping.Walks.{AreTaken, IsStripped, place_any, listed_place, run_without_origin, run_with_origin}
use Rattle.holdings.proofs.Recursions.Visits.{IsVisiting, visit_begins, visit_pushes, visit_pops, begun_place, visit_ends}
use Rattle.holdings.proofs.recursion.visit.Goals.{in-Some-origin_of, in_default-origin_of}
use Rattle.holdings.proofs.Contents.WordChanges.{place_kept}
use Rattle.holdings.proofs.recursion.visit.Goals as goal

pub loop-i-init : goal.loop-i-init
loop-i-init c =
    let begins = visit_begins c.args.shards.now c.args.trees.now c.requires.loose c.args.frame c.args.run.now.start c.node.result.place c.args.revoked c.args.flush in
    subst (λ r. IsVisiting c.args.shards.now c.args.trees.now c.args.frame c.args.run.now.start c.node.result.place c.args.revoked c.args.flush c.args.run.now.start c.in_ok-begun.begun.items c.args.shards.now r) (sym c.none-status.ensures)
    (subst (λ ns. IsVisiting c.args.shards.now c.args.trees.now c.args.frame c.args.run.now.start c.node.result.place c.args.revoked c.args.flush c.args.run.now.start ns c.args.shards.now no_rights) (sym c.in_ok-begun.ensures.items) begins)

pub node-node-requires : goal.node-node-requires
node-node-requires c =
    let links = links_read c.args.trees.now c.args.frame c.index-trees-frame.result c.requires.frame c.index-trees-frame.is in
    let most : c.loop-i.i < length (links_in c.args.trees.now c.args.frame) = omega (arith, c.loop-i-test.true, c.requires.within) in
    subst (λ os. c.loop-i.i < length os) links most

pub take-requires-clause-place : goal.take-requires-clause-place
take-requires-clause-place c =
    let before = subst (λ ns. IsVisiting c.args.shards.now c.args.trees.now c.args.frame c.args.run.now.start c.node.result.place c.args.revoked c.args.flush c.loop-i.i ns c.loop-page.shards c.loop-page.status) c.in-Some.ensures.some c.loop-page.invariant in
    place_kept c.args.shards.now c.loop-page.shards before.taken.layout c.in-Some.page.place
    (begun_place c.args.shards.now c.args.trees.now c.requires.loose c.args.frame c.args.run.now.start c.node.result.place c.args.revoked c.args.flush c.loop-i.i c.pop_from.new.begun.items c.in-Some.page c.loop-page.shards c.loop-page.status before)

pub loop-page-preserved : goal.loop-page-preserved
loop-page-preserved c =
    let before = subst (λ ns. IsVisiting c.args.shards.now c.args.trees.now c.args.frame c.args.run.now.start c.node.result.place c.args.revoked c.args.flush c.loop-i.i ns c.loop-page.shards c.loop-page.status) c.in-Some.ensures.some c.loop-page.invariant in
    let place = begun_place c.args.shards.now c.args.trees.now c.requires.loose c.args.frame c.args.run.now.start c.node.result.place c.args.revoked c.args.flush c.loop-i.i c.pop_from.new.begun.items c.in-Some.page c.loop-page.shards c.loop-page.status before in
    subst (IsVisiting c.args.shards.now c.args.trees.now c.args.frame c.args.run.now.start c.node.result.place c.args.revoked c.args.flush c.loop-i.i c.pop_from.new.begun.items c.take.new.shards) (sym (c.join-status.ensures ∙ ap (join c.loop-page.status) c.rights.ensures))
    (visit_pops c.args.shards.now c.args.trees.now c.requires.loose c.args.frame c.args.run.now.start c.node.result.place c.args.revoked c.args.flush c.loop-i.i c.pop_from.new.begun.items c.in-Some.page c.loop-page.shards c.take.new.shards
    c.loop-page.status c.take.result.status (c.args.flush || not (same_place c.in-Some.page.place c.node.result.place)) before place refl c.take.ensures.status c.take.ensures.set c.take.ensures.present c.take.ensures.layout)

pub loop-i-preserved : goal.loop-i-preserved
loop-i-preserved c =
    let links = links_read c.args.trees.now c.args.frame c.index-trees-frame.result c.requires.frame c.index-trees-frame.is in
    let within : c.loop-i.i < length (links_in c.args.trees.now c.args.frame) = omega (arith, c.loop-i-test.true, c.requires.within) in
    subst (λ ns. IsVisiting c.args.shards.now c.args.trees.now c.args.frame c.args.run.now.start c.node.result.place c.args.revoked c.args.flush (c.loop-i.i + 1) ns c.loop-page.shards c.loop-page.status) (sym c.in_ok-push.ensures.items)
    (visit_pushes c.args.shards.now c.args.trees.now c.requires.loose c.args.frame c.args.run.now.start c.node.result.place c.args.revoked c.args.flush c.loop-i.i c.pop_from.new.begun.items c.node-node.result c.loop-page.shards c.loop-page.status
    (subst (λ v. IsVisiting c.args.shards.now c.args.trees.now c.args.frame c.args.run.now.start c.node.result.place c.args.revoked c.args.flush c.loop-i.i (vec_items v) c.loop-page.shards c.loop-page.status) (sym c.in_default.ensures.none) c.loop-page.invariant)
    c.loop-i.auto.i within (λ d. ap (λ os. place_at os c.loop-i.i d) links ∙ sym (c.node-node.ensures.place d))
    (λ j d within_j is. c.node-node.ensures.only j d (subst (λ os. j < length os) links within_j) (ap (λ os. place_at os j d) (sym links) ∙ is)))

pub take-requires-in-Some-pop-clause-place : goal.take-requires-in-Some-pop-clause-place
take-requires-in-Some-pop-clause-place c =
    let before = subst (λ ns. IsVisiting c.args.shards.now c.args.trees.now c.args.frame c.args.run.now.start c.node.result.place c.args.revoked c.args.flush c.args.run.now.end ns c.loop-page-2.shards c.loop-page-2.status) c.in-Some-pop.ensures.items c.loop-page-2.invariant in
    place_kept c.args.shards.now c.loop-page-2.shards before.taken.layout c.in-Some-pop.page.place
    (begun_place c.args.shards.now c.args.trees.now c.requires.loose c.args.frame c.args.run.now.start c.node.result.place c.args.revoked c.args.flush c.args.run.now.end c.pop.new.self.items c.in-Some-pop.page c.loop-page-2.shards c.loop-page-2.status before)

pub loop-page-2-preserved : goal.loop-page-2-preserved
loop-page-2-preserved c =
    let before = subst (λ ns. IsVisiting c.args.shards.now c.args.trees.now c.args.frame c.args.run.now.start c.node.result.place c.args.revoked c.args.flush c.args.run.now.end ns c.loop-page-2.shards c.loop-page-2.status) c.in-Some-pop.ensures.items c.loop-page-2.invariant in
    let place = begun_place c.args.shards.now c.args.trees.now c.requires.loose c.args.frame c.args.run.now.start c.node.result.place c.args.revoked c.args.flush c.args.run.now.end c.pop.new.self.items c.in-Some-pop.page c.loop-page-2.shards c.loop-page-2.status before in
    subst (IsVisiting c.args.shards.now c.args.trees.now c.args.frame c.args.run.now.start c.node.result.place c.args.revoked c.args.flush c.args.run.now.end c.pop.new.self.items c.take-in-Some-pop.new.shards) (sym (c.join-status-in-Some-pop.ensures ∙ ap (join c.loop-page-2.status) c.rights-in-Some-pop.ensures))
    (visit_pops c.args.shards.now c.args.trees.now c.requires.loose c.args.frame c.args.run.now.start c.node.result.place c.args.revoked c.args.flush c.args.run.now.end c.pop.new.self.items c.in-Some-pop.page c.loop-page-2.shards c.take-in-Some-pop.new.shards
    c.loop-page-2.status c.take-in-Some-pop.result.status (c.args.flush || not (same_place c.in-Some-pop.page.place c.node.result.place)) before place refl c.take-in-Some-pop.ensures.status c.take-in-Some-pop.ensures.set c.take-in-Some-pop.ensures.present c.take-in-Some-pop.ensures.layout)

pub origin_of-requires : goal.origin_of-requires
origin_of-requires c =
    let links = links_read c.args.trees.now c.args.frame c.index-trees-frame.result c.requires.frame c.index-trees-frame.is in
    let within : c.args.run.now.start < length (links_in c.args.trees.now c.args.frame) = omega (arith, c.requires.some, c.requires.within) in
    subst (λ os. c.args.run.now.start < length os) links within

pub node-requires-in-Some-origin_of : goal.node-requires-in-Some-origin_of
node-requires-in-Some-origin_of c =
    let links = links_read c.args.trees.now c.args.frame c.index-trees-frame.result c.requires.frame c.index-trees-frame.is in
    let less = c.in-Some-origin_of.ensures.before in
    let within : c.in-Some-origin_of.origin < length (links_in c.args.trees.now c.args.frame) = omega (arith, less, c.requires.some, c.requires.within) in
    subst (λ os. c.in-Some-origin_of.origin < length os) links within

pub add_status-requires-clause-place : goal.add_status-requires-clause-place
add_status-requires-clause-place c =
    let links = links_read c.args.trees.now c.args.frame c.index-trees-frame.result c.requires.frame c.index-trees-frame.is in
    let less = c.in-Some-origin_of.ensures.before in
    place_kept c.args.shards.now c.loop-page-2.shards c.loop-page-2.invariant.taken.layout c.node-in-Some-origin_of.result.place
    (listed_place c.args.shards.now c.args.trees.now c.args.frame c.requires.loose c.in-Some-origin_of.origin c.node-in-Some-origin_of.result.place (omega (arith, less, c.requires.some, c.requires.within))
    (λ e. ap (λ os. place_at os c.in-Some-origin_of.origin e) links ∙ sym (c.node-in-Some-origin_of.ensures.place e)))

none_left : (ns : List Node) → length ns ≡ 0 → ns ≡ []
none_left [] none = refl
none_left (n ∷ ns) none = absurd (omega (arith, none))

-- with an origin or without
visited : (c : goal.After-drop-begun-2) (d : Place) → IsStripped c.args.shards.now c.args.trees.now (place_at (links_in c.args.trees.now c.args.frame) c.args.run.now.start d) c.args.revoked c.args.flush c.match-origin_of.shards c.loop-page-2.status
visited c d =
    let links = links_read c.args.trees.now c.args.frame c.index-trees-frame.result c.requires.frame c.index-trees-frame.is in
    let within : c.args.run.now.start < length (links_in c.args.trees.now c.args.frame) = omega (arith, c.requires.some, c.requires.within) in
    let p = place_at (links_in c.args.trees.now c.args.frame) c.args.run.now.start d in
    let first : (e : Place) → place_at (links_in c.args.trees.now c.args.frame) c.args.run.now.start e ≡ p = λ e. place_any (links_in c.args.trees.now c.args.frame) c.args.run.now.start e d within in
    let here : c.node.result.place ≡ p = c.node.ensures.place d ∙ ap (λ os. place_at os c.args.run.now.start d) (sym links) in
    let taken = subst (λ q. AreTaken c.args.shards.now c.args.trees.now q c.args.revoked c.args.flush (is_among (links_in c.args.trees.now c.args.frame) c.args.run.now.start c.args.run.now.end) c.loop-page-2.shards c.loop-page-2.status) here
    (visit_ends c.args.shards.now c.args.trees.now c.requires.loose c.args.frame c.args.run.now.start c.node.result.place c.args.revoked c.args.flush c.args.run.now.end c.loop-page-2.shards c.loop-page-2.status
    (subst (λ ns. IsVisiting c.args.shards.now c.args.trees.now c.args.frame c.args.run.now.start c.node.result.place c.args.revoked c.args.flush c.args.run.now.end ns c.loop-page-2.shards c.loop-page-2.status) (none_left c.loop-page-2.begun.items (sym c.loop-page-2.begun.ok.0 ∙ c.in_default-pop.ensures.cases.0)) c.loop-page-2.invariant)) in
    elim c.match-origin_of.branch [
      | in-Some-origin_of w ↦
          let origin : origin_in (links_in c.args.trees.now c.args.frame) p ≡ Some w.node-in-Some-origin_of.result.place =
          ap (λ os. origin_in os (place_at os c.args.run.now.start d)) links ∙ c.origin_of.ensures.origin d ∙ ap (option_map (λ r. place_at c.index-trees-frame.result.links r d)) w.in-Some-origin_of.is
          ∙ ap Some (sym (w.node-in-Some-origin_of.ensures.place d)) in
          let less = w.in-Some-origin_of.ensures.before in
          let place = place_kept c.args.shards.now c.loop-page-2.shards taken.layout w.node-in-Some-origin_of.result.place
          (listed_place c.args.shards.now c.args.trees.now c.args.frame c.requires.loose w.in-Some-origin_of.origin w.node-in-Some-origin_of.result.place (omega (arith, less, c.requires.some, c.requires.within))
          (λ e. ap (λ os. place_at os w.in-Some-origin_of.origin e) links ∙ sym (w.node-in-Some-origin_of.ensures.place e))) in
          subst (λ s. IsStripped c.args.shards.now c.args.trees.now p c.args.revoked c.args.flush s c.loop-page-2.status) (sym w.shards-is)
          (run_with_origin c.args.shards.now c.args.trees.now c.requires.loose c.args.frame c.args.run.now c.requires.run c.requires.some c.requires.within p first c.args.revoked c.args.flush c.loop-page-2.shards c.loop-page-2.status taken
          w.node-in-Some-origin_of.result.place w.add_status.new.self origin place w.add_status.ensures.set w.add_status.ensures.present w.add_status.ensures.layout)
      | in_default-origin_of w ↦
          let origin : origin_in (links_in c.args.trees.now c.args.frame) p ≡ None =
          ap (λ os. origin_in os (place_at os c.args.run.now.start d)) links ∙ c.origin_of.ensures.origin d ∙ ap (option_map (λ r. place_at c.index-trees-frame.result.links r d)) w.in_default-origin_of.is in
          subst (λ s. IsStripped c.args.shards.now c.args.trees.now p c.args.revoked c.args.flush s c.loop-page-2.status) (sym w.shards-is)
          (run_without_origin c.args.shards.now c.args.trees.now c.requires.loose c.args.frame c.args.run.now c.requires.run c.requires.some c.requires.within p first c.args.revoked c.args.flush c.loop-page-2.shards c.loop-page-2.status taken origin)
    ]

pub returns-clause-status : goal.returns-clause-status
returns-clause-status c = λ d. (visited c d).word

pub returns-clause-left : goal.returns-clause-left
returns-clause-left c = λ d. (visited c d).left

pub returns-clause-loose : goal.returns-clause-loose
returns-clause-loose c = (visited c c.node.result.place).loose

pub returns-clause-layout : goal.returns-clause-layout
returns-clause-layout c = (visited c c.node.result.place).layout

pub loop-page-2-init : goal.loop-page-2-init
loop-page-2-init c =
    let end : c.loop-i.i ≡ c.args.run.now.end = omega (arith, c.loop-i-test.false, c.loop-i.auto.i-end, c.requires.some) in
    subst (λ n. IsVisiting c.args.shards.now c.args.trees.now c.args.frame c.args.run.now.start c.node.result.place c.args.revoked c.args.flush n c.loop-i.begun.items c.loop-i.shards c.loop-i.status) end c.loop-i.invariant
