-- One place more.
use Rattle.std.proofs.Common.{◌≡◌, ◌<◌, length, None, sym, ap, ◌∙◌, subst, arith}
use Rattle.space.specs.Shards.{IsPlace}
use Rattle.space.specs.declared.place.Place.{Place}
use Rattle.maptree.specs.Origins.{place_at}
use Rattle.holdings.specs.Inner.Notes.{AreLosersNoted, loses_in}
use Rattle.holdings.proofs.Trees.Pruning.{read_at}
use Rattle.holdings.proofs.NotedPages.{run_begins, run_more}
use Rattle.holdings.proofs.noting.note_run.Goals as goal

pub loop-at-init : goal.loop-at-init
loop-at-init c = record {
  nodes = c.nodes-nodes.ensures;
  adds = run_begins c.args.tree.now.links (loses_in c.args.shards.now c.args.revoked) c.args.run.now.start c.args.run.now.start (omega arith) c.args.list.now.items;
}

pub at-requires : goal.at-requires
at-requires c =
    let within : c.loop-at.at < length c.args.tree.now.links = omega (arith, c.loop-at-test.true, c.requires.within) in
    subst (λ os. c.loop-at.at < length os) (sym c.loop-at.invariant.nodes) within

pub note_loser-requires-clause-place : goal.note_loser-requires-clause-place
note_loser-requires-clause-place c =
    let d : Place = record { space = 0; page = 0 } in
    let within : c.loop-at.at < length c.args.tree.now.links = omega (arith, c.loop-at-test.true, c.requires.within) in
    subst (IsPlace c.args.shards.now) (read_at c.args.tree.now.links c.loop-at.at d ∙ sym (c.at.ensures.place d ∙ ap (λ os. place_at os c.loop-at.at d) c.loop-at.invariant.nodes)) (c.requires.places c.loop-at.at (d, None) within)

pub loop-at-preserved : goal.loop-at-preserved
loop-at-preserved c =
    let d : Place = record { space = 0; page = 0 } in
    record {
      nodes = c.at.ensures.same ∙ c.loop-at.invariant.nodes;
      adds = run_more c.args.tree.now.links (loses_in c.args.shards.now c.args.revoked) c.args.run.now.start c.loop-at.at c.at.result.place d (omega (arith, c.loop-at.auto.at)) (omega (arith, c.loop-at-test.true, c.requires.within))
          (c.at.ensures.place d ∙ ap (λ os. place_at os c.loop-at.at d) c.loop-at.invariant.nodes) c.args.list.now.items c.loop-at.list.items c.note_loser.new.list.items c.in_ok-note_loser.ensures c.loop-at.invariant.adds;
    }

pub returns : goal.returns
returns c =
    let end : c.loop-at.at ≡ c.args.run.now.end = omega (arith, c.loop-at-test.false, c.loop-at.auto, c.requires.some) in
    subst (λ b. AreLosersNoted c.args.shards.now c.args.tree.now.links c.args.run.now.start b c.args.revoked c.args.list.now.items c.loop-at.list.items) end c.loop-at.invariant.adds
