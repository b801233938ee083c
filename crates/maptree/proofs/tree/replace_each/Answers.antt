-- One page more has its place.
use Rattle.std.proofs.Common.{◌≡◌, ◌+◌, length, refl, sym, ap, ◌∙◌, rules, arith}
use Rattle.maptree.specs.TreeForms.{Gapped}
use Rattle.maptree.specs.PlaceMaps.{place_for}
use Rattle.maptree.specs.Renamings.{nodes_renamed}
use Rattle.maptree.proofs.EachReplaced.{alike, unchanged, for_first, for_none, for_all, none_more, one_more, stay_distinct}
use Rattle.maptree.proofs.tree.replace_each.Goals.{in-Some, in_default}
use Rattle.maptree.proofs.tree.replace_each.Goals as goal

pub loop-k-init : goal.loop-k-init
loop-k-init c = record { nodes = unchanged (for_first c.args.new.now 0) (for_none c.args.new.now) c.args.nodes.now.nodes; room = refl }

pub replace_one-requires : goal.replace_one-requires
replace_one-requires c =
    stay_distinct c.args.new.now c.loop-k.k c.args.nodes.now.nodes c.loop-k.nodes.nodes c.loop-k.invariant.nodes c.requires.distinct c.requires.alone c.requires.apart

pub loop-k-preserved : goal.loop-k-preserved
loop-k-preserved c =
    let new = c.args.new.now in
    let k = c.loop-k.k in
    let nodes = c.args.nodes.now.nodes in
    let key = c.key-old.result in
    let space = c.key-old.ensures.space in
    let page = c.key-old.ensures.page in
    elim c.match-get.branch [
      | in-Some w ↦ record {
        nodes = ap (λ (t : Gapped). t.nodes) w.nodes-is
            ∙ one_more new k key space page w.in-Some.place (sym c.get.ensures ∙ w.in-Some.is) c.requires.alone nodes c.loop-k.nodes.nodes w.replace_one.new.nodes.nodes c.loop-k.invariant.nodes w.replace_one.ensures.nodes;
        room = ap (λ (t : Gapped). t.room) w.nodes-is ∙ w.replace_one.ensures.room ∙ c.loop-k.invariant.room;
      }
      | in_default w ↦ record {
        nodes = ap (λ (t : Gapped). t.nodes) w.nodes-is ∙ c.loop-k.invariant.nodes ∙ alike (for_first new k) (for_first new (k + 1)) (none_more new k key space page (sym c.get.ensures ∙ w.in_default.is)) nodes;
        room = ap (λ (t : Gapped). t.room) w.nodes-is ∙ c.loop-k.invariant.room;
      }
    ]

pub returns-clause-nodes : goal.returns-clause-nodes
returns-clause-nodes c =
    let new = c.args.new.now in
    let nodes = c.args.nodes.now.nodes in
    let all : c.loop-k.k ≡ length new.places = search (rules, arith) in
    c.loop-k.invariant.nodes ∙ ap (λ k. nodes_renamed (for_first new k) nodes) all ∙ alike (for_first new (length new.places)) (place_for new) (for_all new) nodes
