-- One tree more.
use Rattle.std.proofs.Common.{◌≡◌, ℕ, ◌+◌, ◌<◌, true, not, List, drop, length, get_or, sym, ap, ◌∙◌, subst}
use Rattle.std.specs.List.{list_all}
use Rattle.std.specs.declared.ops.Range.{Range}
use Rattle.space.specs.declared.shards.Shards.{Shards}
use Rattle.maptree.specs.Origins.{Shape}
use Rattle.pieces.specs.declared.runs.FrameRuns.{FrameRuns}
use Rattle.holdings.specs.Inner.Held.{links_in, has_entry}
use Rattle.holdings.specs.Inner.StripPlans.{CanBePruned, in_runs, in_frames}
use Rattle.holdings.proofs.Contents.Holders.{links_read}
use Rattle.holdings.proofs.Planned.AllKept.{one_gone, others_stay}
use Rattle.holdings.proofs.Planned.NoneKept.{gone_next, differ_next}
use Rattle.holdings.proofs.Planned.PrunedTrees.{can_next, next_set}
use Rattle.holdings.proofs.Planned.Trees.{ArePrunedUpTo, next_tree, one_pruned}
use Rattle.holdings.proofs.prune.remove_all.Goals as goal

can : (c : goal.After-as_slice) → CanBePruned c.args.shards.now (get_or c.loop-frame.trees c.frame-item.result.frame c.index-trees-frame.result).links c.as_slice.result.now
can c =
    can_next c.args.shards.now c.args.frames.now c.args.trees.now c.loop-frame.frame-index c.loop-frame.trees c.frame-item.result c.as_slice.result.now c.index-trees-frame.result c.loop-frame.invariant.0 c.loop-frame-test.true c.frame-item.is
    c.as_slice.ensures c.index-trees-frame.is

pub remove-requires-clause-rising : goal.remove-requires-clause-rising
remove-requires-clause-rising c = (can c).rising

pub remove-requires-clause-runs : goal.remove-requires-clause-runs
remove-requires-clause-runs c = (can c).runs_are

-- none of the next frame's runs has an entry
none_here : (s : Shards) (fs : List FrameRuns) (old : List Shape) (n : ℕ) (now : List Shape) (f : FrameRuns) (runs : List (Range ℕ)) (tree : Shape) → ArePrunedUpTo s fs old n now → n < length fs → f ≡ get_or fs n f → runs ≡ f.runs
    → tree ≡ get_or now f.frame tree → list_all (λ p. not (has_entry s p)) (in_frames now (drop n fs)) ≡ true → list_all (λ p. not (has_entry s p)) (in_runs (get_or now f.frame tree).links runs) ≡ true
none_here s fs old n now f runs tree so_far less is same read gone =
    let within = subst (λ (g : FrameRuns). g.frame < length now) (sym is) (next_tree s fs old n now f so_far less).0 in
    let next = subst (λ (g : FrameRuns). list_all (λ p. not (has_entry s p)) (in_runs (links_in now g.frame) g.runs) ≡ true) (sym is) (gone_next s fs n now f less gone).0 in
    subst (λ rs. list_all (λ p. not (has_entry s p)) (in_runs (get_or now f.frame tree).links rs) ≡ true) (sym same)
    (subst (λ os. list_all (λ p. not (has_entry s p)) (in_runs os f.runs) ≡ true) (links_read now f.frame tree within read ∙ ap (λ (t : Shape). t.links) read) next)

pub loop-frame-preserved : goal.loop-frame-preserved
loop-frame-preserved c =
    let s = c.args.shards.now in let fs = c.args.frames.now in let n = c.loop-frame.frame-index in let now = c.loop-frame.trees in let f = c.frame-item.result in let tree = c.index-trees-frame.result in
    let less = c.loop-frame-test.true in let so_far = c.loop-frame.invariant.0 in
    let here = none_here s fs c.args.trees.now n now f c.as_slice.result.now tree so_far less c.frame-item.is c.as_slice.ensures c.index-trees-frame.is c.loop-frame.invariant.1 in
    let fit = can_next s fs c.args.trees.now n now f c.as_slice.result.now tree so_far less c.frame-item.is c.as_slice.ensures c.index-trees-frame.is in
    let gone = c.remove.ensures.links ∙ one_gone s now (get_or now f.frame tree).links c.as_slice.result.now fit here in
    let set = next_set s fs c.args.trees.now n now f tree c.remove.new.self so_far less c.frame-item.is c.index-trees-frame.is gone in (
      one_pruned s fs c.args.trees.now n now _ f so_far less set,
      ap (list_all (λ p. not (has_entry s p))) (others_stay now _ _ _ (drop (n + 1) fs) set (differ_next s fs c.args.trees.now n now f so_far less)) ∙ (gone_next s fs n now f less c.loop-frame.invariant.1).1,
    )
