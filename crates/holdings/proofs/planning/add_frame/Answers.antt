-- One run more.
use Rattle.std.proofs.Common.{◌≡◌, ℕ, ◌+◌, ◌<◌, ◌≤◌, ◌++◌, ◌∷◌, [], List, true, length, take, get_or, sym, ap, ◌∙◌, subst, arith}
use Rattle.std.specs.declared.ops.Range.{Range}
use Rattle.std.proofs.lemmas.List.{take_more}
use Rattle.maptree.specs.Origins.{Origins, Shape, IsRun, are_once}
use Rattle.maptree.specs.Origins.{IsOriginAt}
use Rattle.holdings.specs.Inner.Held.{links_in}
use Rattle.pieces.specs.declared.runs.FrameRuns.{FrameRuns}
use Rattle.holdings.specs.Inner.StripPlans.{AreAdded, HaveRuns, HaveWords, IsRunAdded, pages_of}
use Rattle.holdings.proofs.Contents.Holders.{links_read}
use Rattle.holdings.proofs.Stripping.Sequences.{rising_at}
use Rattle.holdings.proofs.Planned.Plan.{run_has_words}
use Rattle.holdings.proofs.Planned.Runs.{IsRunOf, none_added, one_added}
use Rattle.holdings.proofs.planning.add_frame.Goals as goal
use Rattle.holdings.proofs.planning.add_frame.Goals.{After-at-origin}

-- the next run of the tree, which has these links
record IsNext (trees : List Shape) (frame : ℕ) (tree : Shape) (run : Range ℕ) : Type 0 where
  links : links_in trees frame ≡ tree.links
  some : run.start < run.end
  within : run.end ≤ length (links_in trees frame)
  is_run : IsRun (links_in trees frame) run

next_of : (trees : List Shape) (f : FrameRuns) (have : HaveRuns trees f) (tree : Shape) (read : List (Range ℕ)) → read ≡ f.runs → tree ≡ get_or trees f.frame tree → (k : ℕ) (d : Range ℕ) → k < length read → IsNext trees f.frame tree (get_or read k d)
next_of trees f have tree read same is k d less =
    let here : k < length f.runs = subst (λ rs. k < length rs) same less in
    let bounds = rising_at 0 f.runs (length (links_in trees f.frame)) k d have.rising here in
    subst (λ rs. IsNext trees f.frame tree (get_or rs k d)) (sym same) (record { links = links_read trees f.frame tree have.frame is; some = bounds.0; within = bounds.1; is_run = have.whole k d here })

pub loop-run-init : goal.loop-run-init
loop-run-init c =
    let old = c.args.pieces.now.items in
    subst (AreAdded c.args.shards.now c.args.trees.now c.args.revoked c.args.flush c.args.frame.now.frame [] old) (sym c.reserve.ensures.items)
    (none_added c.args.shards.now c.args.trees.now c.args.revoked c.args.flush c.args.frame.now.frame old)

pub at-origin-requires : goal.at-origin-requires
at-origin-requires c =
    let next = next_of c.args.trees.now c.args.frame.now c.requires.runs c.index-trees-frame.result c.as_slice-run-items.result.now c.as_slice-run-items.ensures c.index-trees-frame.is c.loop-run.run-index (record { start = 0; end = 0 }) c.loop-run-test.true in
    let run : Range ℕ = get_or c.as_slice-run-items.result.now c.loop-run.run-index (record { start = 0; end = 0 }) in
    subst (λ (s : Shape). run.start < length s.links) (sym c.in_ok-origins.ensures) (subst (λ os. run.start < length os) next.links (omega (arith, next.some, next.within)))

-- the next run, with its origin
run_of : (c : After-at-origin) → IsRunOf c.args.trees.now c.args.frame.now.frame (get_or c.as_slice-run-items.result.now c.loop-run.run-index (record { start = 0; end = 0 })) c.at-origin.result
run_of c =
    let next = next_of c.args.trees.now c.args.frame.now c.requires.runs c.index-trees-frame.result c.as_slice-run-items.result.now c.as_slice-run-items.ensures c.index-trees-frame.is c.loop-run.run-index (record { start = 0; end = 0 }) c.loop-run-test.true in
    let run : Range ℕ = get_or c.as_slice-run-items.result.now c.loop-run.run-index (record { start = 0; end = 0 }) in
    record { is_run = next.is_run; some = next.some; within = next.within; is_origin = subst (λ os. IsOriginAt os run.start c.at-origin.result) (sym next.links) (subst (λ (s : Shape). IsOriginAt s.links run.start c.at-origin.result) c.in_ok-origins.ensures c.at-origin.ensures) }

pub add_run-requires-clause-within : goal.add_run-requires-clause-within
add_run-requires-clause-within c =
    let run = run_of ((goal.at.add_run-requires-clause-within c).After-at-origin) in
    let links = links_read c.args.trees.now c.args.frame.now.frame c.index-trees-frame.result c.requires.runs.frame c.index-trees-frame.is in
    subst (λ os. (get_or c.as_slice-run-items.result.now c.loop-run.run-index (record { start = 0; end = 0 })).end ≤ length os) links run.within

-- the links of the tree, no place of which comes twice
once_in : (os ts : Origins) → os ≡ ts → are_once ts ≡ true → are_once os ≡ true
once_in os ts same once = ap are_once same ∙ once

pub add_run-requires-clause-words : goal.add_run-requires-clause-words
add_run-requires-clause-words c =
    let s = c.args.shards.now in
    let trees = c.args.trees.now in
    let f = c.args.frame.now.frame in
    let run : Range ℕ = get_or c.as_slice-run-items.result.now c.loop-run.run-index (record { start = 0; end = 0 }) in
    let links = links_read trees f c.index-trees-frame.result c.requires.runs.frame c.index-trees-frame.is in
    subst (λ os. HaveWords s c.at-origin.result (pages_of os run.start run.end)) links
    (run_has_words s trees c.requires.sound f run c.at-origin.result (run_of ((goal.at.add_run-requires-clause-words c).After-at-origin)) (once_in _ _ links c.learn_places_are_distinct.ensures))

pub loop-run-preserved : goal.loop-run-preserved
loop-run-preserved c =
    let s = c.args.shards.now in
    let trees = c.args.trees.now in
    let f = c.args.frame.now.frame in
    let read = c.as_slice-run-items.result.now in
    let k = c.loop-run.run-index in
    let run : Range ℕ = get_or read k (record { start = 0; end = 0 }) in
    let origin = c.at-origin.result in
    let links = links_read trees f c.index-trees-frame.result c.requires.runs.frame c.index-trees-frame.is in
    let added = subst (λ os. IsRunAdded s c.args.revoked c.args.flush origin (pages_of os run.start run.end) c.loop-run.pieces.items c.add_run.new.pieces.items) (sym links) c.in_ok-add_run.ensures in
    let grown : take (k + 1) read ≡ take k read ++ run ∷ [] = take_more read k (record { start = 0; end = 0 }) c.loop-run-test.true in
    subst (λ rs. AreAdded s trees c.args.revoked c.args.flush f rs c.args.pieces.now.items c.add_run.new.pieces.items) (sym grown)
    (one_added s trees c.args.revoked c.args.flush f (take k read) c.args.pieces.now.items c.loop-run.pieces.items c.add_run.new.pieces.items c.loop-run.invariant run origin
    (run_of ((goal.at.loop-run-preserved c).After-at-origin)) (once_in _ _ links c.learn_places_are_distinct.ensures) added)
