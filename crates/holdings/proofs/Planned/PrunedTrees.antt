-- The tree that is read in a pass over frames, and the trees once it was set.
use Rattle.std.proofs.Common.{◌≡◌, ℕ, ◌<◌, List, length, get_or, slice_set, sym, ap, ◌∙◌, subst}
use Rattle.std.specs.declared.ops.Range.{Range}
use Rattle.space.specs.declared.shards.Shards.{Shards}
use Rattle.maptree.specs.Origins.{Shape}
use Rattle.pieces.specs.declared.runs.FrameRuns.{FrameRuns}
use Rattle.holdings.specs.Inner.Held.{links_in}
use Rattle.holdings.specs.Inner.Links.{IsTreeSet}
use Rattle.holdings.specs.Inner.Stripping.{pruned}
use Rattle.holdings.specs.Inner.StripPlans.{CanBePruned}
use Rattle.holdings.proofs.Contents.Holders.{links_read}
use Rattle.holdings.proofs.Links.NewMappings.{tree_set}
use Rattle.holdings.proofs.Planned.Trees.{ArePrunedUpTo, next_tree}

-- the tree that is read can lose its places
pub can_next : (s : Shards) (fs : List FrameRuns) (old : List Shape) (n : ℕ) (now : List Shape) (f : FrameRuns) (runs : List (Range ℕ)) (tree : Shape) → ArePrunedUpTo s fs old n now → n < length fs → f ≡ get_or fs n f → runs ≡ f.runs
    → tree ≡ get_or now f.frame tree → CanBePruned s (get_or now f.frame tree).links runs
can_next s fs old n now f runs tree so_far less is same read =
    let next = subst (λ (g : FrameRuns). (g.frame < length now) × CanBePruned s (links_in now g.frame) g.runs) (sym is) (next_tree s fs old n now f so_far less) in
    subst (λ (t : Shape). CanBePruned s t.links runs) read (subst (CanBePruned s tree.links) (sym same) (subst (λ os. CanBePruned s os f.runs) (links_read now f.frame tree next.0 read) next.1))

-- the tree was set
pub next_set : (s : Shards) (fs : List FrameRuns) (old : List Shape) (n : ℕ) (now : List Shape) (f : FrameRuns) (tree left : Shape) → ArePrunedUpTo s fs old n now → n < length fs → f ≡ get_or fs n f → tree ≡ get_or now f.frame tree
    → left.links ≡ pruned s (get_or now f.frame tree).links → IsTreeSet now (slice_set now f.frame left) (get_or fs n f).frame (pruned s (links_in now (get_or fs n f).frame))
next_set s fs old n now f tree left so_far less is read same =
    let next = subst (λ (g : FrameRuns). (g.frame < length now) × CanBePruned s (links_in now g.frame) g.runs) (sym is) (next_tree s fs old n now f so_far less) in
    let links = links_read now f.frame tree next.0 read in
    subst (λ (g : FrameRuns). IsTreeSet now (slice_set now f.frame left) g.frame (pruned s (links_in now g.frame))) is
    (subst (IsTreeSet now (slice_set now f.frame left) f.frame) (same ∙ ap (λ (t : Shape). pruned s t.links) (sym read) ∙ ap (pruned s) (sym links)) (tree_set now f.frame left next.0))
