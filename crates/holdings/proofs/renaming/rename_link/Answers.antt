-- The source stands in the tree of the frame, and the target does not.
use Rattle.std.proofs.Common.{◌≡◌, ℕ, ◌<◌, List, length, get_or, true, false, sym, ap, ◌∙◌, subst}
use Rattle.std.specs.Prelude.{slice_set}
use Rattle.maptree.specs.Origins.{Shape, Origins, renamed}
use Rattle.holdings.specs.Inner.Derivation.{stands_in}
use Rattle.holdings.specs.Inner.Held.{links_in}
use Rattle.holdings.specs.Inner.Links.{IsTreeSet}
use Rattle.holdings.proofs.Contents.Holders.{links_read}
use Rattle.holdings.proofs.Links.NewMappings.{tree_set}
use Rattle.holdings.proofs.Renamings.OneLink.{frame_there, source_there, target_free, one_renamed}
use Rattle.holdings.proofs.renaming.rename_link.Goals as goal

-- the links of the tree that is read
read : (trees : List Shape) (frame : ℕ) (t : Shape) → frame < length trees → t ≡ get_or trees frame t → links_in trees frame ≡ (get_or trees frame t).links
read trees frame t within is = links_read trees frame t within is ∙ ap (λ (s : Shape). s.links) is

pub bounds-trees-link : goal.bounds-trees-link
bounds-trees-link c = frame_there c.args.trees.now c.args.link c.requires

pub replace-requires-clause-source : goal.replace-requires-clause-source
replace-requires-clause-source c =
    let trees = c.args.trees.now in
    let l = c.args.link in
    let frame = frame_there trees l c.requires in
    subst (λ (os : Origins). stands_in os l.source ≡ true) (read trees l.frame c.index-trees-link.result frame c.index-trees-link.is) (source_there trees l c.requires)

pub replace-requires-clause-target : goal.replace-requires-clause-target
replace-requires-clause-target c =
    let trees = c.args.trees.now in
    let l = c.args.link in
    let frame = frame_there trees l c.requires in
    subst (λ (os : Origins). stands_in os l.target ≡ false) (read trees l.frame c.index-trees-link.result frame c.index-trees-link.is) (target_free trees l c.requires)

pub returns : goal.returns
returns c =
    let trees = c.args.trees.now in
    let l = c.args.link in
    let frame = frame_there trees l c.requires in
    let left = c.replace.new.tree in
    let links : left.links ≡ renamed l.source l.target (links_in trees l.frame) = c.replace.ensures ∙ ap (renamed l.source l.target) (sym (read trees l.frame c.index-trees-link.result frame c.index-trees-link.is)) in
    one_renamed trees l c.requires (slice_set trees l.frame left) (subst (IsTreeSet trees (slice_set trees l.frame left) l.frame) links (tree_set trees l.frame left frame))
