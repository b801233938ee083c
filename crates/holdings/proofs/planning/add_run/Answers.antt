-- One part more.
use Rattle.std.proofs.Common.{◌≡◌, ℕ, ◌+◌, ◌<◌, ◌≤◌, ◌++◌, ◌∷◌, [], List, length, map, is_ok, if◌then◌else◌, false, refl, sym, ap, ◌∙◌, subst, arith}
use Rattle.std.specs.List.{All}
use Rattle.std.proofs.lemmas.List.{length-map}
use Rattle.space.specs.declared.shards.Shards.{Shards}
use Rattle.space.specs.Shards.{index_of}
use Rattle.holdings.specs.Inner.Words.{IsThere}
use Rattle.space.specs.declared.node.Node.{Node}
use Rattle.pieces.specs.Contents.{is_fold_apart}
use Rattle.pieces.specs.Distinct.{are_distinct}
use Rattle.pieces.specs.Masks.{masks_of}
use Rattle.pieces.specs.declared.piece.Piece.TheVariants as piece
use Rattle.holdings.specs.Inner.Planning.{strip_of}
use Rattle.holdings.specs.Inner.StripPlans.{pages_of}
use Rattle.holdings.proofs.Planned.Parts.{HasWords, IsAddedUpTo, none_yet, one_more, words_next, all_added, more_pages, no_pages, some_pages}
use Rattle.holdings.proofs.planning.add_run.Goals as goal
use Rattle.holdings.proofs.planning.add_run.Goals.{After-deref}

pub loop-at-init : goal.loop-at-init
loop-at-init c = none_yet c.args.shards.now c.args.revoked c.args.flush c.args.origin _ c.args.pieces.now.items

-- what is known of the next part
record IsNext (c : After-deref) : Type 0 where
  end : ℕ
  end_is : end ≡ c.loop-at.at + c.min.result
  more : c.loop-at.at < end
  within : end ≤ c.args.run.now.end
  some : 0 < length c.in_ok-part.part.nodes.items
  pages : pages_of c.args.tree.now.links c.loop-at.at c.args.run.now.end ≡ map (λ n. n.place) c.in_ok-part.part.nodes.items ++ pages_of c.args.tree.now.links end c.args.run.now.end
  words : HasWords c.args.shards.now c.args.origin c.in_ok-part.part.nodes.items

next_of : (c : After-deref) → IsNext c
next_of c =
    let os = c.args.tree.now.links in
    let at = c.loop-at.at in
    let to = c.args.run.now.end in
    let end = at + c.min.result in
    let part = c.in_ok-part.part.nodes.items in
    let least = c.min.ensures in
    let less : at < end = omega (arith, least, c.requires.most, c.loop-at-test.true) in
    let within : end ≤ to = omega (arith, least, c.loop-at-test.true) in
    let places : map (λ n. n.place) part ≡ pages_of os at end = c.in_ok-part.ensures.places in
    let count = length-map part (λ n. n.place) in
    let some : 0 < length (map (λ (n : Node). n.place) part) = subst (λ ps. 0 < length ps) (sym places) (some_pages os at end less (omega (arith, within, c.requires.within))) in
    let pages = more_pages os at end to (omega (arith, less)) within ∙ ap (λ ps. ps ++ pages_of os end to) (sym places) in
    record {
      end = end;
      end_is = refl;
      more = less;
      within = within;
      some = omega (arith, count, some);
      pages = pages;
      words = words_next c.args.shards.now c.args.revoked c.args.flush c.args.origin (pages_of os c.args.run.now.start to) (pages_of os at to) (pages_of os end to) c.args.pieces.now.items c.loop-at.spared c.loop-at.pieces.items
          c.requires.words c.loop-at.invariant part pages;
    }

pub indexes-requires : goal.indexes-requires
indexes-requires c = subst (All (λ n. IsThere c.args.shards.now n.place)) (sym c.deref.ensures.value) (next_of c).words.places

-- the indexes of the part's words
abbrev indexes_of : Shards → List Node → List ℕ
indexes_of s ns = map (λ n. index_of s n.place) ns

pub of_part-strip-requires-clause-distinct : goal.of_part-strip-requires-clause-distinct
of_part-strip-requires-clause-distinct c =
    let next = next_of ((goal.at.of_part-strip-requires-clause-distinct c).After-deref) in
    ap are_distinct (c.in_ok-indexes.ensures ∙ ap (indexes_of c.args.shards.now) c.deref.ensures.value) ∙ next.words.distinct

pub of_part-strip-requires-clause-apart : goal.of_part-strip-requires-clause-apart
of_part-strip-requires-clause-apart c =
    let next = next_of ((goal.at.of_part-strip-requires-clause-apart c).After-deref) in
    ap (λ fold. is_fold_apart fold c.in_ok-indexes.indexes.items) c.index_of_origin-fold.ensures
    ∙ ap (is_fold_apart _) (c.in_ok-indexes.ensures ∙ ap (indexes_of c.args.shards.now) c.deref.ensures.value) ∙ next.words.apart

pub loop-at-preserved : goal.loop-at-preserved
loop-at-preserved c =
    let next = next_of ((goal.at.loop-at-preserved c).After-deref) in
    let s = c.args.shards.now in
    let os = c.args.tree.now.links in
    let to = c.args.run.now.end in
    let a = c.args.revoked in
    let origin = c.args.origin in
    let spared = c.loop-at.spared in
    let part = c.in_ok-part.part.nodes.items in
    let strip = c.of_part-strip.result in
    let indexes = c.in_ok-indexes.ensures ∙ ap (indexes_of s) c.deref.ensures.value in
    let made : strip ≡ strip_of s spared a origin part =
    c.of_part-strip.ensures ∙ ap (λ is. record { nodes = part; masks = masks_of spared a (length part); indexes = is; fold = c.index_of_origin-fold.result }) indexes
    ∙ ap (λ fold. record { nodes = part; masks = masks_of spared a (length part); indexes = indexes_of s part; fold = fold }) c.index_of_origin-fold.ensures in
    let pushed = c.push.ensures.items ∙ ap (λ b. if b then c.loop-at.pieces.items ++ piece.Strip strip ∷ [] else c.loop-at.pieces.items) (sym c.map_err.ensures.variant ∙ ap is_ok c.in_ok-map_err.was) in
    subst (λ end. IsAddedUpTo s a c.args.flush origin (pages_of os c.args.run.now.start to) (pages_of os end to) c.args.pieces.now.items false c.push.new.self.items) next.end_is
    (one_more s a c.args.flush origin (pages_of os c.args.run.now.start to) (pages_of os c.loop-at.at to) (pages_of os next.end to) c.args.pieces.now.items spared c.loop-at.pieces.items c.push.new.self.items
    c.loop-at.invariant part next.some next.pages strip made pushed)

pub returns : goal.returns
returns c =
    let s = c.args.shards.now in
    let os = c.args.tree.now.links in
    let none = no_pages os c.loop-at.at c.args.run.now.end (omega (arith, c.loop-at-test.false)) in
    let ps = pages_of os c.args.run.now.start c.args.run.now.end in
    all_added s c.args.revoked c.args.flush c.args.origin ps c.args.pieces.now.items c.loop-at.spared c.loop-at.pieces.items
    (subst (λ rest. IsAddedUpTo s c.args.revoked c.args.flush c.args.origin ps rest c.args.pieces.now.items c.loop-at.spared c.loop-at.pieces.items) none c.loop-at.invariant)
