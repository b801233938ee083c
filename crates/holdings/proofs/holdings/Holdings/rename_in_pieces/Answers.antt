-- The targets have words in use; pairs are planned, the trees renamed, and the words written.
use Rattle.std.proofs.Common.{◌≡◌, List, length, refl, sym, ap, subst, arith}
use Rattle.std.proofs.lemmas.List.{with_items_is}
use Rattle.maptree.specs.Origins.{Shape}
use Rattle.holdings.specs.Contents.{AreMoved}
use Rattle.holdings.specs.Inner.Held.{contents_of}
use Rattle.holdings.specs.Inner.Links.{links_of}
use Rattle.holdings.specs.Inner.Sound.{AreSound}
use Rattle.holdings.proofs.Phases.MovePhase.{trees_movable, pairs_distinct, pairs_can, moved_sound, are_moved}
use Rattle.holdings.proofs.Contents.SameEntries.{made_from, made_says, made_there, sound_stays}
use Rattle.holdings.proofs.holdings.Holdings.rename_in_pieces.Goals as goal

pub item_pieces-requires-clause-places : goal.item_pieces-requires-clause-places
item_pieces-requires-clause-places g c =
    made_there c.self.inside.shards c.make_targets.new.shards c.self.inside.trees.items c.in_ok-make_targets.ensures.made c.args.self c.self.view_is c.args.transfers.now c.requires.planned.within c.in_ok-make_targets.ensures.there

pub item_pieces-requires-clause-apart : goal.item_pieces-requires-clause-apart
item_pieces-requires-clause-apart g c =
    pairs_distinct c.make_targets.new.shards c.self.inside.trees.items (sound_stays c.self.inside.shards c.make_targets.new.shards c.self.inside.trees.items (made_says c.self.inside.shards c.make_targets.new.shards c.in_ok-make_targets.ensures.made c.in_ok-make_targets.ensures.present) c.self.invariant) c.args.self (made_from c.self.inside.shards c.make_targets.new.shards c.self.inside.trees.items c.in_ok-make_targets.ensures.made c.in_ok-make_targets.ensures.present c.args.self c.self.view_is) c.args.transfers.now c.requires.planned c.requires.all_go c.requires.free c.in_ok-make_targets.ensures.there

pub rename_all-requires-clause-movable : goal.rename_all-requires-clause-movable
rename_all-requires-clause-movable g c =
    trees_movable c.make_targets.new.shards c.self.inside.trees.items (sound_stays c.self.inside.shards c.make_targets.new.shards c.self.inside.trees.items (made_says c.self.inside.shards c.make_targets.new.shards c.in_ok-make_targets.ensures.made c.in_ok-make_targets.ensures.present) c.self.invariant) c.args.self (made_from c.self.inside.shards c.make_targets.new.shards c.self.inside.trees.items c.in_ok-make_targets.ensures.made c.in_ok-make_targets.ensures.present c.args.self c.self.view_is) c.args.transfers.now c.requires.planned c.requires.all_go c.requires.free c.in_ok-make_targets.ensures.there
    c.deref_mut.result.now c.deref_mut.ensures.value (links_of c.make_targets.new.shards c.args.transfers.now) refl

pub write_phase-requires-clause-can : goal.write_phase-requires-clause-can
write_phase-requires-clause-can g c =
    pairs_can c.make_targets.new.shards c.self.inside.trees.items (sound_stays c.self.inside.shards c.make_targets.new.shards c.self.inside.trees.items (made_says c.self.inside.shards c.make_targets.new.shards c.in_ok-make_targets.ensures.made c.in_ok-make_targets.ensures.present) c.self.invariant) c.args.self (made_from c.self.inside.shards c.make_targets.new.shards c.self.inside.trees.items c.in_ok-make_targets.ensures.made c.in_ok-make_targets.ensures.present c.args.self c.self.view_is) c.args.transfers.now c.requires.planned c.requires.all_go c.requires.free c.in_ok-make_targets.ensures.there
    c.in_ok-pieces.pieces.items c.in_ok-pieces.ensures

pub invariant_of-result : goal.invariant_of-result
invariant_of-result g c =
    let count : length c.rename_all.new.trees ≡ c.self.inside.trees.len = omega (arith, c.rename_all.auto.trees, ap length c.deref_mut.ensures.value, c.self.inside.trees.ok.0) in
    subst (AreSound c.write_phase.new.shards) (sym (with_items_is c.self.inside.trees c.rename_all.new.trees count))
    (moved_sound c.make_targets.new.shards c.self.inside.trees.items (sound_stays c.self.inside.shards c.make_targets.new.shards c.self.inside.trees.items (made_says c.self.inside.shards c.make_targets.new.shards c.in_ok-make_targets.ensures.made c.in_ok-make_targets.ensures.present) c.self.invariant) c.args.self (made_from c.self.inside.shards c.make_targets.new.shards c.self.inside.trees.items c.in_ok-make_targets.ensures.made c.in_ok-make_targets.ensures.present c.args.self c.self.view_is) c.args.transfers.now c.requires.planned c.requires.all_go c.requires.free c.in_ok-make_targets.ensures.there
    c.in_ok-pieces.pieces.items c.in_ok-pieces.ensures
    (links_of c.make_targets.new.shards c.args.transfers.now) refl c.deref_mut.result.now c.deref_mut.ensures.value c.rename_all.new.trees c.in_ok-counts.ensures.renamed
    c.write_phase.new.shards c.in_ok-write_phase.ensures.written)

pub returns-clause-moved : goal.returns-clause-moved
returns-clause-moved g c =
    let count : length c.rename_all.new.trees ≡ c.self.inside.trees.len = omega (arith, c.rename_all.auto.trees, ap length c.deref_mut.ensures.value, c.self.inside.trees.ok.0) in
    subst (λ (now : List Shape). AreMoved c.args.self c.args.transfers.now (contents_of c.write_phase.new.shards now, c.in_ok-counts.counts)) (sym (with_items_is c.self.inside.trees c.rename_all.new.trees count))
    (are_moved c.make_targets.new.shards c.self.inside.trees.items (sound_stays c.self.inside.shards c.make_targets.new.shards c.self.inside.trees.items (made_says c.self.inside.shards c.make_targets.new.shards c.in_ok-make_targets.ensures.made c.in_ok-make_targets.ensures.present) c.self.invariant) c.args.self (made_from c.self.inside.shards c.make_targets.new.shards c.self.inside.trees.items c.in_ok-make_targets.ensures.made c.in_ok-make_targets.ensures.present c.args.self c.self.view_is) c.args.transfers.now c.requires.planned c.requires.all_go c.requires.free c.in_ok-make_targets.ensures.there
    c.in_ok-pieces.pieces.items c.in_ok-pieces.ensures
    (links_of c.make_targets.new.shards c.args.transfers.now) refl c.deref_mut.result.now c.deref_mut.ensures.value c.rename_all.new.trees c.in_ok-counts.ensures.renamed
    c.write_phase.new.shards c.in_ok-write_phase.ensures.written c.in_ok-counts.counts c.in_ok-counts.ensures.counts)
