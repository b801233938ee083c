-- The targets have words in use; stores are planned, new mappings put into the trees, and the words written.
use Rattle.std.proofs.Common.{◌≡◌, refl, List, length, sym, ap, subst, arith}
use Rattle.std.proofs.lemmas.List.{with_items_is}
use Rattle.maptree.specs.Origins.{Shape}
use Rattle.holdings.specs.Contents.{AreMapped}
use Rattle.holdings.specs.Inner.Held.{contents_of}
use Rattle.holdings.specs.Inner.Links.{links_of}
use Rattle.holdings.specs.Inner.Sound.{AreSound}
use Rattle.holdings.proofs.Phases.MapPhase.{new_linkable, stores_distinct, stores_can, mapped_sound, are_mapped}
use Rattle.holdings.proofs.Contents.SameEntries.{made_from, made_says, made_there, sound_stays}
use Rattle.holdings.proofs.holdings.Holdings.map_in_pieces.Goals as goal

pub item_pieces-requires-clause-places : goal.item_pieces-requires-clause-places
item_pieces-requires-clause-places g c =
    made_there c.self.inside.shards c.make_targets.new.shards c.self.inside.trees.items c.in_ok-make_targets.ensures.made c.args.self c.self.view_is c.args.transfers.now c.requires.planned.within c.in_ok-make_targets.ensures.there

pub item_pieces-requires-clause-apart : goal.item_pieces-requires-clause-apart
item_pieces-requires-clause-apart g c =
    stores_distinct c.make_targets.new.shards c.self.inside.trees.items (sound_stays c.self.inside.shards c.make_targets.new.shards c.self.inside.trees.items (made_says c.self.inside.shards c.make_targets.new.shards c.in_ok-make_targets.ensures.made c.in_ok-make_targets.ensures.present) c.self.invariant) c.args.self (made_from c.self.inside.shards c.make_targets.new.shards c.self.inside.trees.items c.in_ok-make_targets.ensures.made c.in_ok-make_targets.ensures.present c.args.self c.self.view_is) c.args.rights c.args.transfers.now c.requires.planned c.requires.ready c.in_ok-make_targets.ensures.there

pub link_together-requires-clause-linkable : goal.link_together-requires-clause-linkable
link_together-requires-clause-linkable g c =
    new_linkable c.make_targets.new.shards c.self.inside.trees.items (sound_stays c.self.inside.shards c.make_targets.new.shards c.self.inside.trees.items (made_says c.self.inside.shards c.make_targets.new.shards c.in_ok-make_targets.ensures.made c.in_ok-make_targets.ensures.present) c.self.invariant) c.args.self (made_from c.self.inside.shards c.make_targets.new.shards c.self.inside.trees.items c.in_ok-make_targets.ensures.made c.in_ok-make_targets.ensures.present c.args.self c.self.view_is) c.args.rights c.args.transfers.now c.requires.planned c.requires.ready c.in_ok-make_targets.ensures.there
    c.deref_mut.result.now c.deref_mut.ensures.value (links_of c.make_targets.new.shards c.args.transfers.now) refl

pub write_phase-requires-clause-can : goal.write_phase-requires-clause-can
write_phase-requires-clause-can g c =
    stores_can c.make_targets.new.shards c.self.inside.trees.items (sound_stays c.self.inside.shards c.make_targets.new.shards c.self.inside.trees.items (made_says c.self.inside.shards c.make_targets.new.shards c.in_ok-make_targets.ensures.made c.in_ok-make_targets.ensures.present) c.self.invariant) c.args.self (made_from c.self.inside.shards c.make_targets.new.shards c.self.inside.trees.items c.in_ok-make_targets.ensures.made c.in_ok-make_targets.ensures.present c.args.self c.self.view_is) c.args.rights c.args.transfers.now c.requires.planned c.requires.ready c.in_ok-make_targets.ensures.there
    c.in_ok-pieces.pieces.items c.in_ok-pieces.ensures

pub invariant_of-result : goal.invariant_of-result
invariant_of-result g c =
    let count : length c.link_together.new.trees ≡ c.self.inside.trees.len = omega (arith, c.link_together.auto.trees, ap length c.deref_mut.ensures.value, c.self.inside.trees.ok.0) in
    subst (AreSound c.write_phase.new.shards) (sym (with_items_is c.self.inside.trees c.link_together.new.trees count))
    (mapped_sound c.make_targets.new.shards c.self.inside.trees.items (sound_stays c.self.inside.shards c.make_targets.new.shards c.self.inside.trees.items (made_says c.self.inside.shards c.make_targets.new.shards c.in_ok-make_targets.ensures.made c.in_ok-make_targets.ensures.present) c.self.invariant) c.args.self (made_from c.self.inside.shards c.make_targets.new.shards c.self.inside.trees.items c.in_ok-make_targets.ensures.made c.in_ok-make_targets.ensures.present c.args.self c.self.view_is) c.args.rights c.args.transfers.now c.requires.planned c.requires.ready c.in_ok-make_targets.ensures.there
    c.in_ok-pieces.pieces.items c.in_ok-pieces.ensures
    (links_of c.make_targets.new.shards c.args.transfers.now) refl c.deref_mut.result.now c.deref_mut.ensures.value c.link_together.new.trees c.in_ok-counts.ensures.linked
    c.write_phase.new.shards c.in_ok-write_phase.ensures.written)

pub returns-clause-mapped : goal.returns-clause-mapped
returns-clause-mapped g c =
    let count : length c.link_together.new.trees ≡ c.self.inside.trees.len = omega (arith, c.link_together.auto.trees, ap length c.deref_mut.ensures.value, c.self.inside.trees.ok.0) in
    subst (λ (now : List Shape). AreMapped c.args.self c.args.transfers.now c.args.rights (contents_of c.write_phase.new.shards now, c.in_ok-counts.counts)) (sym (with_items_is c.self.inside.trees c.link_together.new.trees count))
    (are_mapped c.make_targets.new.shards c.self.inside.trees.items (sound_stays c.self.inside.shards c.make_targets.new.shards c.self.inside.trees.items (made_says c.self.inside.shards c.make_targets.new.shards c.in_ok-make_targets.ensures.made c.in_ok-make_targets.ensures.present) c.self.invariant) c.args.self (made_from c.self.inside.shards c.make_targets.new.shards c.self.inside.trees.items c.in_ok-make_targets.ensures.made c.in_ok-make_targets.ensures.present c.args.self c.self.view_is) c.args.rights c.args.transfers.now c.requires.planned c.requires.ready c.in_ok-make_targets.ensures.there
    c.in_ok-pieces.pieces.items c.in_ok-pieces.ensures
    (links_of c.make_targets.new.shards c.args.transfers.now) refl c.deref_mut.result.now c.deref_mut.ensures.value c.link_together.new.trees c.in_ok-counts.ensures.linked
    c.write_phase.new.shards c.in_ok-write_phase.ensures.written c.in_ok-counts.counts c.in_ok-counts.ensures.counts)
