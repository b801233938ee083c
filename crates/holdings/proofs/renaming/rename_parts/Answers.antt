-- Workers rename parts of the trees.
use Rattle.maptree.specs.PlaceMaps.{place_for}
use Rattle.holdings.proofs.Renamings.Parts.{part_can, renamed_by_parts}
use Rattle.holdings.proofs.renaming.rename_parts.OwnLists.{reads-pre-1-1, reads-post-1-1}
use Rattle.holdings.proofs.renaming.rename_parts.Goals as goal

pub change-requires : goal.change-requires
change-requires g c = record {
  may = λ front behind part are.
      let can = part_can (place_for c.args.targets.now) c.args.trees.now front behind part.now are c.requires.can in
      search (reads-pre-1-1, can);
}

pub returns : goal.returns
returns g c = renamed_by_parts (place_for c.args.targets.now) c.args.links.now _ (λ start before after call. search (reads-post-1-1, call)) c.args.trees.now c.change.new.trees c.change.result c.requires.frames c.change.ensures
