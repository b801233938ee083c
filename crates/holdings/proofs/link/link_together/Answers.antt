-- Workers put the new mappings into parts of the trees.
use Rattle.std.proofs.Common.{◌+◌, arith, length}
use Rattle.holdings.proofs.Links.Parts.{part_can, put_by_parts}
use Rattle.holdings.proofs.link.link_together.OwnLists.{reads-pre-1-1, reads-post-1-1}
use Rattle.holdings.proofs.link.link_together.Goals as goal

pub change-requires : goal.change-requires
change-requires g c = record {
  may = λ front behind part are.
      let can = part_can c.args.shards.now c.args.transfers.now c.args.trees.now front behind part.now are c.requires.present c.requires.places c.requires.linkable (0 + length front) (omega arith) in
      search (reads-pre-1-1, can);
}

pub returns-clause-linked : goal.returns-clause-linked
returns-clause-linked g c =
    put_by_parts c.args.shards.now c.args.transfers.now _ (λ start before after call. search (reads-post-1-1, call)) c.args.trees.now c.change.new.trees c.requires.linkable.frames c.in_ok-change.ensures
