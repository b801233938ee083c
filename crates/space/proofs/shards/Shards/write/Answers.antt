-- The word of an entry says that entry. Its shard is live first.
use Rattle.std.proofs.Common.{◌∙◌, ap}
use Rattle.space.specs.Word.{entry_of, is_pack}
use Rattle.space.proofs.Words.{unpack_gives_back}
use Rattle.space.proofs.shards.Shards.write.Goals as goal

pub put-requires-clause-pack : goal.put-requires-clause-pack
put-requires-clause-pack c = ap is_pack c.pack.ensures ∙ (unpack_gives_back c.args.entry c.requires.frame).0

pub returns-clause-set : goal.returns-clause-set
returns-clause-set c p place is =
    let put = c.put.ensures.set p (record { space = place.space; page = place.page }) is in
    let says = ap entry_of c.pack.ensures ∙ (unpack_gives_back c.args.entry c.requires.frame).1 in
    record {
      there = put.there ∙ says;
      elsewhere = λ q q_place apart. put.elsewhere q (record { space = q_place.space; page = q_place.page }) apart;
    }
