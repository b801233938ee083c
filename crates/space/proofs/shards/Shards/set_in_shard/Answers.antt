-- The word is written, and its shard is live.
use Rattle.std.proofs.Common.{◌∙◌, arith}
use Rattle.space.specs.Shards.{IsPlace}
use Rattle.space.proofs.Made.{place_on}
use Rattle.space.proofs.shards.Shards.set_in_shard.Goals as goal

pub returns-clause-set : goal.returns-clause-set
returns-clause-set c =
    let s = c.args.self.now in
    let revived = c.revive.new.self in
    let made = c.revive.ensures.made in
    let place = c.requires.place in
    let is_place : IsPlace s c.args.place = record { space = place.space; page = place.page } in
    let set = c.write.ensures.set c.args.place (place_on s revived made c.args.place is_place) (omega (arith, c.revive.ensures.layout.index c.args.place, c.requires.start, c.offset.ensures.offset)) in
    record {
      there = set.there;
      elsewhere = λ q q_place apart. set.elsewhere q (place_on s revived made q (record { space = q_place.space; page = q_place.page })) apart ∙ made.entries q;
    }
