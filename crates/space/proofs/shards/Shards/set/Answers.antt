-- A word that is there is written, and its shard is live; where none is, nothing stands and nothing is to.
use Rattle.std.proofs.Common.{◌∙◌, sym, ap, arith}
use Rattle.std.specs.Option.{option_copied}
use Rattle.space.specs.Shards.{IsPlace}
use Rattle.space.proofs.Made.{place_on}
use Rattle.space.proofs.ShardWords.{unset, words_are_all}
use Rattle.space.proofs.shards.Shards.set.Goals as goal

pub returns-then-index-len-clause-set : goal.returns-then-index-len-clause-set
returns-then-index-len-clause-set c =
    let s = c.args.self.now in
    let revived = c.revive.new.self in
    let made = c.revive.ensures.made in
    let place = c.requires.place in
    let is_place : IsPlace s c.args.place = record { space = place.space; page = place.page } in
    let set = c.write.ensures.set c.args.place (place_on s revived made c.args.place is_place) (c.revive.ensures.layout.index c.args.place ∙ sym c.find-index.ensures) in
    record {
      there = set.there;
      elsewhere = λ q q_place apart. set.elsewhere q (place_on s revived made q (record { space = q_place.space; page = q_place.page })) apart ∙ made.entries q;
    }

pub returns-else-index-len-clause-set : goal.returns-else-index-len-clause-set
returns-else-index-len-clause-set c =
    let s = c.args.self.now in
    let held = sym c.as_ref.ensures.value ∙ ap option_copied c.unwrap.ensures in
    unset s c.args.place c.args.entry c.requires.has (λ has. absurd (omega (arith, has, c.find-index.ensures, words_are_all s c.unwrap.result.now held, c.len.ensures, c.unwrap.result.now.ok.0, c.if-index-len.false)))
