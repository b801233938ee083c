-- The word that is put is made of that of the source.
use Rattle.std.proofs.Common.{◌≡◌, ◌∙◌, sym, ap, subst, slice_index}
use Rattle.std.specs.Option.{option_map}
use Rattle.space.specs.Word.{entry_of, is_pack}
use Rattle.space.specs.Entries.{mapped}
use Rattle.space.specs.Shards.{IsPlace, IsSetAt, entry_at, words_of}
use Rattle.space.proofs.Made.{place_on}
use Rattle.space.proofs.Words.{unpack_gives_back, unpacked_fits, mapped_fits}
use Rattle.space.proofs.shards.Shards.put_mapped.Goals as goal

pub put-requires-clause-pack : goal.put-requires-clause-pack
put-requires-clause-pack c =
    let through = c.args.through in
    let word = c.in-Some.word in
    ap is_pack c.mapped_word.ensures ∙ (unpack_gives_back (option_map (mapped through) (entry_of word)) (mapped_fits through (entry_of word) (unpacked_fits word))).0

pub returns-clause-set : goal.returns-clause-set
returns-clause-set c there =
    let s = c.args.self.now in
    let through = c.args.through in
    let target = c.args.target in
    let word = c.in-Some.word in
    let revived = c.revive.new.self in
    let made = c.revive.ensures.made in
    let place : IsPlace s target = record { space = c.requires.target.space; page = c.requires.target.page } in
    let stood : entry_of word ≡ entry_at s c.args.source = ap entry_of (c.in-Some.ensures.word ∙ ap (slice_index (words_of s)) c.find.ensures) in
    let says = ap entry_of c.mapped_word.ensures ∙ (unpack_gives_back (option_map (mapped through) (entry_of word)) (mapped_fits through (entry_of word) (unpacked_fits word))).1
    ∙ ap (option_map (mapped through)) stood in
    let set = c.put.ensures.set target (place_on s revived made target place) (c.revive.ensures.layout.index target ∙ sym c.find-index.ensures) in
    record {
      there = set.there ∙ says;
      elsewhere = λ q q_place apart. set.elsewhere q (place_on s revived made q (record { space = q_place.space; page = q_place.page })) apart ∙ made.entries q;
    }
