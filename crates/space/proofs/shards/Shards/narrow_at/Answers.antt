-- The word that is put is that of what is left.
use Rattle.std.proofs.Common.{◌≡◌, ◌∙◌, sym, ap, subst, slice_index}
use Rattle.std.specs.Option.{option_and_then}
use Rattle.space.specs.Word.{entry_of, is_pack}
use Rattle.space.specs.Entries.{narrowed}
use Rattle.space.specs.Shards.{IsSetAt, entry_at, words_of}
use Rattle.space.proofs.Words.{unpack_gives_back, unpacked_fits, narrowed_fits}
use Rattle.space.proofs.ShardWords.{dead_zero}
use Rattle.space.proofs.shards.Shards.narrow_at.Goals as goal

pub put-requires-clause-pack : goal.put-requires-clause-pack
put-requires-clause-pack c =
    let left = option_and_then (narrowed c.args.flush c.args.revoked) (entry_of c.in-Some.word) in
    ap is_pack c.narrowed_word-left.ensures ∙ (unpack_gives_back left (narrowed_fits c.args.flush c.args.revoked (entry_of c.in-Some.word) (unpacked_fits c.in-Some.word))).0

pub put-requires-clause-live : goal.put-requires-clause-live
put-requires-clause-live c none = absurd (c.if-word-eq0.false (c.in-Some.ensures.word ∙ dead_zero c.args.self.now c.args.index none))

pub returns-clause-set : goal.returns-clause-set
returns-clause-set c p place is =
    let s = c.args.self.now in
    let word = c.in-Some.word in
    let stood : entry_of word ≡ entry_at s p = ap entry_of (c.in-Some.ensures.word ∙ ap (slice_index (words_of s)) (sym is)) in
    let left = option_and_then (narrowed c.args.flush c.args.revoked) (entry_of word) in
    let says = ap entry_of c.narrowed_word-left.ensures ∙ (unpack_gives_back left (narrowed_fits c.args.flush c.args.revoked (entry_of word) (unpacked_fits word))).1
    ∙ ap (option_and_then (narrowed c.args.flush c.args.revoked)) stood in
    subst (IsSetAt s c.put.new.self p) says (c.put.ensures.set p place is)
