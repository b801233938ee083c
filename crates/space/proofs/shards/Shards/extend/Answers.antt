-- What stood there gains the rights.
use Rattle.std.proofs.Common.{◌≡◌, ◌∙◌, Some, sym, ap, subst, slice_index}
use Rattle.std.specs.Option.{option_map}
use Rattle.space.specs.Word.{entry_of}
use Rattle.space.specs.Entries.{extended}
use Rattle.space.specs.Shards.{IsSetAt, entry_at, words_of}
use Rattle.space.proofs.shards.Shards.extend.Goals as goal

pub returns-clause-set : goal.returns-clause-set
returns-clause-set c =
    let s = c.args.self.now in
    let stood : entry_at s c.args.place ≡ Some c.in-Some.entry =
    sym (ap entry_of (ap (slice_index (words_of s)) c.find-index.ensures)) ∙ sym c.read.ensures.entry ∙ c.in-Some.is in
    let says = ap Some c.extended.ensures ∙ sym (ap (option_map (extended c.args.rights)) stood) in
    subst (IsSetAt s c.write.new.self c.args.place) says (c.write.ensures.set c.args.place c.requires.place (sym c.find-index.ensures))
