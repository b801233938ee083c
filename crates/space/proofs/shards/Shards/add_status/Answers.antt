-- "Or" adds the status to the word. Nothing is added by none.
use Rattle.std.proofs.Common.{◌≡◌, ◌∙◌, Bool, true, false, ◌||◌, not, Option, Some, None, refl, sym, ap, subst, arith, slice_index, bit_or, IsTrue}
use Rattle.std.specs.Option.{option_map}
use Rattle.fpage.specs.declared.rights.Rights.{Rights}
use Rattle.fpage.specs.Rights.{is_empty, join}
use Rattle.space.specs.declared.place.Entry.{Entry}
use Rattle.space.specs.Word.{entry_of, is_pack}
use Rattle.space.specs.Entries.{with_status}
use Rattle.space.specs.Shards.{IsSetAt, entry_at, words_of}
use Rattle.space.proofs.Words.{pack_gains_status}
use Rattle.space.proofs.ShardWords.{dead_zero}
use Rattle.space.proofs.shards.Shards.add_status.Goals as goal

pub put-requires-clause-pack : goal.put-requires-clause-pack
put-requires-clause-pack c =
    subst (λ bits. IsTrue (is_pack (bit_or c.in-Some.word bits))) (sym c.word_bits.ensures) (pack_gains_status c.in-Some.word c.args.status c.in-Some.ensures.pack c.if-word-eq0.false).0

pub put-requires-clause-live : goal.put-requires-clause-live
put-requires-clause-live c none = absurd (c.if-word-eq0.false (c.in-Some.ensures.word ∙ dead_zero c.args.self.now c.find-index.result none))

pub returns-clause-set : goal.returns-clause-set
returns-clause-set c =
    let s = c.args.self.now in
    let place = c.requires.place in
    let word = c.in-Some.word in
    let stood : entry_of word ≡ entry_at s c.args.place = ap entry_of (c.in-Some.ensures.word ∙ ap (slice_index (words_of s)) c.find-index.ensures) in
    let gains = pack_gains_status word c.args.status c.in-Some.ensures.pack c.if-word-eq0.false in
    let says = ap (λ bits. entry_of (bit_or word bits)) c.word_bits.ensures ∙ gains.2 ∙ ap (option_map (with_status c.args.status)) stood in
    subst (IsSetAt s c.put.new.self c.args.place) says (c.put.ensures.set c.args.place (record { space = place.space; page = place.page }) (sym c.find-index.ensures))

-- no status changes nothing
join_none : (r s : Rights) → is_empty s ≡ true → join r s ≡ r
join_none r s none = λ i. record { read = one r.read s.read (no_read s.read s.write s.execute none) i; write = one r.write s.write (no_write s.read s.write s.execute none) i; execute = one r.execute s.execute (no_execute s.read s.write s.execute none) i }
  where
    one : (x y : Bool) → y ≡ false → (x || y) ≡ x
    one x y none = grind (arith, none)

    no_read : (x y z : Bool) → not (x || y || z) ≡ true → x ≡ false
    no_read x y z none = grind (arith, none)

    no_write : (x y z : Bool) → not (x || y || z) ≡ true → y ≡ false
    no_write x y z none = grind (arith, none)

    no_execute : (x y z : Bool) → not (x || y || z) ≡ true → z ≡ false
    no_execute x y z none = grind (arith, none)

none_added : (o : Option Entry) (s : Rights) → is_empty s ≡ true → o ≡ option_map (with_status s) o
none_added None s none = refl
none_added (Some e) s none = sym (ap (λ status. Some (record e { status = status })) (join_none e.status s none))

pub returns-then-is_empty-clause-set : goal.returns-then-is_empty-clause-set
returns-then-is_empty-clause-set c = record {
  there = none_added (entry_at c.args.self.now c.args.place) c.args.status (sym c.is_empty.ensures ∙ c.if-is_empty.true);
  elsewhere = λ q place differ. refl;
}
