-- The next fpage is that of the next word.
use Rattle.std.proofs.Common.{◌<◌, ◌≤◌, length, take, arith, sym}
use Rattle.std.proofs.lemmas.List.{take_more_set, length-take-le}
use Rattle.std.proofs.lemmas.List.Elements.{All-push}
use Rattle.fpage.specs.Fpage.{IsFpageOf}
use Rattle.fields.proofs.ReadWords.{named_next}
use Rattle.fields.proofs.words.read_fpages.Goals as goal

pub loop-i-preserved : goal.loop-i-preserved
loop-i-preserved c =
    let i = c.loop-i.i in
    let fpages = c.loop-i.fpages in
    let fpage = c.in_ok-fpages.field-0 in
    let room : i < length fpages = omega arith in
    let some : i ≤ length fpages = omega arith in
    let front = take_more_set fpages i fpage room in
    let before = c.loop-i.invariant in
    record {
      read = rw front (named_next c.args.bits c.args.words.now i (take i fpages) fpage _ c.loop-i-test.true (length-take-le i fpages some) (sym c.in_ok-fpages.ensures.read) before.read);
      within = rw front (All-push (IsFpageOf c.args.bits) (take i fpages) fpage before.within c.in_ok-fpages.ensures.within);
    }
