-- The next item is that of the next two words.
use Rattle.std.proofs.Common.{◌≡◌, ℕ, ◌+◌, ◌*◌, ◌/◌, ◌<◌, length, drop, take, get_or, arith, sym, ◌∙◌, subst}
use Rattle.std.specs.List.{All}
use Rattle.std.proofs.lemmas.List.{take_more_set}
use Rattle.std.proofs.lemmas.List.Elements.{All-push}
use Rattle.fpage.specs.Fpage.{IsFpageOf}
use Rattle.fpage.specs.declared.item.Item.{Item}
use Rattle.fields.proofs.ReadWords.{two_next, items_after-more, items_after-refused, value_refused}
use Rattle.fields.proofs.words.read_items.Goals as goal

pub loop-i-preserved : goal.loop-i-preserved
loop-i-preserved c =
    let words = c.args.words.now in
    let i = c.loop-i.i in
    let items = c.loop-i.items in
    let item = c.in_ok-items.field-0 in
    let room : i < length items = omega arith in
    let front = take_more_set items i item room in
    let next = two_next words i (omega arith) in
    let more = items_after-more c.args.bits (get_or words (2 * i) 0) (get_or words (2 * i + 1) 0) (drop (2 * (i + 1)) words) (take i items) item (sym c.in_ok-items.ensures.read) in
    let before = c.loop-i.invariant in
    record {
      items = rw front (sym more ∙ rw next at before.items);
      within = rw front (All-push (λ (item : Item). IsFpageOf c.args.bits item.sent) (take i items) item before.within c.in_ok-items.ensures.within);
    }

pub returns-in_err-items-clause-items : goal.returns-in_err-items-clause-items
returns-in_err-items-clause-items c =
    let words = c.args.words.now in
    let i = c.loop-i.i in
    let next = two_next words i (omega arith) in
    let refused = items_after-refused c.args.bits (get_or words (2 * i) 0) (get_or words (2 * i + 1) 0) (drop (2 * (i + 1)) words) (take i c.loop-i.items) c.in_err-items.field-0.0 (sym c.in_err-items.ensures.read) in
    let all = sym refused ∙ rw next at c.loop-i.invariant.items in
    value_refused _ _ c.from_residual.result c.in_err-items.field-0.0 all c.from_residual.ensures.1

pub returns-clause-within : goal.returns-clause-within
returns-clause-within c =
    let all : c.loop-i.i ≡ length c.args.words.now / 2 = omega arith in
    let P : ℕ → Type 0 = λ n. All (λ (item : Item). IsFpageOf c.args.bits item.sent) (take n c.loop-i.items) in
    subst P all c.loop-i.invariant.within
