-- The page holds one of the rights, so it is noted.
use Rattle.std.proofs.Common.{◌≡◌, true, Bool, ◌&&◌, if◌then◌else◌, Some, None, sym, ap, ◌∙◌, arith}
use Rattle.std.specs.Option.{option_or}
use Rattle.space.specs.Place.{same_place}
use Rattle.holdings.specs.Inner.Notes.{loses_in}
use Rattle.holdings.specs.Noting.{first_note}
use Rattle.holdings.proofs.NotedPages.{first_more}
use Rattle.holdings.proofs.noting.note_loser.Goals as goal

both : (x l : Bool) → l ≡ true → x ≡ (x && l)
both x l is = grind (arith, is)

pub returns-in_ok-add_note : goal.returns-in_ok-add_note
returns-in_ok-add_note c q =
    let old = c.args.list.now.items in
    let loses : loses_in c.args.shards.now c.args.revoked c.args.place ≡ true = sym c.loses.ensures ∙ c.if-loses.true in
    ap (λ ns. first_note ns q) c.in_ok-add_note.ensures ∙ first_more old (record { place = c.args.place; was_held = true }) q
    ∙ ap (λ b. option_or (first_note old q) (if b then Some true else None)) (both (same_place q c.args.place) (loses_in c.args.shards.now c.args.revoked c.args.place) loses)
