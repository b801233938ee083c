use Rattle.std.proofs.Common.{◌≡◌, ℕ, ◌<◌, length, ap, ◌∙◌, sym, subst}
use Rattle.std.specs.Slots.{slots_items}
use Rattle.std.proofs.lemmas.List.{with_items_is}
use Rattle.pieces.specs.Effects.{done, words_after}
use Rattle.turns.specs.Views.{count_in, names_in}
use Rattle.turns.specs.Rules.{steps_in}
use Rattle.turns.specs.SharedWords.{SharedContent, replaced}
use Rattle.turns.specs.Tables.{indexes_of}
use Rattle.turns.proofs.Replacing.{length_replaced}
use Rattle.turns.proofs.Seats.{finished}
use Rattle.turns.proofs.shared_words.SharedWords.finish.Goals as goal

pub returns : goal.returns
returns c =
    let shared = slots_items c.close_with-closed.result.words in
    let at = c.self.inside.indexes in
    let final = c.close_with-closed.ensures.values.2 in
    let many : length c.put_back.new.words ≡ c.self.inside.words.len = ap length c.put_back.ensures ∙ length_replaced c.deref_mut.result.now (indexes_of (length c.deref_mut.result.now) at) shared ∙ c.deref_mut.ensures.len in
    with_items_is c.self.inside.words c.put_back.new.words many ∙ c.put_back.ensures ∙ ap (λ ws. replaced ws (indexes_of (length ws) at) shared) c.deref_mut.ensures.value
    ∙ finished _ _ _ c.self.invariant final.0 c.args.seat.id c.args.seat.me.0 final.1
    (subst (λ (s : SharedContent). (p : ℕ) → p < length s.opening.pieces → 0 < names_in p c.args.seat.me.0.counts) (sym c.self.view_is) c.requires.all) shared final.2
    ∙ ap (λ (s : SharedContent). words_after s.opening.words (done (λ p. count_in p c.args.seat.me.0.counts) (steps_in s.opening))) c.self.view_is
