use Rattle.std.proofs.Common.{◌∷◌, [], length, map, get_or, ◌<◌, ◌∙◌, sym, subst, ap}
use Rattle.std.specs.List.{All}
use Rattle.turns.specs.Views.{first_view}
use Rattle.turns.specs.Rules.{Holds}
use Rattle.turns.specs.Tables.{opened, indexes_of, listed}
use Rattle.turns.proofs.AllWords.{listed_within}
use Rattle.turns.proofs.Closing.{opens}
use Rattle.turns.proofs.shared_words.SharedWords.lay.Goals as goal

pub gathered-requires : goal.gathered-requires
gathered-requires c =
    subst (λ is. All (λ i. i < length c.deref.result.now) is) (sym c.listed.ensures)
    (subst (λ ws. All (λ i. i < length ws) (listed c.args.indexes)) (sym c.deref.ensures.value) (listed_within (length c.args.words.items) c.args.indexes c.requires.within))

pub of_words-requires : goal.of_words-requires
of_words-requires c =
    let o = opened (record { words = c.of.result; pieces = c.args.pieces; indexes = c.of-2.result; watchers = c.of-3.result }) in
    subst (λ ws. Holds o ws (first_view o ∷ []))
    (ap (λ v. map (λ i. get_or v.items i 0) (indexes_of (length v.items) c.of-2.result.value)) c.of.ensures
    ∙ ap (λ at. map (λ i. get_or c.args.words.items i 0) (indexes_of (length c.args.words.items) at)) c.of-2.ensures
    ∙ ap (λ ws. map (λ i. get_or ws i 0) (indexes_of (length ws) c.args.indexes)) (sym c.deref-2.ensures.value) ∙ sym c.words_to_share.ensures)
    (opens o)
