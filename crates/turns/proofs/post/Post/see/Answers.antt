use Rattle.std.proofs.Common.{◌≡◌, false, ◌∷◌, [], sym, subst}
use Rattle.pieces.specs.Distinct.{is_none_of}
use Rattle.pieces.specs.Effects.{writes}
use Rattle.turns.specs.Posts.{PostContent, IsFound}
use Rattle.turns.specs.Rules.{IsOpening}
use Rattle.turns.specs.SharedWords.{SharedContent}
use Rattle.turns.proofs.Finds.{alone, as_seen}
use Rattle.turns.proofs.post.Post.see.Goals as goal

pub see-requires-clause-shared : goal.see-requires-clause-shared
see-requires-clause-shared c =
    subst (λ (s : SharedContent). is_none_of s.opening.indexes c.args.index ≡ false) c.requires.of
    ((subst (λ (s : SharedContent). IsOpening s.opening) (sym c.requires.of) c.learn_can_be_worked.ensures.opening).covers ((c.args.self.now.number, c.requires.to_write.step) ∷ []) (writes c.args.index c.requires.to_write.word) c.requires.to_write.to_write)

pub returns-clause-word : goal.returns-clause-word
returns-clause-word c =
    alone c.args.self.now c.args.index c.see.result (subst (λ (s : SharedContent). IsOpening s.opening) (sym c.requires.of) c.learn_can_be_worked.ensures.opening) c.requires.to_write
    (subst (λ (p : PostContent). IsFound p c.args.index c.see.result) c.self.view_is (as_seen _ _ _ c.self.invariant c.args.index c.see.result c.see.ensures.seen))
