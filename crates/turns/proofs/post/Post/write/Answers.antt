use Rattle.std.proofs.Common.{sym, subst, arith}
use Rattle.turns.specs.Posts.{PostContent, IsFound}
use Rattle.turns.specs.Rules.{IsOpening}
use Rattle.turns.specs.SharedWords.{SharedContent}
use Rattle.turns.proofs.Finds.{alone, as_found}
use Rattle.turns.proofs.post.Post.write.Goals as goal

pub returns-clause-alone : goal.returns-clause-alone
returns-clause-alone c =
    alone c.args.self.now c.args.index c.write-found.result (subst (λ (s : SharedContent). IsOpening s.opening) (sym c.requires.of) c.learn_can_be_worked.ensures.opening)
    (record { step = c.args.self.now.steps; word = c.args.word; later = omega arith; to_write = c.requires.next })
    (subst (λ (p : PostContent). IsFound p c.args.index c.write-found.result) c.self.view_is (as_found _ _ _ c.self.invariant c.args.index c.write-found.result _ c.write-found.ensures.made))
