use Rattle.std.proofs.Common.{◌≡◌, ℕ, ◌∷◌, [], ◌<◌, ◌+◌, ◌*◌, ◌/◌, ◌∙◌, ap, sym, subst, arith}
use Rattle.turns.specs.Rules.{next_step}
use Rattle.turns.specs.SharedWords.{SharedContent}
use Rattle.turns.proofs.LinkSteps.{pair_within, take_next, then_next}
use Rattle.turns.proofs.move_work.step.Goals as goal

pub write-requires-clause-next : goal.write-requires-clause-next
write-requires-clause-next c =
    let k : ℕ = c.steps-k.result in
    let even : k ≡ 2 * (k / 2) = omega (arith, c.if-k-eq0.true) in
    ap (λ (s : SharedContent). next_step s.opening ((c.args.post.now.number, c.args.post.now.steps) ∷ [])) c.requires.of
    ∙ ap (λ k. next_step c.args.shared.now.opening ((c.args.post.now.number, k) ∷ [])) (sym c.steps-k.ensures)
    ∙ take_next c.args.shared.now.opening c.learn_can_be_worked.ensures c.args.post.now.number c.steps-k.result (c.steps-k.result / 2) c.args.pairs.now c.requires.piece
    (subst (λ n. c.steps-k.result / 2 < n) c.len.ensures.len c.if-k-len.true) c.pair-pair.result c.pair-pair.ensures even

pub word-source-requires : goal.word-source-requires
word-source-requires c =
    (pair_within c.args.shared.now.opening c.learn_can_be_worked.ensures c.args.post.now.number c.steps-k.result (c.steps-k.result / 2) c.args.pairs.now c.requires.piece
    (subst (λ n. c.steps-k.result / 2 < n) c.len.ensures.len c.if-k-len.true) c.pair-pair.result c.pair-pair.ensures).0

pub write-requires-else-k-eq0-clause-next : goal.write-requires-else-k-eq0-clause-next
write-requires-else-k-eq0-clause-next c =
    let k : ℕ = c.steps-k.result in
    let odd : k ≡ 2 * (k / 2) + 1 = omega (arith, c.if-k-eq0.false) in
    ap (λ (s : SharedContent). next_step s.opening ((c.args.post.now.number, c.args.post.now.steps) ∷ [])) c.requires.of
    ∙ ap (λ k. next_step c.args.shared.now.opening ((c.args.post.now.number, k) ∷ [])) (sym c.steps-k.ensures)
    ∙ then_next c.args.shared.now.opening c.learn_can_be_worked.ensures c.args.post.now.number c.steps-k.result (c.steps-k.result / 2) c.args.pairs.now c.requires.piece
    (subst (λ n. c.steps-k.result / 2 < n) c.len.ensures.len c.if-k-len.true) c.pair-pair.result c.pair-pair.ensures odd c.moved.result c.word-source.result c.word-source.ensures c.moved.ensures
