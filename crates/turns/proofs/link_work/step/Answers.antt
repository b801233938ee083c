use Rattle.std.proofs.Common.{◌≡◌, ◌∷◌, [], ◌<◌, ◌∙◌, Some, get_or, refl, ap, sym, subst, arith}
use Rattle.std.specs.Option.{option_map}
use Rattle.pieces.specs.Steps.{linked}
use Rattle.space.specs.Word.{word_of, entry_of}
use Rattle.pieces.specs.Effects.{writes}
use Rattle.turns.specs.Posts.{PostContent, next_of}
use Rattle.turns.specs.Rules.{next_step}
use Rattle.turns.specs.SharedWords.{SharedContent}
use Rattle.turns.proofs.LinkSteps.{store_within, put_next}
use Rattle.turns.proofs.link_work.step.Goals as goal

pub word-source-requires : goal.word-source-requires
word-source-requires c =
    (store_within c.args.shared.now.opening c.learn_can_be_worked.ensures c.args.post.now.number c.steps-k.result c.args.link.now c.requires.piece (subst (λ n. c.steps-k.result < n) c.len.ensures.len c.if-k-len.true) c.store-store.result c.store-store.ensures).0

pub see-target-requires-clause-to_write : goal.see-target-requires-clause-to_write
see-target-requires-clause-to_write c =
    let o = c.args.shared.now.opening in
    let post = c.args.post.now in
    let store = c.store-store.result in
    let source = get_or o.words store.read 0 in
    let target = get_or o.words store.put 0 in
    let less = subst (λ n. c.steps-k.result < n) c.len.ensures.len c.if-k-len.true in
    record {
      step = c.steps-k.result;
      word = word_of (option_map (linked store.rights (entry_of target)) (entry_of source));
      later = omega (arith, c.steps-k.ensures);
      to_write =
          ap (λ (s : SharedContent). next_step s.opening ((post.number, c.steps-k.result) ∷ [])) c.requires.of
          ∙ put_next o c.learn_can_be_worked.ensures post.number c.steps-k.result c.args.link.now c.requires.piece less store c.store-store.ensures _ source target refl refl refl;
    }

pub write-requires-clause-next : goal.write-requires-clause-next
write-requires-clause-next c =
    subst (λ (p : PostContent). next_of p ≡ Some (writes c.store-store.result.put c.linked-word.result)) (sym c.see-target.ensures.same)
    (ap (λ (s : SharedContent). next_step s.opening ((c.args.post.now.number, c.args.post.now.steps) ∷ [])) c.requires.of
    ∙ ap (λ k. next_step c.args.shared.now.opening ((c.args.post.now.number, k) ∷ [])) (sym c.steps-k.ensures)
    ∙ put_next c.args.shared.now.opening c.learn_can_be_worked.ensures c.args.post.now.number c.steps-k.result c.args.link.now c.requires.piece (subst (λ n. c.steps-k.result < n) c.len.ensures.len c.if-k-len.true) c.store-store.result
    c.store-store.ensures c.linked-word.result c.word-source.result c.see-target.result c.word-source.ensures
    (c.see-target.ensures.word ∙ ap (λ (s : SharedContent). get_or s.opening.words c.store-store.result.put 0) c.requires.of) c.linked-word.ensures)
