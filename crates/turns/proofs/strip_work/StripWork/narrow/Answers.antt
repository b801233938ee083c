use Rattle.std.proofs.Common.{◌≡◌, ◌+◌, ◌<◌, ◌∷◌, [], arith, length, take, set, get_or, slice_index, min, ◌∙◌, ap, sym, subst}
use Rattle.std.proofs.lemmas.List.{length-set, get_or_default}
use Rattle.pieces.specs.Steps.{status_in}
use Rattle.pieces.proofs.Keeping.{IsFront}
use Rattle.turns.specs.Rules.{next_step}
use Rattle.turns.specs.SharedWords.{SharedContent}
use Rattle.turns.specs.Works.{IsStripWork}
use Rattle.space.proofs.Lists.{blank, read_any}
use Rattle.turns.proofs.StripSteps.{narrow_next, status_more, node_kept, node_gone}
use Rattle.turns.proofs.strip_work.StripWork.narrow.Goals as goal

pub write-found-requires-clause-next : goal.write-found-requires-clause-next
write-found-requires-clause-next c =
    let work = subst (IsStripWork c.args.shared.now.opening.words c.args.self.now) c.requires.next c.requires.work in
    let index = c.index-index.ensures ∙ get_or_default c.args.self.now.indexes.items c.args.k c.index-index.result.now 0 (omega (arith, c.requires.within, ap length work.indexes, work.strip.indexes)) in
    let word = c.requires.word ∙ ap (slice_index c.args.shared.now.opening.words) (sym index) in
    ap (λ (s : SharedContent). next_step s.opening ((c.args.post.now.number, c.args.post.now.steps) ∷ [])) c.requires.of
    ∙ ap (λ k. next_step c.args.shared.now.opening ((c.args.post.now.number, k) ∷ [])) c.requires.next
    ∙ narrow_next c.args.shared.now.opening c.learn_can_be_worked.ensures c.args.post.now.number c.args.k c.args.self.now c.requires.piece work c.requires.within c.index-index.result.now c.narrowed.result c.args.word
    c.get-mask.result c.index-index.ensures c.get-mask.ensures word c.narrowed.ensures

pub returns-then-remains-clause-work : goal.returns-then-remains-clause-work
returns-then-remains-clause-work c =
    let o = c.args.shared.now.opening in
    let n = c.args.post.now.number in
    let work = subst (IsStripWork o.words c.args.self.now) c.requires.next c.requires.work in
    let found = c.write-found.ensures.alone ∙ ap (λ (s : SharedContent). get_or s.opening.words c.index-index.result.now 0) c.requires.of in
    let old = c.args.self.now.slice.nodes.items in
    let moved : c.move_node.new.nodes.items ≡ set old c.args.self.now.kept (get_or old c.args.k blank) = c.move_node.ensures blank in
    let within : c.args.k < length old = omega (arith, work.many, c.requires.within) in
    record {
      strip = work.strip;
      masks = work.masks;
      indexes = work.indexes;
      fold = work.fold;
      many = ap length moved ∙ length-set old c.args.self.now.kept (get_or old c.args.k blank) ∙ work.many;
      front =
          subst (λ k. IsFront o.words c.args.self.now.of.value.nodes c.args.self.now.of.value.indexes c.args.self.now.of.value.masks (min (k + 1) (length c.args.self.now.of.value.nodes)) (c.args.self.now.kept + 1) c.move_node.new.nodes.items) (sym c.requires.next)
          (subst (IsFront o.words c.args.self.now.of.value.nodes c.args.self.now.of.value.indexes c.args.self.now.of.value.masks (min (c.args.k + 1) (length c.args.self.now.of.value.nodes)) (c.args.self.now.kept + 1)) (sym moved)
          (node_kept o c.learn_can_be_worked.ensures n c.args.k c.args.self.now c.requires.piece work c.requires.within c.index-index.result.now c.write-found.result c.get-mask.result c.remains.result (get_or old c.args.k blank)
          c.index-index.ensures found c.get-mask.ensures c.remains.ensures c.if-remains.true (read_any old c.args.k blank (get_or old c.args.k blank) within)));
      status =
          subst (λ k. c.join-self.result ≡ status_in o.words (take (k + 1) c.args.self.now.of.value.indexes)) (sym c.requires.next)
          (status_more o c.learn_can_be_worked.ensures n c.args.k c.args.self.now c.requires.piece work c.requires.within c.index-index.result.now c.write-found.result c.join-self.result c.status.result c.index-index.ensures found
          c.status.ensures c.join-self.ensures);
    }

pub returns-else-remains-clause-work : goal.returns-else-remains-clause-work
returns-else-remains-clause-work c =
    let o = c.args.shared.now.opening in
    let n = c.args.post.now.number in
    let work = subst (IsStripWork o.words c.args.self.now) c.requires.next c.requires.work in
    let found = c.write-found.ensures.alone ∙ ap (λ (s : SharedContent). get_or s.opening.words c.index-index.result.now 0) c.requires.of in
    record {
      strip = work.strip;
      masks = work.masks;
      indexes = work.indexes;
      fold = work.fold;
      many = work.many;
      front =
          subst (λ k. IsFront o.words c.args.self.now.of.value.nodes c.args.self.now.of.value.indexes c.args.self.now.of.value.masks (min (k + 1) (length c.args.self.now.of.value.nodes)) c.args.self.now.kept c.args.self.now.slice.nodes.items) (sym c.requires.next)
          (node_gone o c.learn_can_be_worked.ensures n c.args.k c.args.self.now c.requires.piece work c.requires.within c.index-index.result.now c.write-found.result c.get-mask.result c.remains.result
          c.index-index.ensures found c.get-mask.ensures c.remains.ensures c.if-remains.false);
      status =
          subst (λ k. c.join-self.result ≡ status_in o.words (take (k + 1) c.args.self.now.of.value.indexes)) (sym c.requires.next)
          (status_more o c.learn_can_be_worked.ensures n c.args.k c.args.self.now c.requires.piece work c.requires.within c.index-index.result.now c.write-found.result c.join-self.result c.status.result c.index-index.ensures found
          c.status.ensures c.join-self.ensures);
    }
