-- The word of a node that was not narrowed yet.
use Rattle.std.proofs.Common.{◌∷◌, [], ◌∙◌, length, get_or, ap, sym, subst, arith}
use Rattle.std.proofs.lemmas.List.{get_or_default}
use Rattle.fpage.specs.Rights.{no_rights}
use Rattle.pieces.specs.Steps.{entry_in, narrowed_by}
use Rattle.space.specs.Word.{word_of}
use Rattle.turns.specs.Posts.{PostContent, IsToWrite}
use Rattle.turns.specs.Rules.{next_step}
use Rattle.turns.specs.SharedWords.{SharedContent}
use Rattle.turns.proofs.StripSteps.{node_written}
use Rattle.turns.proofs.strip_work.StripWork.find_words.Goals as goal

pub see-requires-clause-to_write : goal.see-requires-clause-to_write
see-requires-clause-to_write c =
    let o = c.args.shared.now.opening in
    let job = c.args.self.now in
    let post = c.args.post.now in
    let k = c.loop-k.k in
    let index = c.index.result.now in
    let many = ap length c.requires.work.indexes ∙ c.requires.work.strip.indexes in
    let at = c.index.ensures ∙ get_or_default job.indexes.items k index 0 (omega (arith, c.loop-k-test.true, c.requires.within)) in
    let least = c.loop-k.auto.k in
    subst (λ (p : PostContent). IsToWrite p index) (sym c.loop-k.invariant.post)
    (record {
      step = k;
      word = word_of (narrowed_by (get_or job.of.value.masks k no_rights) (entry_in o.words index));
      later = omega (arith, c.requires.to_come, least);
      to_write =
          ap (λ (s : SharedContent). next_step s.opening ((post.number, k) ∷ [])) c.requires.of
          ∙ node_written o post.number k post.steps job c.requires.piece c.requires.work (omega (arith, c.loop-k-test.true, c.requires.within, many)) index at;
    })
