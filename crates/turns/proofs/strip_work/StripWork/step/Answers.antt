use Rattle.std.proofs.Common.{◌≡◌, ℕ, length, get_or, ◌∷◌, [], ◌<◌, ◌≤◌, ◌∙◌, ap, sym, subst, arith}
use Rattle.turns.specs.Rules.{next_step}
use Rattle.turns.specs.SharedWords.{SharedContent}
use Rattle.pieces.proofs.Placed.{not_some}
use Rattle.std.proofs.lemmas.List.{get_or_default}
use Rattle.fpage.specs.Rights.{no_rights}
use Rattle.pieces.specs.Steps.{entry_in, narrowed_by}
use Rattle.space.specs.Word.{word_of}
use Rattle.turns.proofs.StripSteps.{is_last, node_written, fold_next}
use Rattle.turns.proofs.strip_work.StripWork.step.Goals as goal

pub see-word-requires-clause-to_write : goal.see-word-requires-clause-to_write
see-word-requires-clause-to_write c =
    let o = c.args.shared.now.opening in
    let job = c.args.self.now in
    let post = c.args.post.now in
    let index = c.index.result.now in
    let k_is = c.steps-k.ensures in
    let many = ap length c.requires.work.indexes ∙ c.requires.work.strip.indexes in
    let inside : post.steps < length job.indexes.items = omega (arith, k_is, c.len.ensures, job.indexes.ok.0, c.if-k-len.true) in
    let at = c.index.ensures ∙ ap (λ k. get_or job.indexes.items k index) k_is ∙ get_or_default job.indexes.items post.steps index 0 inside in
    record {
      step = post.steps;
      word = word_of (narrowed_by (get_or job.of.value.masks post.steps no_rights) (entry_in o.words index));
      later = omega arith;
      to_write =
          ap (λ (s : SharedContent). next_step s.opening ((post.number, post.steps) ∷ [])) c.requires.of
          ∙ node_written o post.number post.steps post.steps job c.requires.piece c.requires.work (omega (arith, inside, many)) index at;
    }

pub add-requires-clause-next : goal.add-requires-clause-next
add-requires-clause-next c =
    let o = c.args.shared.now.opening in
    let last = is_last o.words c.args.self.now c.args.post.now.steps c.len.result c.requires.work c.requires.left (c.len.ensures ∙ c.args.self.now.indexes.ok.0) (subst (λ k. c.len.result ≤ k) c.steps-k.ensures c.if-k-len.false) in
    ap (λ (s : SharedContent). next_step s.opening ((c.args.post.now.number, c.args.post.now.steps) ∷ [])) c.requires.of
    ∙ fold_next o c.args.post.now.number c.args.post.now.steps c.args.self.now c.requires.piece c.requires.work last.last c.in-Some.index c.bits-found.result c.in-Some.is c.bits-found.ensures

pub add-requires-clause-fits : goal.add-requires-clause-fits
add-requires-clause-fits c =
    let last = is_last c.args.shared.now.opening.words c.args.self.now c.args.post.now.steps c.len.result c.requires.work c.requires.left (c.len.ensures ∙ c.args.self.now.indexes.ok.0) (subst (λ k. c.len.result ≤ k) c.steps-k.ensures c.if-k-len.false) in
    let k : ℕ = c.args.post.now.steps in
    let m : ℕ = length c.args.self.now.of.value.indexes in
    let n : ℕ = length c.args.self.now.indexes.items in
    let k_is : k ≡ m = last.last in
    let n_is : n ≡ m = ap length c.requires.work.indexes in
    let len_is : c.args.self.now.indexes.len ≡ n = c.args.self.now.indexes.ok.0 in
    omega (arith, k_is, n_is, len_is, c.args.self.now.indexes.ok.1, c.args.self.now.indexes.small)

pub returns-in_default-clause-post : goal.returns-in_default-clause-post
returns-in_default-clause-post c =
    let last = is_last c.args.shared.now.opening.words c.args.self.now c.args.post.now.steps c.len.result c.requires.work c.requires.left (c.len.ensures ∙ c.args.self.now.indexes.ok.0) (subst (λ k. c.len.result ≤ k) c.steps-k.ensures c.if-k-len.false) in
    absurd (last.some (sym c.requires.work.fold ∙ not_some _ c.in_default.not-Some))
