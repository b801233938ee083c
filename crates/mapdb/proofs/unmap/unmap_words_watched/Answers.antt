-- An observer is told of each word, which leaves one word more.
use Rattle.std.proofs.Common.{◌≡◌, ◌+◌, ◌++◌, ◌∷◌, [], ◌∙◌, sym, ap, subst, get_or, take, rules}
use Rattle.fpage.specs.Fpage.{Flexpage}
use Rattle.fpage.specs.declared.rights.Rights.{Rights}
use Rattle.model.specs.Definitions.Answers.{pages_in}
use Rattle.model.specs.Definitions.Holdings.{Holdings}
use Rattle.model.specs.Definitions.Strip.{strip}
use Rattle.holdings.specs.Contents.{Contents, IsStripped}
use Rattle.holdings.specs.Layout.{Layout}
use Rattle.holdings.specs.Observing.{IsPhaseOf}
use Rattle.mapdb.specs.State.{unmap_left}
use Rattle.mapdb.specs.declared.call.UnmapWord.{UnmapWord}
use Rattle.mapdb.proofs.WordByWord.{AreWorkedUpTo, one_word, left_by_more}
use Rattle.mapdb.proofs.unmap.unmap_words_watched.Goals as goal

pub unmap_word_watched-requires-clause-told : goal.unmap_word_watched-requires-clause-told
unmap_word_watched-requires-clause-told g c κs within words pieces is =
    let old = c.args.held in
    let space = c.args.unmap.now.space in
    let flush = c.args.unmap.now.control.flush in
    let fpages = c.args.unmap.now.fpages.now in
    let i = c.loop-fpage.fpage-index in
    let word = c.fpage-item.result in
    let so_far = c.loop-fpage.invariant.now in
    let item : get_or fpages i word ≡ word = search rules in
    let now = unmap_left space flush (take i fpages) old.holdings in
    let after = unmap_left space flush (take (i + 1) fpages) old.holdings in
    let asked : UnmapWord = c.word-word.result in
    let left : strip c.loop-fpage.held.holdings (pages_in asked.space asked.fpage) asked.fpage.rights asked.flush ≡ after =
    ap (λ (w : UnmapWord). strip c.loop-fpage.held.holdings (pages_in w.space w.fpage) w.fpage.rights w.flush) c.word-word.ensures
    ∙ ap (λ (h : Holdings). strip h (pages_in space word) word.rights flush) so_far
    ∙ ap (λ (w : Flexpage). strip now (pages_in space w) w.rights flush) (sym item)
    ∙ sym (left_by_more space flush fpages i word old.holdings c.loop-fpage-test.true) in
    c.requires.told i words pieces c.loop-fpage-test.true
    (subst (λ (l : Layout). IsPhaseOf l now after words pieces) c.loop-fpage.invariant.worked.layout
    (subst (λ (h : Holdings). IsPhaseOf c.loop-fpage.held.layout h after words pieces) so_far
    (subst (λ (h : Holdings). IsPhaseOf c.loop-fpage.held.layout c.loop-fpage.held.holdings h words pieces) left is)))

pub loop-fpage-preserved : goal.loop-fpage-preserved
loop-fpage-preserved g c =
    let old = c.args.held in
    let space = c.args.unmap.now.space in
    let flush = c.args.unmap.now.control.flush in
    let fpages = c.args.unmap.now.fpages.now in
    let i = c.loop-fpage.fpage-index in
    let word = c.fpage-item.result in
    let so_far = c.loop-fpage.invariant.now in
    let item : get_or fpages i word ≡ word = search rules in
    let pushed : c.push.new.self.items ≡ c.loop-fpage.status.items ++ c.in_ok-left.told ∷ [] = search rules in
    let one : Contents × Rights = (c.in_ok-left.left, c.in_ok-left.told) in
    let stripped = subst (λ (w : UnmapWord). IsStripped c.loop-fpage.held (pages_in w.space w.fpage) w.fpage.rights w.flush one) c.word-word.ensures c.in_ok-left.ensures in
    record {
      worked = subst (AreWorkedUpTo old space flush fpages (i + 1) c.in_ok-left.left) (sym pushed)
          (one_word old space flush fpages i word c.loop-fpage-test.true c.loop-fpage.held c.loop-fpage.status.items c.loop-fpage.invariant.worked one
          (subst (λ (w : Flexpage). IsStripped c.loop-fpage.held (pages_in space w) w.rights flush one) (sym item) stripped));
      now = ap (λ (k : Contents). k.holdings) stripped.left
          ∙ ap (λ (h : Holdings). strip h (pages_in space word) word.rights flush) so_far
          ∙ ap (λ (w : Flexpage). strip (unmap_left space flush (take i fpages) old.holdings) (pages_in space w) w.rights flush) (sym item)
          ∙ sym (left_by_more space flush fpages i word old.holdings c.loop-fpage-test.true);
    }
