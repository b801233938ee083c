-- One word more.
use Rattle.std.proofs.Common.{◌≡◌, ◌+◌, ◌++◌, ◌∷◌, [], sym, subst, get_or, rules}
use Rattle.fpage.specs.Fpage.{Flexpage}
use Rattle.fpage.specs.declared.rights.Rights.{Rights}
use Rattle.model.specs.Definitions.Answers.{pages_in}
use Rattle.holdings.specs.Contents.{Contents, IsStripped}
use Rattle.holdings.proofs.NotedPages.{follow_both}
use Rattle.mapdb.specs.declared.call.UnmapWord.{UnmapWord}
use Rattle.mapdb.proofs.WordByWord.{AreWorkedUpTo, one_word}
use Rattle.mapdb.proofs.unmap.unmap_words.Goals as goal

pub loop-fpage-preserved : goal.loop-fpage-preserved
loop-fpage-preserved g c =
    let old = c.args.held in
    let space = c.args.unmap.now.space in
    let flush = c.args.unmap.now.control.flush in
    let fpages = c.args.unmap.now.fpages.now in
    let i = c.loop-fpage.fpage-index in
    let word = c.fpage-item.result in
    let item : get_or fpages i word ≡ word = search rules in
    let pushed : c.push.new.self.items ≡ c.loop-fpage.status.items ++ c.in_ok-left.told ∷ [] = search rules in
    let one : Contents × Rights = (c.in_ok-left.left, c.in_ok-left.told) in
    let stripped = subst (λ (w : UnmapWord). IsStripped c.loop-fpage.held (pages_in w.space w.fpage) w.fpage.rights w.flush one) c.word-word.ensures c.in_ok-left.ensures.stripped in
    record {
      worked = subst (AreWorkedUpTo old space flush fpages (i + 1) c.in_ok-left.left) (sym pushed)
          (one_word old space flush fpages i word c.loop-fpage-test.true c.loop-fpage.held c.loop-fpage.status.items c.loop-fpage.invariant.worked one
          (subst (λ (w : Flexpage). IsStripped c.loop-fpage.held (pages_in space w) w.rights flush one) (sym item) stripped));
      noted = follow_both old.holdings c.loop-fpage.held.holdings c.in_ok-left.left.holdings c.args.notes.now c.loop-fpage.notes c.unmap_word.new.notes c.loop-fpage.invariant.noted
          c.in_ok-left.ensures.noted;
    }
