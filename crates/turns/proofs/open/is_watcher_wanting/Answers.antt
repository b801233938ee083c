use Rattle.std.proofs.Common.{◌<◌, ◌≤◌, ⊎_elim, length, ◌∙◌, sym, subst}
use Rattle.std.proofs.lemmas.Bool.{cases_lt, lt-ltb, true≢false}
use Rattle.turns.proofs.Marks.{none_left}
use Rattle.turns.proofs.open.is_watcher_wanting.Goals as goal

pub returns-clause-no : goal.returns-clause-no
returns-clause-no c = λ off p less. none_left _ _ c.first_unmarked.result c.mark_watchers.ensures.marked c.first_unmarked.ensures.before
    (⊎_elim (λ (x : c.first_unmarked.result < length c.mark_watchers.new.flags). absurd (true≢false (sym (lt-ltb c.first_unmarked.result (length c.mark_watchers.new.flags) x) ∙ off))) (λ (x : length c.mark_watchers.new.flags ≤ c.first_unmarked.result). x) (cases_lt c.first_unmarked.result (length c.mark_watchers.new.flags)))
    p (subst (λ m. p < m) (sym c.requires.each ∙ sym c.clear.ensures.each ∙ sym c.mark_watchers.ensures.each) less)
