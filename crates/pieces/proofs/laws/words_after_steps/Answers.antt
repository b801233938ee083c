-- Of any words and pieces.
use Rattle.std.proofs.Common.{◌∙◌, sym, ap, get_or, zero-add}
use Rattle.pieces.specs.Effects.{word_after, words_after}
use Rattle.pieces.proofs.AllSteps.{length_words, word_at, nothing_done, all_steps, worked_all}
use Rattle.pieces.proofs.laws.words_after_steps.Goals as goal

pub returns-clause-words_are_as_many : goal.returns-clause-words_are_as_many
returns-clause-words_are_as_many c = length_words 0

pub returns-clause-each_word_after : goal.returns-clause-each_word_after
returns-clause-each_word_after c = λ w es i within. word_at 0 w es i within ∙ ap (λ k. word_after (get_or w i 0) k es) (zero-add i)

pub returns-clause-nothing_done : goal.returns-clause-nothing_done
returns-clause-nothing_done c = nothing_done

pub returns-clause-worked_is_all_steps : goal.returns-clause-worked_is_all_steps
returns-clause-worked_is_all_steps c = worked_all

pub returns-clause-full_counts_are_worked : goal.returns-clause-full_counts_are_worked
returns-clause-full_counts_are_worked c = λ w ps counts full. ap (words_after w) (all_steps w 0 ps counts (λ p less. rw zero-add (full p less))) ∙ sym (worked_all w ps)
