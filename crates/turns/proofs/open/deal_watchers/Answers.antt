use Rattle.std.proofs.Common.{◌≡◌, ◌++◌, ◌∷◌, [], ◌∙◌, ap, sym, subst, arith}
use Rattle.std.specs.List.{All}
use Rattle.turns.specs.Watching.{WatcherContent, new_watchers}
use Rattle.turns.proofs.Dealing.{watchers_more, watchers_of}
use Rattle.turns.proofs.open.deal_watchers.Goals as goal

pub loop-number-preserved : goal.loop-number-preserved
loop-number-preserved c =
    c.in_ok-push.ensures.items ∙ ap (λ ws. ws ++ c.new.result ∷ []) c.loop-number.invariant ∙ ap (λ w. new_watchers c.args.shared.now c.loop-number.number ++ w ∷ []) c.new.ensures ∙ sym (watchers_more c.args.shared.now c.loop-number.number)

pub returns-clause-of : goal.returns-clause-of
returns-clause-of c = subst (All (λ (w : WatcherContent). w.shared ≡ c.args.shared.now)) (sym (c.loop-number.invariant ∙ ap (new_watchers c.args.shared.now) (let same : c.loop-number.number ≡ c.args.count = omega (arith, c.loop-number.auto.number-end, c.loop-number-test.false) in same))) (watchers_of c.args.shared.now 0 c.args.count)
