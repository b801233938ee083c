use Rattle.std.proofs.Common.{◌≡◌, ◌++◌, ◌∷◌, [], Some, map, ap, ◌∙◌, sym}
use Rattle.std.specs.Prelude.{slice_get}
use Rattle.std.proofs.lemmas.List.{map-append}
use Rattle.crossbeam_deque.specs.Handles.{stealer_deque}
use Rattle.crew.specs.Crews.{OwnDequeContent, deques_of}
use Rattle.crew.proofs.Numbered.{take_next}
use Rattle.crew.proofs.shared_state.stealers_of.Goals as goal

pub loop-own-preserved : goal.loop-own-preserved
loop-own-preserved g c =
    let own = c.own-item.result in let k = c.loop-own.own-index in let made = c.in_ok-stealer.field-0 in let deques = deques_of g.M.Crewed.crew in
    let number : own.number ≡ k = ap (λ (o : OwnDequeContent). o.number) c.own-item.is ∙ c.requires.numbers k own c.loop-own-test.true in
    let at : slice_get deques k ≡ Some (stealer_deque made) = ap (slice_get deques) (sym number) ∙ c.in_ok-stealer.ensures in
    ap (map stealer_deque) c.in_ok-push.ensures.items ∙ map-append stealer_deque c.loop-own.stealers.items (made ∷ []) ∙ ap (λ ds. ds ++ stealer_deque made ∷ []) c.loop-own.invariant ∙ sym (take_next deques k (stealer_deque made) at)
