use Rattle.std.proofs.Common.{length, ◌∙◌, ap, sym, subst, zero-add}
use Rattle.crew.specs.Crews.{AreNumbered}
use Rattle.crew.proofs.Dealings.{owns_length, owns_each}
use Rattle.crew.specs.Hands.{all_parts}
use Rattle.crew.proofs.shared.work_deques.Goals as goal

pub new-requires-clause-each : goal.new-requires-clause-each
new-requires-clause-each g c = λ _ _. ap length (c.deref.ensures.value ∙ c.in_ok-owns.ensures) ∙ owns_length all_parts 0 g.M.Crewed.crew

pub new-requires-clause-numbers : goal.new-requires-clause-numbers
new-requires-clause-numbers g c =
    let crew = g.M.Crewed.crew in let is = c.deref.ensures.value ∙ c.in_ok-owns.ensures in
    λ _ _. subst AreNumbered (sym is) (λ k d less. (owns_each all_parts 0 crew k d less).0 ∙ zero-add k)
