-- One plan more.
use Rattle.std.proofs.Common.{◌≡◌, ◌∙◌, ◌++◌, ◌∷◌, [], ap, sym, true, is_ok}
use Rattle.std.proofs.lemmas.List.Elements.{All-push}
use Rattle.holdings.specs.Inner.Phases.{all_pieces}
use Rattle.holdings.proofs.Phases.Batches.{one_plan_more}
use Rattle.holdings.proofs.plans.all_pieces.Goals as goal

pub loop-part-preserved : goal.loop-part-preserved
loop-part-preserved c =
    let rs = c.loop-part.yielded in
    let part = c.in-Some.part in
    let plan = c.in_ok-plan.plan in
    record {
      made = All-push (λ r. is_ok r ≡ true) rs part c.loop-part.invariant.made (ap is_ok c.in_ok-plan.was);
      pieces =
          c.in_ok-append.ensures.items ∙ ap (λ ps. ps ++ plan.pieces.items) c.loop-part.invariant.pieces ∙ sym (one_plan_more rs plan)
          ∙ ap (λ r. all_pieces (rs ++ r ∷ [])) (sym c.in_ok-plan.was);
    }
