-- Of any words and pieces.
use Rattle.std.proofs.Common.{sym, subst}
use Rattle.std.specs.List.{flat_map, AllPass}
use Rattle.space.specs.Word.{is_pack}
use Rattle.pieces.specs.Phases.{changes}
use Rattle.pieces.specs.Steps.{effects}
use Rattle.pieces.proofs.AllSteps.{worked_all}
use Rattle.pieces.proofs.InTurn.{steps_in_turn}
use Rattle.pieces.proofs.Packs.{packs_after_steps, pieces_suit}
use Rattle.pieces.proofs.OneByOne.{one_after_another, others_can, others_find_the_same, all_held_apart, changes_apart, folds_of_others_apart}
use Rattle.pieces.proofs.laws.pieces_in_turn.Goals as goal

pub returns-clause-steps_one_after_another : goal.returns-clause-steps_one_after_another
returns-clause-steps_one_after_another c = steps_in_turn 0

pub returns-clause-worked_are_packs : goal.returns-clause-worked_are_packs
returns-clause-worked_are_packs c = λ w ps each can. subst (AllPass is_pack) (sym (worked_all w ps)) (packs_after_steps w (flat_map (effects w) ps) can.packs (pieces_suit w ps can.entries))

pub returns-clause-held_are_spared : goal.returns-clause-held_are_spared
returns-clause-held_are_spared c = λ w ps qs can no. all_held_apart (flat_map changes ps) qs no (changes_apart w ps qs can) (folds_of_others_apart w ps qs can)

pub returns-clause-worked_one_after_another : goal.returns-clause-worked_one_after_another
returns-clause-worked_one_after_another c = one_after_another

pub returns-clause-others_can_be_worked : goal.returns-clause-others_can_be_worked
returns-clause-others_can_be_worked c = others_can

pub returns-clause-others_find_the_same : goal.returns-clause-others_find_the_same
returns-clause-others_find_the_same c = others_find_the_same
