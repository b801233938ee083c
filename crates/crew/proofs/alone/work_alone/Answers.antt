-- All turns are there, and each has ended.
use Rattle.std.proofs.Common.{⊎_elim, length, ◌∙◌, ap, sym, subst}
use Rattle.std.specs.List.{All, range_with_len}
use Rattle.pieces.specs.Phases.{CanBeWorked}
use Rattle.turns.specs.Closing.{numbers_of}
use Rattle.crew.specs.Hands.{IsFresh, weigh}
use Rattle.crew.specs.Worked.{IsWorked}
use Rattle.crew.proofs.Wholes.{numbers_new, new_fresh, all_there, all_worked, none_wanting, no_watchers}
use Rattle.crew.proofs.alone.work_alone.Goals as goal

pub step_all-requires : goal.step_all-requires
step_all-requires c =
    let s = c.in_ok-shared.shared in record { fresh = subst (All (IsFresh s)) (sym c.in_ok-shared.ensures.turns) (new_fresh s (length c.args.pieces.items)) }

pub unreachable-requires : goal.unreachable-requires
unreachable-requires c =
    let s = c.in_ok-shared.shared in let ended = c.in_ok-turns.turns.items in
    let numbers = c.in_ok-turns.ensures.numbers ∙ ap numbers_of c.in_ok-shared.ensures.turns ∙ numbers_new s (length c.args.pieces.items) ∙ ap (λ ps. range_with_len 0 (length ps)) (sym c.in_ok-shared.ensures.pieces) in
    ⊎_elim (none_wanting s ended (all_there s ended (λ h. ap (weigh h) numbers))) (no_watchers s _ c.in_ok-shared.ensures.unwatched) c.in-Err.ensures.wanting

pub returns-clause-worked : goal.returns-clause-worked
returns-clause-worked c =
    let s = c.in_ok-shared.shared in let o = s.opening in let ended = c.in_ok-turns.turns.items in let w = c.args.words.items in let ps = c.args.pieces.items in
    let words = c.in_ok-shared.ensures.words in let pieces = c.in_ok-shared.ensures.pieces in
    let numbers = c.in_ok-turns.ensures.numbers ∙ ap numbers_of c.in_ok-shared.ensures.turns ∙ numbers_new s (length ps) ∙ ap (λ qs. range_with_len 0 (length qs)) (sym pieces) in
    let can : CanBeWorked o.words o.pieces = subst (λ v. CanBeWorked v o.pieces) (sym words) (subst (CanBeWorked w) (sym pieces) c.requires.can) in
    let all = all_worked s ended can c.in_ok-turns.ensures.ended (λ h. ap (weigh h) numbers) in
    subst (λ v. IsWorked v ps c.in-Ok.words.items c.in-Ok.dones.items) words
    (subst (λ qs. IsWorked o.words qs c.in-Ok.words.items c.in-Ok.dones.items) pieces
    (subst (λ v. IsWorked o.words o.pieces v c.in-Ok.dones.items) (sym c.in-Ok.ensures.words) (subst (IsWorked o.words o.pieces _) (sym c.in-Ok.ensures.dones) all)))
