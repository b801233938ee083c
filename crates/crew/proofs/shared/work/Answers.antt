use Rattle.std.proofs.Common.{rules, arith, ℕ, ⊎_elim, ◌≡◌, ◌<◌, length, ◌∙◌, ap, sym, subst}
use Rattle.std.specs.Prelude.{IsErrOf, min}
use Rattle.std.specs.List.{All, range_with_len}
use Rattle.pieces.specs.Phases.{CanBeWorked}
use Rattle.turns.specs.Closing.{numbers_of}
use Rattle.crew.specs.Hands.{IsFresh, weigh}
use Rattle.crew.specs.Worked.{IsWorked}
use Rattle.crew.specs.declared.error.CrewError.TheVariants.{NoWorker}
use Rattle.crew.proofs.Wholes.{many_new, numbers_new, new_fresh, all_there, all_worked, none_wanting, no_watchers}
use Rattle.crew.proofs.shared.work.Goals as goal

pub work_turns-requires-clause-fresh : goal.work_turns-requires-clause-fresh
work_turns-requires-clause-fresh g c =
    let s = c.in_ok-shared.shared in λ _ _. subst (All (IsFresh s)) (sym c.in_ok-shared.ensures.turns) (new_fresh s (length c.args.pieces.items))

pub work_turns-requires-clause-some : goal.work_turns-requires-clause-some
work_turns-requires-clause-some g c =
    let s = c.in_ok-shared.shared in λ _ _. subst (λ n. 0 < n) (sym (ap length c.in_ok-shared.ensures.turns ∙ many_new s (length c.args.pieces.items))) c.requires.some

pub work_turns-requires-clause-each : goal.work_turns-requires-clause-each
work_turns-requires-clause-each g c =
    let s = c.in_ok-shared.shared in λ _ _. ap length c.in_ok-shared.ensures.turns ∙ many_new s (length c.args.pieces.items) ∙ ap length (sym c.in_ok-shared.ensures.pieces)

pub unreachable-requires : goal.unreachable-requires
unreachable-requires g c =
    let s = c.in_ok-shared.shared in let ended = c.in_ok-turns.turns.items in
    let numbers = ap numbers_of c.in_ok-shared.ensures.turns ∙ numbers_new s (length c.args.pieces.items) ∙ ap (λ ps. range_with_len 0 (length ps)) (sym c.in_ok-shared.ensures.pieces) in
    ⊎_elim (none_wanting s ended (all_there s ended (λ h. c.in_ok-turns.ensures.sums h ∙ ap (weigh h) numbers))) (no_watchers s _ c.in_ok-shared.ensures.unwatched) c.in-Err.ensures.wanting

pub returns-clause-worked : goal.returns-clause-worked
returns-clause-worked g c =
    let s = c.in_ok-shared.shared in let o = s.opening in let ended = c.in_ok-turns.turns.items in let w = c.args.words.items in let ps = c.args.pieces.items in
    let words = c.in_ok-shared.ensures.words in let pieces = c.in_ok-shared.ensures.pieces in
    let numbers = ap numbers_of c.in_ok-shared.ensures.turns ∙ numbers_new s (length ps) ∙ ap (λ qs. range_with_len 0 (length qs)) (sym pieces) in
    let can : CanBeWorked o.words o.pieces = subst (λ v. CanBeWorked v o.pieces) (sym words) (subst (CanBeWorked w) (sym pieces) c.requires.can) in
    let all = all_worked s ended can c.in_ok-turns.ensures.ended (λ h. c.in_ok-turns.ensures.sums h ∙ ap (weigh h) numbers) in
    subst (λ v. IsWorked v ps c.in-Ok.words.items c.in-Ok.dones.items) words
    (subst (λ qs. IsWorked o.words qs c.in-Ok.words.items c.in-Ok.dones.items) pieces
    (subst (λ v. IsWorked o.words o.pieces v c.in-Ok.dones.items) (sym c.in-Ok.ensures.words) (subst (IsWorked o.words o.pieces _) (sym c.in-Ok.ensures.dones) all)))

both_above : (a b : ℕ) → 1 < min a b → (1 < a) × (1 < b)
both_above a b is = (omega (arith, is), omega (arith, is))

pub returns-in_err-turns-clause-no_worker : goal.returns-in_err-turns-clause-no_worker
returns-in_err-turns-clause-no_worker g c =
    λ is. let no : IsErrOf c.work_turns.result NoWorker = search (rules, is) in (both_above c.args.crew.now.workers (length c.in_ok-shared.turns.items) (c.work_turns.ensures.no_worker no)).0

pub returns-in_err-turns-clause-no_worker_for_one : goal.returns-in_err-turns-clause-no_worker_for_one
returns-in_err-turns-clause-no_worker_for_one g c =
    λ is.
    let no : IsErrOf c.work_turns.result NoWorker = search (rules, is) in
    let many : length c.in_ok-shared.turns.items ≡ length c.args.pieces.items = ap length c.in_ok-shared.ensures.turns ∙ many_new c.in_ok-shared.shared (length c.args.pieces.items) in
    subst (λ n. 1 < n) many (both_above c.args.crew.now.workers (length c.in_ok-shared.turns.items) (c.work_turns.ensures.no_worker no)).1
