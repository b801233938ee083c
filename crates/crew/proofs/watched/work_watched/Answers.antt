use Rattle.std.proofs.Common.{◌≡◌, ◌<◌, length, ◌∷◌, [], ◌++◌, ⊎_elim, arith, ◌∙◌, ap, sym, subst}
use Rattle.std.specs.List.{All, range_with_len}
use Rattle.std.specs.Option.{option_to_list}
use Rattle.std.proofs.lemmas.List.Elements.{All-cons}
use Rattle.turns.specs.Watching.{WatcherContent}
use Rattle.pieces.specs.Phases.{CanBeWorked}
use Rattle.turns.specs.Closing.{numbers_of, OneWatcherIsWanting}
use Rattle.crew.specs.Hands.{IsFresh, weigh}
use Rattle.crew.specs.Worked.{IsWorked}
use Rattle.crew.proofs.Wholes.{many_new, numbers_new, new_fresh, all_there, all_worked, none_wanting, only_watcher, only_one}
use Rattle.crew.proofs.watched.work_watched.Goals as goal

pub work_turns_watched-requires-clause-fresh : goal.work_turns_watched-requires-clause-fresh
work_turns_watched-requires-clause-fresh g c =
    let s = c.in_ok-shared.shared in λ _ _. subst (All (IsFresh s)) (sym c.in_ok-shared.ensures.turns) (new_fresh s (length c.args.pieces.items))

pub work_turns_watched-requires-clause-some : goal.work_turns_watched-requires-clause-some
work_turns_watched-requires-clause-some g c =
    let s = c.in_ok-shared.shared in λ _ _. subst (λ n. 0 < n) (sym (ap length c.in_ok-shared.ensures.turns ∙ many_new s (length c.args.pieces.items))) c.requires.some

pub work_turns_watched-requires-clause-each : goal.work_turns_watched-requires-clause-each
work_turns_watched-requires-clause-each g c =
    let s = c.in_ok-shared.shared in λ _ _. ap length c.in_ok-shared.ensures.turns ∙ many_new s (length c.args.pieces.items) ∙ ap length (sym c.in_ok-shared.ensures.pieces)

pub close-requires-clause-watchers : goal.close-requires-clause-watchers
close-requires-clause-watchers g c =
    let s = c.in_ok-shared.shared in
    let first : WatcherContent = record { shared = s; number = 0; notes = [] } in
    let only = only_one c.in_ok-shared.watchers.items c.pop.new.self.items first c.in-Some.watcher c.in_ok-shared.ensures.watchers (c.pop.ensures.items ∙ ap (λ x. c.pop.new.self.items ++ option_to_list x) c.in-Some.is) in
    let pushed = c.push_reserved.ensures.items ∙ ap (λ ws. ws ++ c.in_ok-turns.watcher ∷ []) only.none in
    subst (All (λ (w : WatcherContent). w.shared ≡ s)) (sym pushed) (All-cons (λ (w : WatcherContent). w.shared ≡ s) c.in_ok-turns.watcher [] (c.in_ok-turns.ensures.watcher.0 ∙ ap (λ (w : WatcherContent). w.shared) only.same) (λ k d less. absurd (omega (arith, less))))

pub unreachable-requires-in-Err : goal.unreachable-requires-in-Err
unreachable-requires-in-Err g c =
    let s = c.in_ok-shared.shared in let ended = c.in_ok-turns.turns.items in
    let first : WatcherContent = record { shared = s; number = 0; notes = [] } in
    let only = only_one c.in_ok-shared.watchers.items c.pop.new.self.items first c.in-Some.watcher c.in_ok-shared.ensures.watchers (c.pop.ensures.items ∙ ap (λ x. c.pop.new.self.items ++ option_to_list x) c.in-Some.is) in
    let numbers = ap numbers_of c.in_ok-shared.ensures.turns ∙ numbers_new s (length c.args.pieces.items) ∙ ap (λ ps. range_with_len 0 (length ps)) (sym c.in_ok-shared.ensures.pieces) in
    ⊎_elim (none_wanting s ended (all_there s ended (λ h. c.in_ok-turns.ensures.sums h ∙ ap (weigh h) numbers)))
    (λ x. only_watcher s c.in_ok-turns.watcher c.in_ok-shared.ensures.watched (c.in_ok-turns.ensures.watcher.1 ∙ ap (λ (w : WatcherContent). w.number) only.same)
    (subst (OneWatcherIsWanting s) (c.push_reserved.ensures.items ∙ ap (λ ws. ws ++ c.in_ok-turns.watcher ∷ []) only.none) x)) c.in-Err.ensures.wanting

pub returns : goal.returns
returns g c =
    let s = c.in_ok-shared.shared in let o = s.opening in let ended = c.in_ok-turns.turns.items in let w = c.args.words.items in let ps = c.args.pieces.items in
    let words = c.in_ok-shared.ensures.words in let pieces = c.in_ok-shared.ensures.pieces in
    let numbers = ap numbers_of c.in_ok-shared.ensures.turns ∙ numbers_new s (length ps) ∙ ap (λ qs. range_with_len 0 (length qs)) (sym pieces) in
    let can : CanBeWorked o.words o.pieces = subst (λ v. CanBeWorked v o.pieces) (sym words) (subst (CanBeWorked w) (sym pieces) c.requires.can) in
    let all = all_worked s ended can c.in_ok-turns.ensures.ended (λ h. c.in_ok-turns.ensures.sums h ∙ ap (weigh h) numbers) in
    subst (λ v. IsWorked v ps c.in-Ok.words.items c.in-Ok.dones.items) words
    (subst (λ qs. IsWorked o.words qs c.in-Ok.words.items c.in-Ok.dones.items) pieces
    (subst (λ v. IsWorked o.words o.pieces v c.in-Ok.dones.items) (sym c.in-Ok.ensures.words) (subst (IsWorked o.words o.pieces _) (sym c.in-Ok.ensures.dones) all)))

pub work_turns_watched-requires-clause-told : goal.work_turns_watched-requires-clause-told
work_turns_watched-requires-clause-told g c κs within =
    let s = c.in_ok-shared.shared in
    subst (λ w. g.O.Observe.told c.args.observer.now w s.opening.pieces) (sym c.in_ok-shared.ensures.words) (subst (λ ps. g.O.Observe.told c.args.observer.now c.args.words.items ps) (sym c.in_ok-shared.ensures.pieces) c.requires.told)
