use Rattle.std.proofs.Common.{◌≡◌, ◌≢◌, ◌⊎◌, ℕ, ◌<◌, length, refl, ap, ◌∙◌, sym, subst, arith}
use Rattle.turns.specs.SharedWords.{SharedContent, IsPhase}
use Rattle.turns.specs.Watching.{WatcherContent, HasSeen, IsMoment, entry_before, entry_after}
use Rattle.turns.proofs.Moments.{packed_at, moment_of, one_of, forward_of, seen_of, still_of}
use Rattle.turns.proofs.Seats.{shared_is}
use Rattle.turns.proofs.watcher.Watcher.look.Goals as goal
use Rattle.turns.proofs.watcher.Watcher.look.Goals.{After-frame_and_rights}

-- the phase is that of the watcher
is_shared : (c : After-frame_and_rights) → c.args.self.now.shared ≡ c.shared_words-shared.result.now
is_shared c = c.requires.of ∙ sym c.shared_words-shared.ensures

phase : (c : After-frame_and_rights) → IsPhase c.args.self.now.shared.opening
phase c = subst (λ (s : SharedContent). IsPhase s.opening) (sym (is_shared c)) c.learn_can_be_worked.ensures

within : (c : After-frame_and_rights) → c.args.index < length c.args.self.now.shared.opening.words
within c = subst (λ (s : SharedContent). c.args.index < length s.opening.words) (sym c.requires.of) c.requires.within

-- the watcher as it is now
abbrev now : After-frame_and_rights → WatcherContent
now c = record { shared = record { id = c.peek-word.new.seat.table_id; opening = c.peek-word.new.seat.me.0.opening }; number = c.self.inside.number; notes = c.peek-word.new.seat.me.0.notes }

moment : (c : After-frame_and_rights) → IsMoment c.args.self.now c.args.index c.frame_and_rights.result (now c)
moment c =
    moment_of c.args.self.now (now c) c.self.inside.seat.me.0 c.peek-word.new.seat.me.0 c.args.index c.peek-word.result c.frame_and_rights.result (ap (λ (w : WatcherContent). w.shared.opening) c.self.view_is)
    (ap (λ (w : WatcherContent). w.notes) c.self.view_is) refl (phase c) (within c) c.peek-word.ensures.looked c.frame_and_rights.ensures

same : (c : After-frame_and_rights) → (now c).shared ≡ c.args.self.now.shared
same c = shared_is _ _ _ c.peek-word.ensures.seat ∙ sym (is_shared c)

pub peek-word-requires-clause-watched : goal.peek-word-requires-clause-watched
peek-word-requires-clause-watched c =
    let n : ℕ = c.self.inside.number in let m : ℕ = c.self.inside.seat.me.0.opening.watchers in let below : n < m = c.self.invariant.below in let some : 0 < m = omega (arith, below) in
    subst (λ (s : SharedContent). 0 < s.opening.watchers) (ap (λ (w : WatcherContent). w.shared) c.self.view_is ∙ c.requires.of ∙ sym c.shared_words-shared.ensures) some

pub frame_and_rights-requires : goal.frame_and_rights-requires
frame_and_rights-requires c =
    packed_at c.shared_words-shared.result.now c.self.inside.seat.me.0 c.peek-word.new.seat.me.0 c.args.index c.peek-word.result
    (ap (λ (w : WatcherContent). w.shared.opening) c.self.view_is ∙ ap (λ (s : SharedContent). s.opening) (c.requires.of ∙ sym c.shared_words-shared.ensures)) c.learn_can_be_worked.ensures
    (subst (λ (s : SharedContent). c.args.index < length s.opening.words) (sym c.shared_words-shared.ensures) c.requires.within) c.peek-word.ensures.looked

pub returns-clause-one : goal.returns-clause-one
returns-clause-one c =
    subst (λ (s : SharedContent). (c.frame_and_rights.result ≡ entry_before s.opening c.args.index) ⊎ (c.frame_and_rights.result ≡ entry_after s.opening c.args.index)) c.requires.of
    (one_of c.args.self.now (now c) c.args.index c.frame_and_rights.result (phase c) (within c) (moment c))

pub returns-clause-forward : goal.returns-clause-forward
returns-clause-forward c =
    λ seen. forward_of c.args.self.now (now c) c.args.index c.frame_and_rights.result (moment c) seen ∙ ap (λ (s : SharedContent). entry_after s.opening c.args.index) c.requires.of

pub returns-clause-seen : goal.returns-clause-seen
returns-clause-seen c =
    subst (λ (s : SharedContent). c.frame_and_rights.result ≡ entry_after s.opening c.args.index → entry_before s.opening c.args.index ≢ entry_after s.opening c.args.index → HasSeen (now c) c.args.index) c.requires.of
    (seen_of c.args.self.now (now c) c.args.index c.frame_and_rights.result (same c) (phase c) (within c) (moment c))

pub returns-clause-still : goal.returns-clause-still
returns-clause-still c = still_of c.args.self.now (now c) (same c) (moment c).kept

pub returns-clause-moment : goal.returns-clause-moment
returns-clause-moment c = moment c
