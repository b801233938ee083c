-- Turns, as contracts see them.
use Rattle.std.specs.Prelude.{◌≡◌, ℕ, ◌≤◌, ◌==◌, List, [], map, Some, slice_get, if◌then◌else◌}
use Rattle.std.specs.Option.{option_map_or, option_map, option_to_list}
use Rattle.pieces.specs.Dones.{DoneContent}
use Rattle.pieces.specs.Values.{value}
use Rattle.std.specs.List.{range_with_len}
use Rattle.pieces.specs.declared.piece.Piece.{Piece}
use Rattle.turns.specs.Posts.{PostContent}
use Rattle.turns.specs.SharedWords.{SharedContent}
use Rattle.turns.specs.Works.{IsWork, step_count}
use Rattle.turns.specs.declared.work.Work.{Work}
use Rattle.turns.specs.declared.turn.Progress.{Progress}
use Rattle.turns.specs.declared.turn.Progress.TheVariants.{More, Ended}

-- a turn has one piece of its phase, of which so many steps were done
pub record IsTurn (t : PostContent) (job : Work) (of : Piece) : Type 0 where
  pub piece : slice_get t.shared.opening.pieces t.number ≡ Some of
  pub work : IsWork t.shared.opening.words of job t.steps
  pub few : t.steps ≤ step_count t.shared.opening.words of

-- how many steps its piece has
abbrev pub steps_to_do : PostContent → ℕ
steps_to_do t = option_map_or (step_count t.shared.opening.words) (slice_get t.shared.opening.pieces t.number) 0

-- whether it has steps left
abbrev pub progress_of : PostContent → Progress
progress_of t = if t.steps == steps_to_do t then Ended else More

-- a turn for each of so many pieces, with no step done
abbrev pub new_turns : SharedContent → ℕ → List PostContent
new_turns s n = map (λ p. record { shared = s; number = p; steps = 0 }) (range_with_len 0 n)

-- what a turn hands in whose piece has no step left: the piece's value
abbrev pub done_of : PostContent → List DoneContent
done_of t =
    if t.steps == steps_to_do t then option_to_list (option_map (λ p. record { number = t.number; found = value t.shared.opening.words p; of = p; words = t.shared.opening.words }) (slice_get t.shared.opening.pieces t.number)) else []
