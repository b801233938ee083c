-- What the steps that were done make of the words at opening, in whatever order they were done.
use Rattle.std.specs.Prelude.{ℕ, List, length, map, slice_index, Option, option_map}
use Rattle.fpage.specs.declared.rights.Rights.{Rights}
use Rattle.pieces.specs.Effects.{done, words_after}
use Rattle.pieces.specs.Steps.{entry_in, steps, effects}
use Rattle.pieces.specs.declared.piece.Piece.{Piece}

-- the words at opening with so many steps of each piece done
abbrev pub applied : List ℕ → List Piece → (ℕ → ℕ) → List ℕ
applied w ps counts = words_after w (done counts (map (effects w) ps))

-- how many steps each piece has
abbrev pub step_counts : List ℕ → List Piece → List ℕ
step_counts w ps = map (λ p. length (steps w p)) ps

-- the words with all steps of all pieces done
abbrev pub worked : List ℕ → List Piece → List ℕ
worked w ps = applied w ps (slice_index (step_counts w ps))

-- frame and rights at an index, or none
abbrev pub before : List ℕ → ℕ → Option (ℕ × Rights)
before w i = option_map (λ e. (e.frame, e.rights)) (entry_in w i)

-- frame and rights at an index when all pieces are worked
abbrev pub after : List ℕ → List Piece → ℕ → Option (ℕ × Rights)
after w ps i = before (worked w ps) i
