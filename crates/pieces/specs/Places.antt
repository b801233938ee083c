-- Where in a list of results each piece's stands.
use Rattle.std.specs.Prelude.{ℕ, ◌+◌, ◌==◌, List, [], ◌∷◌, map, Option, Some, None, if◌then◌else◌}
use Rattle.std.specs.List.{range_with_len}
use Rattle.pieces.specs.Dones.{DoneContent}

-- the position of the first result with a number, if the list begins at this position
abbrev pub place_from : ℕ → ℕ → List DoneContent → Option ℕ
place_from at k [] = None
place_from at k (d ∷ ds) = if d.number == k then Some at else place_from (at + 1) k ds

-- the same for each of so many numbers
abbrev pub places_from : ℕ → ℕ → List DoneContent → List (Option ℕ)
places_from n at ds = map (λ k. place_from at k ds) (range_with_len 0 n)
