-- The parts of a reply line.
use Rattle.std.proofs.Common.{◌≡◌, ℕ, List, ◌++◌, append_assoc}

-- a text, and the line of a number behind it
pub line_behind : (old digits space answer end : List ℕ) → old ++ (digits ++ space ++ answer ++ end) ≡ old ++ digits ++ (space ++ (answer ++ end))
line_behind old digits space answer end = simp append_assoc
