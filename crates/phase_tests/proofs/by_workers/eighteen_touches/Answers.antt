-- Touches of words that are there can be worked beside one another.
use Rattle.std.proofs.Common.{rules, ◌≡◌, ℕ, ◌<◌, nat_lt, true, List, [], ◌∷◌, length, map, arith}
use Rattle.std.specs.List.{list_all}
use Rattle.space.specs.Slices.{pieces}
use Rattle.pieces.specs.Phases.{CanBeWorked}
use Rattle.pieces.specs.declared.touch.WordAccess.{WordAccess}
use Rattle.pieces.specs.declared.piece.Piece.{Piece}
use Rattle.pieces.specs.declared.piece.Piece.TheVariants as piece
use Rattle.pieces.proofs.OfOneKind.{accesses_can}
use Rattle.phase_tests.proofs.by_workers.eighteen_touches.Goals as goal

some_piece : (xs : List WordAccess) → 0 < length xs → 0 < length (map piece.Touch (pieces (length xs) 1 xs))
some_piece [] some = some
some_piece (x ∷ xs) some = omega arith

both : (w : List ℕ) → w ≡ 4294968583 ∷ 0 ∷ [] → (xs : List WordAccess) → 0 < length xs → list_all (λ i. nat_lt i 2) (map (λ x. x.index) xs) ≡ true → (ps : List Piece) → ps ≡ map piece.Touch (pieces (length xs) 1 xs) → (0 < length ps) × CanBeWorked w ps
both w words xs some within ps are =
    rw (are, words) (some_piece xs some, accesses_can (4294968583 ∷ 0 ∷ []) (omega arith) (search rules) xs within 1 (omega arith))

pub returns : goal.returns
returns c =
    both c.in_ok-words.words.items c.in_ok-words.ensures.items c.in_ok-eighteen_accesses.field-0.items c.in_ok-eighteen_accesses.ensures.some c.in_ok-eighteen_accesses.ensures.within
    c.in_ok-pieces.pieces.items c.in_ok-pieces.ensures
