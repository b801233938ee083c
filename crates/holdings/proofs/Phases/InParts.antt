-- Pieces that are made part by part of a list.
use Rattle.std.proofs.Common.{◌≡◌, ℕ, ◌≤◌, List, [], ◌++◌, length, map, append_assoc, refl, sym, ap, ◌∙◌, arith}
use Rattle.std.proofs.lemmas.Grind.{flat_map-append}
use Rattle.std.proofs.lemmas.List.{append-nil, map-append}
use Rattle.space.specs.Slices.{pieces}
use Rattle.pieces.specs.Laws.{joined}
use Rattle.pieces.specs.declared.piece.Piece.{Piece}
use Rattle.pieces.proofs.InPieces.{joined_pieces}
use Rattle.holdings.specs.Inner.Phases.{ArePieces}

-- the pieces of what stands before the rest of a list
pub record IsCutUpTo {A : Type 0} (make : List A → Piece) (rest all : List A) (ps : List Piece) : Type 0 where
  pub seen : List A
  pub pieces : ArePieces make seen ps
  pub ahead : seen ++ rest ≡ all

module _ {A : Type 0} (make : List A → Piece) where
  pub none_cut : (all : List A) → IsCutUpTo make all all []
  none_cut all = record { seen = []; pieces = record { parts = []; are = refl; joined = refl }; ahead = refl }

  pub more_cut : (most : ℕ) → 1 ≤ most → (xs rest all : List A) (ps qs now : List Piece) → IsCutUpTo make (xs ++ rest) all ps → qs ≡ map make (pieces (length xs) most xs) → now ≡ ps ++ qs → IsCutUpTo make rest all now
  more_cut most some xs rest all ps qs now old qs_are now_is =
      let parts = old.pieces.parts in
      let more = pieces (length xs) most xs in
      record {
        seen = old.seen ++ xs;
        pieces = record {
          parts = parts ++ more;
          are = now_is ∙ ap (λ rs. rs ++ qs) old.pieces.are ∙ ap (λ rs. map make parts ++ rs) qs_are ∙ sym (map-append make parts more);
          joined = flat_map-append (λ part. part) parts more ∙ ap (λ ys. ys ++ joined more) old.pieces.joined ∙ ap (λ ys. old.seen ++ ys) (joined_pieces (length xs) most xs some (omega arith));
        };
        ahead = append_assoc old.seen xs rest ∙ old.ahead;
      }

  pub all_cut : (all : List A) (ps : List Piece) → IsCutUpTo make [] all ps → ArePieces make all ps
  all_cut all ps old = record { parts = old.pieces.parts; are = old.pieces.are; joined = old.pieces.joined ∙ sym (append-nil old.seen) ∙ old.ahead }
