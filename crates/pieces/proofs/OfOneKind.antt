-- Pieces that are all touches, or of which none is one.
use Rattle.std.proofs.Common.{◌≡◌, ℕ, ◌<◌, ◌≤◌, nat_lt, true, false, Bool, ◌||◌, not, List, [], ◌∷◌, ◌++◌, length, map, refl, ap, ◌∙◌, arith}
use Rattle.std.specs.Prelude.{is_some}
use Rattle.std.specs.List.{AllPass, list_any, list_all, flat_map}
use Rattle.std.proofs.lemmas.List.{map-append}
use Rattle.space.specs.Word.{is_pack}
use Rattle.space.specs.Slices.{pieces}
use Rattle.pieces.specs.Distinct.{is_none_of, are_distinct}
use Rattle.pieces.specs.Laws.{joined}
use Rattle.pieces.specs.Phases.{CanBeWorked, changes, folds, held, named, is_touch, are_alike}
use Rattle.pieces.specs.Steps.{entry_in}
use Rattle.pieces.specs.declared.touch.WordAccess.{WordAccess}
use Rattle.pieces.specs.declared.piece.Piece.{Piece}
use Rattle.pieces.specs.declared.piece.Piece.TheVariants as piece
use Rattle.pieces.proofs.InPieces.{flat_parts, flat_of_map, joined_pieces}

pub none_folded : {A : Type 0} (make : A → Piece) → ((x : A) → folds (make x) ≡ []) → (xs : List A) → flat_map folds (map make xs) ≡ []
none_folded make none [] = refl
none_folded make none (x ∷ xs) = ap (λ is. is ++ flat_map folds (map make xs)) (none x) ∙ none_folded make none xs

pub none_touch : {A : Type 0} (make : A → Piece) → ((x : A) → is_touch (make x) ≡ false) → (xs : List A) → list_any is_touch (map make xs) ≡ false
none_touch make none [] = refl
none_touch make none (x ∷ xs) = ap (λ b. b || list_any is_touch (map make xs)) (none x) ∙ none_touch make none xs

pub not_touches : (ps : List Piece) → list_any is_touch ps ≡ false → are_alike ps ≡ true
not_touches ps none = ap (λ b. list_all is_touch ps || not b) none ∙ either (list_all is_touch ps)
  where
    either : (x : Bool) → (x || not false) ≡ true
    either x = grind arith

-- ---- touches

all_touch : (xs : List (List WordAccess)) → list_all is_touch (map piece.Touch xs) ≡ true
all_touch [] = refl
all_touch (x ∷ xs) = all_touch xs

only_touches : (ps : List Piece) → list_all is_touch ps ≡ true → are_alike ps ≡ true
only_touches ps all = ap (λ b. b || not (list_any is_touch ps)) all

none_changed : (xs : List (List WordAccess)) → flat_map changes (map piece.Touch xs) ≡ []
none_changed [] = refl
none_changed (x ∷ xs) = none_changed xs

none_held : (xs : List (List WordAccess)) → flat_map held (map piece.Touch xs) ≡ []
none_held [] = refl
none_held (x ∷ xs) = none_held xs

-- touches of words that are there can be worked beside one another
pub touches_can : (w : List ℕ) → 0 < length w → AllPass is_pack w → (xs : List WordAccess) → list_all (λ i. nat_lt i (length w)) (map (λ x. x.index) xs) ≡ true → (parts : List (List WordAccess)) → joined parts ≡ xs
    → CanBeWorked w (map piece.Touch parts)
touches_can w some packs xs within parts all = record {
  some = some;
  packs = packs;
  within = ap (list_all (λ i. nat_lt i (length w))) (flat_of_map piece.Touch named parts ∙ flat_parts (map (λ x. x.index)) refl (map-append (λ x. x.index)) parts ∙ ap (map (λ x. x.index)) all) ∙ within;
  entries = ap (list_all (λ i. is_some (entry_in w i))) (none_held parts);
  distinct = ap are_distinct (none_changed parts);
  apart = ap (list_all (is_none_of (flat_map changes (map piece.Touch parts)))) (none_folded piece.Touch (λ x. refl) parts);
  alike = only_touches (map piece.Touch parts) (all_touch parts);
}

-- and so can they in pieces
pub accesses_can : (w : List ℕ) → 0 < length w → AllPass is_pack w → (xs : List WordAccess) → list_all (λ i. nat_lt i (length w)) (map (λ x. x.index) xs) ≡ true → (most : ℕ) → 1 ≤ most
    → CanBeWorked w (map piece.Touch (pieces (length xs) most xs))
accesses_can w some packs xs within most at_least = touches_can w some packs xs within (pieces (length xs) most xs) (joined_pieces (length xs) most xs at_least (omega arith))
