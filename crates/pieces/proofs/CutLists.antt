-- Lists cut into pieces, one after another.
use Rattle.std.proofs.Common.{◌≡◌, ℕ, zero, suc, ◌<◌, ◌≤◌, min, List, [], ◌∷◌, ◌++◌, length, map, take, drop, refl, ap, ◌∙◌, sym, arith, append_assoc}
use Rattle.space.specs.Slices.{pieces}
use Rattle.space.proofs.Lists.{first_piece, take_all, drop_all}

module _ {A B : Type 0} where
  -- one more piece is cut off
  pub next_piece : (f : List A → B) (most m : ℕ) (so_far next all : List B) (rest first others : List A) → 1 ≤ most → 0 < length rest → m ≡ min most (length rest) → first ≡ take m rest → others ≡ drop m rest
      → next ≡ so_far ++ f first ∷ [] → so_far ++ map f (pieces (length rest) most rest) ≡ all → next ++ map f (pieces (length others) most others) ≡ all
  next_piece f most m so_far next all rest first others some more m_is first_is others_is next_is upto =
      rw (next_is, first_is, others_is, m_is) (append_assoc so_far (f (take (min most (length rest)) rest) ∷ []) _ ∙ ap (λ ps. so_far ++ map f ps) (sym (first_piece most rest some more)) ∙ upto)

  -- a list that is short enough is one piece
  pub whole_piece : (f : List A → B) (most : ℕ) (xs : List A) → 0 < length xs → length xs ≤ most → map f (pieces (length xs) most xs) ≡ f xs ∷ []
  whole_piece f most [] some upto = absurd (omega (arith, some))
  whole_piece f most (x ∷ xs) some upto = rw (take_all most (x ∷ xs) upto, drop_all most (x ∷ xs) upto) (none (length xs))
    where
      none : (n : ℕ) → f (x ∷ xs) ∷ map f (pieces n most []) ≡ f (x ∷ xs) ∷ []
      none zero = refl
      none (suc n) = refl
