-- Lists whose batches have pieces, one batch after another.
use Rattle.std.proofs.Common.{◌≡◌, ℕ, suc, ◌+◌, ◌*◌, ◌≤◌, ◌<◌, ◌++◌, ◌∷◌, [], List, length, map, filter, take, drop, true, false, Bool, Result, Ok, Err, is_ok, IfOk, refl, sym, ap, ◌∙◌, subst, arith, if◌then◌else◌}
use Rattle.std.specs.Prelude.{slice_index_or}
use Rattle.std.specs.List.{All}
use Rattle.std.proofs.lemmas.List.{append_assoc, append-nil, drop-drop, length-drop, map-append, take-append-drop}
use Rattle.std.proofs.lemmas.List.Elements.{All-head, All-tail}
use Rattle.fpage.specs.declared.rights.Access.{Access}
use Rattle.space.specs.declared.place.Place.{Place}
use Rattle.space.specs.declared.shards.Shards.{Shards}
use Rattle.pieces.specs.declared.piece.Piece.{Piece}
use Rattle.pieces.specs.declared.piece.Piece.TheVariants as piece
use Rattle.pieces.specs.declared.runs.StripPlan.{StripPlan}
use Rattle.holdings.specs.Inner.Faults.{is_there, with_faults, word_accesses}
use Rattle.holdings.specs.Inner.Phases.{ArePieces, all_pieces, batch_of}
use Rattle.holdings.specs.Inner.Planning.{word_access}
use Rattle.holdings.proofs.Phases.ItemParts.{no_pieces, both_pieces}

-- the pieces of one plan more
pub one_plan_more : {E : Type 0} (rs : List (Result StripPlan E)) (plan : StripPlan) → all_pieces (rs ++ Ok plan ∷ []) ≡ all_pieces rs ++ plan.pieces.items
one_plan_more [] plan = append-nil plan.pieces.items
one_plan_more (Ok first ∷ rs) plan = ap (λ ps. first.pieces.items ++ ps) (one_plan_more rs plan) ∙ sym (append_assoc first.pieces.items (all_pieces rs) plan.pieces.items)
one_plan_more (Err e ∷ rs) plan = one_plan_more rs plan

-- what is so of each batch and its pieces is so of the list and all pieces
module _ {A : Type 0} {E : Type 0} (size : ℕ) (P : List A → List Piece → Type 0) (none : P [] []) (both : (xs ys : List A) (ps qs : List Piece) → P xs ps → P ys qs → P (xs ++ ys) (ps ++ qs)) where
  pub batches_joined : (xs : List A) (rs : List (Result StripPlan E)) → All (λ r. is_ok r ≡ true) rs → length xs ≤ length rs * size
      → ((k : ℕ) (d : Result StripPlan E) → k < length rs → IfOk (slice_index_or rs k d) (λ plan. P (batch_of size xs k) plan.pieces.items)) → P xs (all_pieces rs)
  batches_joined [] [] made few each = none
  batches_joined (x ∷ xs) [] made few each = absurd (omega (arith, few))
  batches_joined xs (Err e ∷ rs) made few each = absurd (cc (All-head (λ r. is_ok r ≡ true) (Err e) rs made))
  batches_joined xs (Ok plan ∷ rs) made few each =
      let none_before : size * 0 ≡ 0 = omega arith in
      let first : batch_of size xs 0 ≡ take size xs = ap (λ n. take size (drop n xs)) none_before in
      let shorter : length (drop size xs) ≤ length rs * size = omega (arith, length-drop size xs, few, one_less) in
      subst (λ ys. P ys (plan.pieces.items ++ all_pieces rs)) (take-append-drop size xs)
      (both (take size xs) (drop size xs) plan.pieces.items (all_pieces rs) (subst (λ ys. P ys plan.pieces.items) first (each 0 (Ok plan) (omega arith)))
      (batches_joined (drop size xs) rs (All-tail (λ r. is_ok r ≡ true) (Ok plan) rs made) shorter (λ k d less. subst (λ ys. IfOk (slice_index_or rs k d) (λ p. P ys p.pieces.items)) (next k) (each (suc k) d (omega (arith, less))))))
    where
      one_less : suc (length rs) * size ≡ size + length rs * size
      one_less = omega arith

      next : (k : ℕ) → batch_of size xs (suc k) ≡ batch_of size (drop size xs) k
      next k =
          let far : size * suc k ≡ size + size * k = omega arith in
          ap (λ n. take size (drop n xs)) far ∙ ap (take size) (sym (drop-drop (size * k) size xs))

  -- and so of what a call returns that has all pieces
  pub pieces_of_batches : {V F : Type 0} (items : V → List Piece) (xs : List A) (rs : List (Result StripPlan E)) (result : Result V F) → IfOk result (λ v. All (λ r. is_ok r ≡ true) rs) → IfOk result (λ v. items v ≡ all_pieces rs) → length xs ≤ length rs * size
      → ((k : ℕ) (d : Result StripPlan E) → k < length rs → IfOk (slice_index_or rs k d) (λ plan. P (batch_of size xs k) plan.pieces.items)) → IfOk result (λ v. P xs (items v))
  pieces_of_batches items xs rs (Ok v) made are few each = subst (P xs) (sym are) (batches_joined xs rs made few each)
  pieces_of_batches items xs rs (Err e) made are few each = tt

-- ---- accesses

module _ (s : Shards) where
  -- those of one list whose shards are there, and of another
  both_there : (xs ys : List (Place × Access)) → filter (is_there s) (xs ++ ys) ≡ filter (is_there s) xs ++ filter (is_there s) ys
  both_there [] ys = refl
  both_there (a ∷ xs) ys = by (is_there s a) (both_there xs ys)
    where
      by : (b : Bool) → filter (is_there s) (xs ++ ys) ≡ filter (is_there s) xs ++ filter (is_there s) ys
          → (if b then a ∷ filter (is_there s) (xs ++ ys) else filter (is_there s) (xs ++ ys)) ≡ (if b then a ∷ filter (is_there s) xs else filter (is_there s) xs) ++ filter (is_there s) ys
      by true rest = ap (λ zs. a ∷ zs) rest
      by false rest = rest

  both_accesses : (xs ys : List (Place × Access)) → word_accesses s (xs ++ ys) ≡ word_accesses s xs ++ word_accesses s ys
  both_accesses xs ys = ap (map (word_access s)) (both_there xs ys) ∙ map-append (word_access s) (filter (is_there s) xs) (filter (is_there s) ys)

  pub no_touches : ArePieces piece.Touch (word_accesses s []) []
  no_touches = no_pieces piece.Touch

  pub touches_joined : (xs ys : List (Place × Access)) (ps qs : List Piece) → ArePieces piece.Touch (word_accesses s xs) ps → ArePieces piece.Touch (word_accesses s ys) qs → ArePieces piece.Touch (word_accesses s (xs ++ ys)) (ps ++ qs)
  touches_joined xs ys ps qs p q = subst (λ zs. ArePieces piece.Touch zs (ps ++ qs)) (sym (both_accesses xs ys)) (both_pieces piece.Touch (word_accesses s xs) (word_accesses s ys) ps qs p q)

  -- where no shard is wanting, there are no faults among the answers
  few_there : (xs : List (Place × Access)) → length (filter (is_there s) xs) ≤ length xs
  few_there [] = omega arith
  few_there (a ∷ xs) = by (is_there s a) (few_there xs)
    where
      by : (b : Bool) → length (filter (is_there s) xs) ≤ length xs → length (if b then a ∷ filter (is_there s) xs else filter (is_there s) xs) ≤ suc (length xs)
      by true few = omega (arith, few)
      by false few = omega (arith, few)

  pub no_faults : (xs : List (Place × Access)) (made : List Bool) → length made ≡ length xs → length made ≡ length (filter (is_there s) xs) → made ≡ with_faults (map (is_there s) xs) made
  no_faults [] [] many each = refl
  no_faults [] (b ∷ made) many each = absurd (omega (arith, many))
  no_faults (a ∷ xs) [] many each = absurd (omega (arith, many))
  no_faults (a ∷ xs) (b ∷ made) many each = by (is_there s a) each (few_there xs) (λ e. no_faults xs made (omega (arith, many)) e)
    where
      by : (c : Bool) → length (b ∷ made) ≡ length (if c then a ∷ filter (is_there s) xs else filter (is_there s) xs) → length (filter (is_there s) xs) ≤ length xs
          → (length made ≡ length (filter (is_there s) xs) → made ≡ with_faults (map (is_there s) xs) made) → b ∷ made ≡ with_faults (c ∷ map (is_there s) xs) (b ∷ made)
      by true each few rest = ap (λ rs. b ∷ rs) (rest (omega (arith, each)))
      by false each few rest = absurd (omega (arith, each, few, many))
