-- The steps of links and of moves, one by one.
use Rattle.std.proofs.Common.{◌≡◌, ℕ, zero, suc, ◌+◌, ◌*◌, ◌<◌, List, [], ◌∷◌, length, get_or, Some, refl, ap, ◌∙◌, sym, subst, arith}
use Rattle.std.specs.Prelude.{slice_get}
use Rattle.std.specs.List.{flat_map}
use Rattle.std.specs.Option.{option_map}
use Rattle.space.specs.Word.{word_of, entry_of}
use Rattle.pieces.specs.Effects.{writes}
use Rattle.pieces.specs.Steps.{effect, effects, entry_in, linked, store_step, without_status, pair_steps}
use Rattle.pieces.specs.declared.link.Store.{Store}
use Rattle.pieces.specs.declared.moving.Pair.{Pair}
use Rattle.pieces.specs.declared.piece.Piece.TheVariants as piece
use Rattle.pieces.proofs.NamedWords.{stores_within, pairs_within}
use Rattle.turns.specs.Rules.{next_step}
use Rattle.turns.specs.SharedWords.{IsPhase}
use Rattle.turns.specs.declared.view.Opening.{Opening}
use Rattle.turns.proofs.StripSteps.{next_is, names}

-- ---- links

store_at : (w : List ℕ) (xs : List Store) (k : ℕ) (d : Store) → k < length xs → slice_get (effects w (piece.Link xs)) k ≡ Some (effect w (store_step w (get_or xs k d)))
store_at w [] k d less = absurd (omega (arith, less))
store_at w (s ∷ xs) zero d less = refl
store_at w (s ∷ xs) (suc k) d less = store_at w xs k d (omega (arith, less))

module _ (o : Opening) (phase : IsPhase o) (n k : ℕ) (xs : List Store) (of : slice_get o.pieces n ≡ Some (piece.Link xs)) (less : k < length xs) (s : Store) (at : s ≡ get_or xs k s) where
  pub store_within : (s.read < length o.words) × (s.put < length o.words)
  store_within = subst (λ (t : Store). (t.read < length o.words) × (t.put < length o.words)) (sym at) (stores_within (length o.words) xs (names o phase n (piece.Link xs) of) k s less)

  pub put_next : (x source target : ℕ) → source ≡ get_or o.words s.read 0 → target ≡ get_or o.words s.put 0 → x ≡ word_of (option_map (linked s.rights (entry_of target)) (entry_of source))
      → next_step o ((n, k) ∷ []) ≡ Some (writes s.put x)
  put_next x source target read put made =
      next_is o n k (piece.Link xs) (writes s.put x) of
      (store_at o.words xs k s less ∙ ap (λ t. Some (effect o.words (store_step o.words t))) (sym at)
      ∙ ap (λ y. Some (writes s.put y))
      (sym (made ∙ ap (λ t. word_of (option_map (linked s.rights (entry_of t)) (entry_of source))) put ∙ ap (λ r. word_of (option_map (linked s.rights (entry_in o.words s.put)) (entry_of r))) read)))

-- ---- moves

take_at : (w : List ℕ) (xs : List Pair) (k j : ℕ) (d : Pair) → k ≡ 2 * j → j < length xs → slice_get (effects w (piece.Move xs)) k ≡ Some (writes (get_or xs j d).taken 0)
take_at w [] k j d is less = absurd (omega (arith, less))
take_at w (p ∷ xs) k zero d is less = ap (slice_get (effects w (piece.Move (p ∷ xs)))) (let z : k ≡ 0 = omega (arith, is) in z)
take_at w (p ∷ xs) zero (suc j) d is less = absurd (omega (arith, is))
take_at w (p ∷ xs) (suc zero) (suc j) d is less = absurd (omega (arith, is))
take_at w (p ∷ xs) (suc (suc k)) (suc j) d is less = take_at w xs k j d (omega (arith, is)) (omega (arith, less))

put_at : (w : List ℕ) (xs : List Pair) (k j : ℕ) (d : Pair) → k ≡ 2 * j + 1 → j < length xs
    → slice_get (effects w (piece.Move xs)) k ≡ Some (writes (get_or xs j d).put (word_of (option_map without_status (entry_in w (get_or xs j d).taken))))
put_at w [] k j d is less = absurd (omega (arith, less))
put_at w (p ∷ xs) k zero d is less = ap (slice_get (effects w (piece.Move (p ∷ xs)))) (let z : k ≡ 1 = omega (arith, is) in z)
put_at w (p ∷ xs) zero (suc j) d is less = absurd (omega (arith, is))
put_at w (p ∷ xs) (suc zero) (suc j) d is less = absurd (omega (arith, is))
put_at w (p ∷ xs) (suc (suc k)) (suc j) d is less = put_at w xs k j d (omega (arith, is)) (omega (arith, less))

module _ (o : Opening) (phase : IsPhase o) (n k j : ℕ) (xs : List Pair) (of : slice_get o.pieces n ≡ Some (piece.Move xs)) (less : j < length xs) (p : Pair) (at : p ≡ get_or xs j p) where
  pub pair_within : (p.taken < length o.words) × (p.put < length o.words)
  pair_within = subst (λ (q : Pair). (q.taken < length o.words) × (q.put < length o.words)) (sym at) (pairs_within (length o.words) xs (names o phase n (piece.Move xs) of) j p less)

  pub take_next : k ≡ 2 * j → next_step o ((n, k) ∷ []) ≡ Some (writes p.taken 0)
  take_next even = next_is o n k (piece.Move xs) (writes p.taken 0) of (take_at o.words xs k j p even less ∙ ap (λ (q : Pair). Some (writes q.taken 0)) (sym at))

  pub then_next : k ≡ 2 * j + 1 → (x source : ℕ) → source ≡ get_or o.words p.taken 0 → x ≡ word_of (option_map without_status (entry_of source)) → next_step o ((n, k) ∷ []) ≡ Some (writes p.put x)
  then_next odd x source read made =
      next_is o n k (piece.Move xs) (writes p.put x) of
      (put_at o.words xs k j p odd less ∙ ap (λ (q : Pair). Some (writes q.put (word_of (option_map without_status (entry_in o.words q.taken))))) (sym at)
      ∙ ap (λ y. Some (writes p.put y)) (sym (made ∙ ap (λ r. word_of (option_map without_status (entry_of r))) read)))

-- each pair has two steps
pub pair_count : (w : List ℕ) (xs : List Pair) → length (flat_map (pair_steps w) xs) ≡ 2 * length xs
pair_count w [] = refl
pair_count w (p ∷ xs) = let a : ℕ = length (flat_map (pair_steps w) xs) in let b : ℕ = length xs in let m : a ≡ 2 * b = pair_count w xs in omega arith
