-- The words that pieces name are there.
use Rattle.std.proofs.Common.{◌≡◌, ℕ, zero, suc, ◌<◌, Bool, true, false, ◌&&◌, List, [], ◌∷◌, length, map, Some, refl, ap, ◌∙◌, sym, arith, nat_lt}
use Rattle.std.specs.Prelude.{slice_get}
use Rattle.std.specs.List.{flat_map, list_all, All}
use Rattle.std.proofs.lemmas.Bool.{ltb-true}
use Rattle.pieces.specs.DistinctParts.{all_split}
use Rattle.pieces.specs.Phases.{named, NamesWords}
use Rattle.pieces.specs.declared.link.Store.{Store}
use Rattle.pieces.specs.declared.moving.Pair.{Pair}
use Rattle.pieces.specs.declared.touch.WordAccess.{WordAccess}
use Rattle.pieces.specs.declared.piece.Piece.{Piece}

both : (a b : Bool) → (a && b) ≡ true → (a ≡ true) × (b ≡ true)
both true true h = (refl, refl)
both true false h = absurd (cc)
both false b h = absurd (cc)

-- so they are for each piece
pub one_names : (w : List ℕ) (ps : List Piece) (n : ℕ) (p : Piece) → list_all (λ i. nat_lt i (length w)) (flat_map named ps) ≡ true → slice_get ps n ≡ Some p → NamesWords w p
one_names w [] n p all at = absurd (cc)
one_names w (q ∷ ps) zero p all at = let is : q ≡ p = cc in ap (λ r. list_all (λ i. nat_lt i (length w)) (named r)) (sym is) ∙ (all_split (λ i. nat_lt i (length w)) (named q) (flat_map named ps) all).0
one_names w (q ∷ ps) (suc n) p all at = one_names w ps n p (all_split (λ i. nat_lt i (length w)) (named q) (flat_map named ps) all).1 at

-- ---- one by one

module _ (n : ℕ) where
  pub indexes_within : (is : List ℕ) → list_all (λ i. nat_lt i n) is ≡ true → All (λ i. i < n) is
  indexes_within [] named k d less = absurd (omega (arith, less))
  indexes_within (i ∷ is) named zero d less = ltb-true i n (both (nat_lt i n) (list_all (λ j. nat_lt j n) is) named).0
  indexes_within (i ∷ is) named (suc k) d less = indexes_within is (both (nat_lt i n) (list_all (λ j. nat_lt j n) is) named).1 k d (omega (arith, less))

  pub stores_within : (xs : List Store) → list_all (λ i. nat_lt i n) (flat_map (λ s. s.read ∷ s.put ∷ []) xs) ≡ true → All (λ s. (s.read < n) × (s.put < n)) xs
  stores_within [] named k d less = absurd (omega (arith, less))
  stores_within (s ∷ xs) named zero d less =
      let first = both (nat_lt s.read n) (list_all (λ i. nat_lt i n) (s.put ∷ flat_map (λ (t : Store). t.read ∷ t.put ∷ []) xs)) named in
      let second = both (nat_lt s.put n) (list_all (λ i. nat_lt i n) (flat_map (λ (t : Store). t.read ∷ t.put ∷ []) xs)) first.1 in
      (ltb-true s.read n first.0, ltb-true s.put n second.0)
  stores_within (s ∷ xs) named (suc k) d less =
      let first = both (nat_lt s.read n) (list_all (λ i. nat_lt i n) (s.put ∷ flat_map (λ (t : Store). t.read ∷ t.put ∷ []) xs)) named in
      let second = both (nat_lt s.put n) (list_all (λ i. nat_lt i n) (flat_map (λ (t : Store). t.read ∷ t.put ∷ []) xs)) first.1 in
      stores_within xs second.1 k d (omega (arith, less))

  pub pairs_within : (xs : List Pair) → list_all (λ i. nat_lt i n) (flat_map (λ p. p.taken ∷ p.put ∷ []) xs) ≡ true → All (λ p. (p.taken < n) × (p.put < n)) xs
  pairs_within [] named k d less = absurd (omega (arith, less))
  pairs_within (p ∷ xs) named zero d less =
      let first = both (nat_lt p.taken n) (list_all (λ i. nat_lt i n) (p.put ∷ flat_map (λ (q : Pair). q.taken ∷ q.put ∷ []) xs)) named in
      let second = both (nat_lt p.put n) (list_all (λ i. nat_lt i n) (flat_map (λ (q : Pair). q.taken ∷ q.put ∷ []) xs)) first.1 in
      (ltb-true p.taken n first.0, ltb-true p.put n second.0)
  pairs_within (p ∷ xs) named (suc k) d less =
      let first = both (nat_lt p.taken n) (list_all (λ i. nat_lt i n) (p.put ∷ flat_map (λ (q : Pair). q.taken ∷ q.put ∷ []) xs)) named in
      let second = both (nat_lt p.put n) (list_all (λ i. nat_lt i n) (flat_map (λ (q : Pair). q.taken ∷ q.put ∷ []) xs)) first.1 in
      pairs_within xs second.1 k d (omega (arith, less))

  pub accesses_within : (xs : List WordAccess) → list_all (λ i. nat_lt i n) (map (λ t. t.index) xs) ≡ true → All (λ t. t.index < n) xs
  accesses_within [] named k d less = absurd (omega (arith, less))
  accesses_within (t ∷ xs) named zero d less = ltb-true t.index n (both (nat_lt t.index n) (list_all (λ i. nat_lt i n) (map (λ (u : WordAccess). u.index) xs)) named).0
  accesses_within (t ∷ xs) named (suc k) d less = accesses_within xs (both (nat_lt t.index n) (list_all (λ i. nat_lt i n) (map (λ (u : WordAccess). u.index) xs)) named).1 k d (omega (arith, less))
