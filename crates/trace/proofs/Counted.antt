-- The records of a text, whichever count suffices for them.
use Rattle.std.proofs.Common.{◌≡◌, ℕ, zero, suc, ◌+◌, ◌<◌, true, false, cond, List, [], ◌∷◌, ◌++◌, length, Option, Some, None, ◌⊎◌, inl, inr, refl, sym, ap, ◌∙◌, arith}
use Rattle.csv.specs.Machine.{Read, next_record, step, is_end, ends_at_end, fields_after, field_after}
use Rattle.csv.specs.Reading.{records_from, records_next}
use Rattle.csv.specs.declared.parser.Config.{Config}
use Rattle.csv.specs.declared.parser.State.{State}
use Rattle.csv.specs.declared.parser.State.TheVariants as st

-- a record takes a byte, or ends the text
abbrev pub Shrinks : List ℕ → Option Read → Type 0
Shrinks xs None = Unit {0}
Shrinks xs (Some r) = (length r.2 < length xs) ⊎ ((r.1 ≡ st.StartRecord) × (r.2 ≡ []))

shrinks_more : (x : ℕ) (xs : List ℕ) (r : Option Read) → Shrinks xs r → Shrinks (x ∷ xs) r
shrinks_more x xs None h = tt
shrinks_more x xs (Some r) (inl less) = inl (omega (arith, less))
shrinks_more x xs (Some r) (inr end) = inr end

shrinks : (cfg : Config) (s : State) (fs : List (List ℕ)) (f xs : List ℕ) → Shrinks xs (next_record cfg s fs f xs)
unfolding next_record
shrinks cfg s fs f [] = elim (ends_at_end s) as (λ b. Shrinks [] (cond b (Some (fs ++ (f ∷ []), st.StartRecord, [])) None)) [ true ↦ inr (refl, refl) | false ↦ tt ]
shrinks cfg s fs f (x ∷ xs) =
    let next = step cfg s x in
    elim (is_end next.1) as (λ b. Shrinks (x ∷ xs) (cond b (Some (fields_after next.1 fs f, next.0, xs)) (next_record cfg next.0 (fields_after next.1 fs f) (field_after next.1 x f) xs))) [
      | true ↦ inl (omega arith)
      | false ↦ shrinks_more x xs _ (shrinks cfg next.0 (fields_after next.1 fs f) (field_after next.1 x f) xs)
    ]

-- an empty text has no record between two records
none_left : (cfg : Config) (n : ℕ) → records_from cfg n st.StartRecord [] ≡ []
unfolding records_from next_record
none_left cfg zero = refl
none_left cfg (suc n) = refl

-- any count above the number of bytes suffices
settled : (cfg : Config) (n m : ℕ) (s : State) (xs : List ℕ) → length xs < n → length xs < m → records_from cfg n s xs ≡ records_from cfg m s xs
unfolding records_from
settled cfg zero m s xs few some = absurd (omega arith)
settled cfg (suc n) zero s xs few some = absurd (omega arith)
settled cfg (suc n) (suc m) s xs few some = by (next_record cfg s [] [] xs) (shrinks cfg s [] [] xs) (settled cfg n m)
  where
    by : (r : Option Read) → Shrinks xs r → ((t : State) (ys : List ℕ) → length ys < n → length ys < m → records_from cfg n t ys ≡ records_from cfg m t ys) → records_next (records_from cfg n) r ≡ records_next (records_from cfg m) r
    by None h more = refl
    by (Some p) (inl less) more = ap (λ l. p.0 ∷ l) (more p.1 p.2 (omega (arith, less, few)) (omega (arith, less, some)))
    by (Some p) (inr end) more = ap (λ l. p.0 ∷ l) (rw (end.0, end.1) (none_left cfg n ∙ sym (none_left cfg m)))

-- a text's first record, and those behind it
pub first_record : (cfg : Config) (n : ℕ) (s : State) (xs : List ℕ) (p : Read) → length xs < n → next_record cfg s [] [] xs ≡ Some p → records_from cfg n s xs ≡ p.0 ∷ records_from cfg (length p.2 + 1) p.1 p.2
unfolding records_from
first_record cfg zero s xs p few is = absurd (omega arith)
first_record cfg (suc n) s xs p few is = rw is (ap (λ l. p.0 ∷ l) (by (rw is at (shrinks cfg s [] [] xs))))
  where
    by : Shrinks xs (Some p) → records_from cfg n p.1 p.2 ≡ records_from cfg (length p.2 + 1) p.1 p.2
    by (inl less) = settled cfg n (length p.2 + 1) p.1 p.2 (omega (arith, less, few)) (omega arith)
    by (inr end) = rw (end.0, end.1) (none_left cfg n ∙ sym (none_left cfg 1))

-- a text with no record
pub no_record : (cfg : Config) (n : ℕ) (s : State) (xs : List ℕ) → next_record cfg s [] [] xs ≡ None → records_from cfg n s xs ≡ []
unfolding records_from
no_record cfg zero s xs is = refl
no_record cfg (suc n) s xs is = rw is refl
