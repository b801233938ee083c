-- The table of the digits, held against their definition at each of the 256 bytes, by computing.
use Rattle.std.proofs.Common.{◌≡◌, ℕ, zero, suc, ◌<◌, Bool, true, false, ◌&&◌, nat_eq, get_or, List, Option, Some, None, refl, sym, ap, ◌∙◌, arith, inl, inr, if◌then◌else◌}
use Rattle.std.proofs.lemmas.Bool.{cases_eq}
use Rattle.model.specs.Definitions.Records.{hex_digit}
use Rattle.fields.specs.declared.digits.TheConstants.{DIGITS}

-- what an entry stands for
abbrev pub digit_of : ℕ → Option ℕ
digit_of entry = if nat_eq entry 16 then None else Some entry

same : Option ℕ → Option ℕ → Bool
same None None = true
same None (Some y) = false
same (Some x) None = false
same (Some x) (Some y) = nat_eq x y

-- the entries below n are those defined
agree_below : List ℕ → ℕ → Bool
agree_below table zero = true
agree_below table (suc n) = same (digit_of (get_or table n 0)) (hex_digit n) && agree_below table n

both_of : (x y : Option ℕ) (rest : Bool) → (same x y && rest) ≡ true → (x ≡ y) × (rest ≡ true)
unfolding same
both_of None None rest h = (refl, h)
both_of None (Some y) rest h = cc
both_of (Some x) None rest h = cc
both_of (Some x) (Some y) rest h = grind arith

agree_at : (table : List ℕ) (n : ℕ) → agree_below table n ≡ true → (b : ℕ) → b < n → digit_of (get_or table b 0) ≡ hex_digit b
unfolding agree_below
agree_at table zero h b lt = absurd (omega arith)
agree_at table (suc n) h b lt =
    let both = both_of (digit_of (get_or table n 0)) (hex_digit n) (agree_below table n) h in
    elim (cases_eq b n) [ inl is ↦ rw is both.0 | inr other ↦ agree_at table n both.1 b (omega arith) ]

digits_are : (b i : ℕ) → b < 256 → i ≡ b → digit_of (get_or DIGITS i 0) ≡ hex_digit b
unfolding agree_below same
digits_are b i lt is = ap (λ k. digit_of (get_or DIGITS k 0)) is ∙ agree_at DIGITS 256 refl b lt

some_of : (entry : ℕ) → (entry ≡ 16 → ⊥) → Some entry ≡ digit_of entry
some_of entry other = grind arith

-- the entry of a byte that is no digit
pub no_digit : (b i : ℕ) → b < 256 → i ≡ b → get_or DIGITS i 0 ≡ 16 → None ≡ hex_digit b
no_digit b i lt is none = ap digit_of (sym none) ∙ digits_are b i lt is

-- and of one that is
pub one_digit : (b i d : ℕ) → b < 256 → i ≡ b → (get_or DIGITS i 0 ≡ 16 → ⊥) → d ≡ get_or DIGITS i 0 → Some d ≡ hex_digit b
one_digit b i d lt is some value = ap Some value ∙ some_of (get_or DIGITS i 0) some ∙ digits_are b i lt is
