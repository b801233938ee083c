-- The rights that are left of some, by their numbers, bit by bit.
use Rattle.std.proofs.Common.{◌≡◌, true, false, Bool, refl, sym, ◌∙◌, ap, arith, ℕ, ◌+◌, ◌-◌, ◌*◌, ◌%◌, ◌^◌, ◌<◌, not, ◌==◌}
use Rattle.std.specs.Prelude.{bit_and, ◌&&◌, if◌then◌else◌}
use Rattle.std.proofs.lemmas.Nat.{and_block}
use Rattle.fpage.specs.Rights.{is_empty, meet, number, of_bits, without}
use Rattle.fpage.specs.declared.rights.Rights.{Rights}
use Rattle.space.proofs.Words.{number_bits}

bit : Bool → ℕ
bit b = if b then 1 else 0

bit_small : (b : Bool) → bit b < 2 ^ 1
unfolding bit
bit_small true = omega arith
bit_small false = omega arith

-- a number by its bits
number_is : (r : Rights) → number r ≡ (bit r.read * 2 ^ 1 + bit r.write) * 2 ^ 1 + bit r.execute
unfolding bit
number_is r = grind arith

-- the number of the other rights
others_are : (r : Rights) → 7 - number r ≡ (bit (not r.read) * 2 ^ 1 + bit (not r.write)) * 2 ^ 1 + bit (not r.execute)
unfolding bit
others_are r = by r.read r.write r.execute
  where
    by : (a b c : Bool) → 7 - number (record { read = a; write = b; execute = c }) ≡ (bit (not a) * 2 ^ 1 + bit (not b)) * 2 ^ 1 + bit (not c)
    by true true true = refl
    by true true false = refl
    by true false true = refl
    by true false false = refl
    by false true true = refl
    by false true false = refl
    by false false true = refl
    by false false false = refl

kept_bit : (a b : Bool) → bit_and (bit a) (bit (not b)) ≡ bit (a && not b)
unfolding bit
kept_bit true true = refl
kept_bit true false = refl
kept_bit false true = refl
kept_bit false false = refl

-- the number of what is in one set and not in another is "and" of the number of the one and of that of the other rights
and_number : (r s : Rights) → bit_and (number r) (7 - number s) ≡ number (without r s)
and_number r s =
    rw (
      number_is r,
      others_are s,
      number_is (without r s),
      and_block 1 (bit r.read * 2 ^ 1 + bit r.write) (bit (not s.read) * 2 ^ 1 + bit (not s.write)) (bit r.execute) (bit (not s.execute)) (bit_small r.execute) (bit_small (not s.execute)),
      and_block 1 (bit r.read) (bit (not s.read)) (bit r.write) (bit (not s.write)) (bit_small r.write) (bit_small (not s.write)),
      kept_bit r.read s.read,
      kept_bit r.write s.write,
      kept_bit r.execute s.execute,
    ) refl

-- the rights of a word that are not withdrawn, by their number
pub left_number : (w : ℕ) (mask : Rights) → bit_and (w % 8) (7 - number mask) ≡ number (without (of_bits (w % 8)) mask)
left_number w mask = ap (λ n. bit_and n (7 - number mask)) (sym (number_bits (w % 8) (omega arith))) ∙ and_number (of_bits (w % 8)) mask

common_bit : (a b : Bool) → bit_and (bit a) (bit b) ≡ bit (a && b)
unfolding bit
common_bit true true = refl
common_bit true false = refl
common_bit false true = refl
common_bit false false = refl

-- the number of what two sets have in common is "and" of their numbers
common_number : (r s : Rights) → bit_and (number r) (number s) ≡ number (meet r s)
common_number r s =
    rw (
      number_is r,
      number_is s,
      number_is (meet r s),
      and_block 1 (bit r.read * 2 ^ 1 + bit r.write) (bit s.read * 2 ^ 1 + bit s.write) (bit r.execute) (bit s.execute) (bit_small r.execute) (bit_small s.execute),
      and_block 1 (bit r.read) (bit s.read) (bit r.write) (bit s.write) (bit_small r.write) (bit_small s.write),
      common_bit r.read s.read,
      common_bit r.write s.write,
      common_bit r.execute s.execute,
    ) refl

-- the rights of a word that are let through, by their number
pub met_number : (w : ℕ) (through : Rights) → bit_and (w % 8) (number through) ≡ number (meet (of_bits (w % 8)) through)
met_number w through = ap (λ n. bit_and n (number through)) (sym (number_bits (w % 8) (omega arith))) ∙ common_number (of_bits (w % 8)) through

-- a set is empty just where its number is 0
empty_number : (r : Rights) → (number r == 0) ≡ is_empty r
empty_number r = by r.read r.write r.execute
  where
    by : (a b c : Bool) → (number (record { read = a; write = b; execute = c }) == 0) ≡ is_empty (record { read = a; write = b; execute = c })
    by true true true = refl
    by true true false = refl
    by true false true = refl
    by true false false = refl
    by false true true = refl
    by false true false = refl
    by false false true = refl
    by false false false = refl

-- whether a word has one of some rights, by its number
pub any_number : (w : ℕ) (mask : Rights) → not (bit_and (w % 8) (number mask) == 0) ≡ not (is_empty (meet (of_bits (w % 8)) mask))
any_number w mask =
    ap (λ n. not (bit_and n (number mask) == 0)) (sym (number_bits (w % 8) (omega arith))) ∙ ap (λ n. not (n == 0)) (common_number (of_bits (w % 8)) mask) ∙ ap not (empty_number (meet (of_bits (w % 8)) mask))
