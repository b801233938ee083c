-- A number from its digits, the first ones taken already.
use Rattle.std.proofs.Common.{◌≡◌, ℕ, ◌+◌, ◌*◌, ◌^◌, ◌<◌, ◌≤◌, List, [], ◌∷◌, length, Option, Some, None, refl, ap, ◌∙◌, arith, add-one, add-one-le}
use Rattle.std.specs.Option.{option_map}
use Rattle.std.proofs.Math.Nat.{pow-zero, pow-suc, pow-le-pow_right, mul-le-mul_right}
use Rattle.model.specs.Definitions.Records.{value_of, digit_in, ◌>>=◌}

-- the number that a value and the digits after it spell
abbrev pub spelled : ℕ → ℕ → List ℕ → Option ℕ
spelled base value rest = option_map (λ low. value * base ^ length rest + low) (value_of base rest)

pub spelled-start : (base : ℕ) (digits : List ℕ) → spelled base 0 digits ≡ value_of base digits
spelled-start base digits = elim (value_of base digits) as (λ v. option_map (λ low. 0 * base ^ length digits + low) v ≡ v) [ None ↦ refl | Some v ↦ ap Some (omega arith) ]

pub spelled-end : (base value : ℕ) → spelled base value [] ≡ Some value
spelled-end base value = ap Some (rw pow-zero (omega arith))

regrouped : (value base d power low : ℕ) → value * (power * base) + (d * power + low) ≡ (value * base + d) * power + low
regrouped value base d power low = omega arith

pub spelled-more : (base value c d : ℕ) (rest : List ℕ) → digit_in base c ≡ Some d → spelled base value (c ∷ rest) ≡ spelled base (value * base + d) rest
spelled-more base value c d rest is =
    rw (is, pow-suc base (length rest)) (elim (value_of base rest) as (λ v. option_map (λ low. value * (base ^ length rest * base) + low) (v >>= (λ low. Some (d * base ^ length rest + low))) ≡ option_map (λ low. (value * base + d) * base ^ length rest + low) v) [
      | None ↦ refl
      | Some low ↦ ap Some (regrouped value base d (base ^ length rest) low)
    ])

pub spelled-none : (base value c : ℕ) (rest : List ℕ) → digit_in base c ≡ None → spelled base value (c ∷ rest) ≡ None
spelled-none base value c rest is = rw is refl

-- one digit more fits one place more
pub next_fits : (base value d i : ℕ) → value < base ^ i → d < base → value * base + d < base ^ (i + 1)
next_fits base value d i small digit =
    let power : base ^ (i + 1) ≡ base ^ i * base = ap (λ n. base ^ n) (add-one i) ∙ pow-suc base i in
    let room : (value + 1) * base ≤ base ^ i * base = mul-le-mul_right base (add-one-le small) in
    omega (arith, power, room)

pub places_fit : (base i most : ℕ) → 0 < base → i + 1 ≤ most → base ^ (i + 1) ≤ base ^ most
places_fit base i most pos le = pow-le-pow_right pos le

-- the next value fits what the whole field fits
pub fits_next : (base value d i n most : ℕ) → 0 < base → value < base ^ i → d < base → i < n → n ≤ most → base ^ most ≤ 2 ^ 32 → value * base + d < 2 ^ 32
fits_next base value d i n most pos small digit in_field le fits =
    omega (arith, next_fits base value d i small digit, places_fit base i most pos (omega arith))
