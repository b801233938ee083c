-- Eight numbers, joined bit by bit: where that is 0, each of them is.
use Rattle.std.proofs.Common.{◌≡◌, ℕ, zero, suc, ◌+◌, ◌-◌, ◌<◌, ◌≤◌, bit_or, ap, ◌∙◌, arith}
use Rattle.std.specs.Int.{bit_at}
use Rattle.std.proofs.lemmas.Nat.{le_or_l, le_or_r}
use Rattle.space.proofs.RunBits.{left_none, right_none}

abbrev pub or_of_four : ℕ → ℕ → ℕ → ℕ → ℕ
or_of_four a b c d = bit_or (bit_or (bit_or a b) c) d

abbrev pub or_of_eight : (ℕ → ℕ) → ℕ → ℕ
or_of_eight f n = bit_or (or_of_four (f n) (f (n + 1)) (f (n + 2)) (f (n + 3))) (or_of_four (f (n + 4)) (f (n + 5)) (f (n + 6)) (f (n + 7)))

-- each of four is at most what they are together
record AreBelow (a b c d whole : ℕ) : Type 0 where
  one : a ≤ whole
  two : b ≤ whole
  three : c ≤ whole
  four : d ≤ whole

below : (a b c d : ℕ) → AreBelow a b c d (or_of_four a b c d)
below a b c d =
    let ab = bit_or a b in
    let abc = bit_or ab c in
    record {
      one = omega (arith, le_or_l a b, le_or_l ab c, le_or_l abc d);
      two = omega (arith, le_or_r a b, le_or_l ab c, le_or_l abc d);
      three = omega (arith, le_or_r ab c, le_or_l abc d);
      four = le_or_r abc d;
    }

pub none_of_eight : (f : ℕ → ℕ) (n i : ℕ) → n ≤ i → i < n + 8 → or_of_eight f n ≡ 0 → f i ≡ 0
none_of_eight f n i from before is = by (i - n) (omega (arith, from)) (omega (arith, from, before))
  where
    front : AreBelow (f n) (f (n + 1)) (f (n + 2)) (f (n + 3)) (or_of_four (f n) (f (n + 1)) (f (n + 2)) (f (n + 3)))
    front = below (f n) (f (n + 1)) (f (n + 2)) (f (n + 3))

    behind : AreBelow (f (n + 4)) (f (n + 5)) (f (n + 6)) (f (n + 7)) (or_of_four (f (n + 4)) (f (n + 5)) (f (n + 6)) (f (n + 7)))
    behind = below (f (n + 4)) (f (n + 5)) (f (n + 6)) (f (n + 7))

    left : or_of_four (f n) (f (n + 1)) (f (n + 2)) (f (n + 3)) ≤ or_of_eight f n
    left = le_or_l (or_of_four (f n) (f (n + 1)) (f (n + 2)) (f (n + 3))) (or_of_four (f (n + 4)) (f (n + 5)) (f (n + 6)) (f (n + 7)))

    right : or_of_four (f (n + 4)) (f (n + 5)) (f (n + 6)) (f (n + 7)) ≤ or_of_eight f n
    right = le_or_r (or_of_four (f n) (f (n + 1)) (f (n + 2)) (f (n + 3))) (or_of_four (f (n + 4)) (f (n + 5)) (f (n + 6)) (f (n + 7)))

    here : (j : ℕ) → i ≡ j → f j ≡ 0 → f i ≡ 0
    here j at none = ap f at ∙ none

    by : (k : ℕ) → i ≡ n + k → k < 8 → f i ≡ 0
    by zero at less = here n (omega (arith, at)) (omega (arith, front.one, left, is))
    by (suc zero) at less = here (n + 1) (omega (arith, at)) (omega (arith, front.two, left, is))
    by (suc (suc zero)) at less = here (n + 2) (omega (arith, at)) (omega (arith, front.three, left, is))
    by (suc (suc (suc zero))) at less = here (n + 3) (omega (arith, at)) (omega (arith, front.four, left, is))
    by (suc (suc (suc (suc zero)))) at less = here (n + 4) (omega (arith, at)) (omega (arith, behind.one, right, is))
    by (suc (suc (suc (suc (suc zero))))) at less = here (n + 5) (omega (arith, at)) (omega (arith, behind.two, right, is))
    by (suc (suc (suc (suc (suc (suc zero)))))) at less = here (n + 6) (omega (arith, at)) (omega (arith, behind.three, right, is))
    by (suc (suc (suc (suc (suc (suc (suc zero))))))) at less = here (n + 7) (omega (arith, at)) (omega (arith, behind.four, right, is))
    by (suc (suc (suc (suc (suc (suc (suc (suc k)))))))) at less = absurd (omega (arith, less))

-- a bit that is 0 of eight numbers joined is 0 in each
pub no_bit_of_eight : (f : ℕ → ℕ) (n i bit : ℕ) → n ≤ i → i < n + 8 → bit_at (or_of_eight f n) bit ≡ 0 → bit_at (f i) bit ≡ 0
no_bit_of_eight f n i bit from before is = by (i - n) (omega (arith, from)) (omega (arith, from, before))
  where
    of_four : (a b c d : ℕ) → bit_at (or_of_four a b c d) bit ≡ 0 → (bit_at a bit ≡ 0) × (bit_at b bit ≡ 0) × (bit_at c bit ≡ 0) × (bit_at d bit ≡ 0)
    of_four a b c d none =
        let abc = left_none (bit_or (bit_or a b) c) d bit none in
        let ab = left_none (bit_or a b) c bit abc in
        (left_none a b bit ab, right_none a b bit ab, right_none (bit_or a b) c bit abc, right_none (bit_or (bit_or a b) c) d bit none)

    left : (bit_at (f n) bit ≡ 0) × (bit_at (f (n + 1)) bit ≡ 0) × (bit_at (f (n + 2)) bit ≡ 0) × (bit_at (f (n + 3)) bit ≡ 0)
    left = of_four (f n) (f (n + 1)) (f (n + 2)) (f (n + 3)) (left_none (or_of_four (f n) (f (n + 1)) (f (n + 2)) (f (n + 3))) (or_of_four (f (n + 4)) (f (n + 5)) (f (n + 6)) (f (n + 7))) bit is)

    right : (bit_at (f (n + 4)) bit ≡ 0) × (bit_at (f (n + 5)) bit ≡ 0) × (bit_at (f (n + 6)) bit ≡ 0) × (bit_at (f (n + 7)) bit ≡ 0)
    right = of_four (f (n + 4)) (f (n + 5)) (f (n + 6)) (f (n + 7)) (right_none (or_of_four (f n) (f (n + 1)) (f (n + 2)) (f (n + 3))) (or_of_four (f (n + 4)) (f (n + 5)) (f (n + 6)) (f (n + 7))) bit is)

    here : (j : ℕ) → i ≡ j → bit_at (f j) bit ≡ 0 → bit_at (f i) bit ≡ 0
    here j at none = ap (λ k. bit_at (f k) bit) at ∙ none

    by : (k : ℕ) → i ≡ n + k → k < 8 → bit_at (f i) bit ≡ 0
    by zero at less = here n (omega (arith, at)) left.0
    by (suc zero) at less = here (n + 1) (omega (arith, at)) left.1
    by (suc (suc zero)) at less = here (n + 2) (omega (arith, at)) left.2
    by (suc (suc (suc zero))) at less = here (n + 3) (omega (arith, at)) left.3
    by (suc (suc (suc (suc zero)))) at less = here (n + 4) (omega (arith, at)) right.0
    by (suc (suc (suc (suc (suc zero))))) at less = here (n + 5) (omega (arith, at)) right.1
    by (suc (suc (suc (suc (suc (suc zero)))))) at less = here (n + 6) (omega (arith, at)) right.2
    by (suc (suc (suc (suc (suc (suc (suc zero))))))) at less = here (n + 7) (omega (arith, at)) right.3
    by (suc (suc (suc (suc (suc (suc (suc (suc k)))))))) at less = absurd (omega (arith, less))
