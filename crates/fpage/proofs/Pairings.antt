-- Which page of an item goes to which: the pairs that two runs list are the pairs of pages in one place of their blocks.
use Rattle.std.proofs.Common.{◌≡◌, ℕ, ◌+◌, ◌-◌, ◌*◌, ◌/◌, ◌%◌, ◌^◌, ◌==◌, ◌<◌, ◌≤◌, min, nat_lt, nat_le, true, false, Bool, ◌&&◌, ◌||◌, not, refl, sym, ap, ◌∙◌, subst, arith, ◌⊎◌, inl, inr, if◌then◌else◌, mul_assoc, mul_comm, mul-add, mul-le-mul_left, mod-lt, mod-eq_of_lt, pow_mono, pow_pos, pow-add}
use Rattle.std.proofs.Math.Nat.{div-add-mod, mul-add-mod_self_left, div-eq_of_lt-le}
use Rattle.std.proofs.lemmas.Nat.{div_below}
use Rattle.std.proofs.lemmas.Bool.{and_parts, and_from, and_left, cases_lt, leb-true, ltb-true, le-leb, lt-ltb, eqb-true, eq-eqb}
use Rattle.std.proofs.lemmas.Bool.Decides.{nat_tests}
use Rattle.fpage.specs.Fpage.{Flexpage, is_page_of}
use Rattle.fpage.specs.Item.{is_in_block, is_pair, block_of, run_start, pairs_of, is_pair_of}
use Rattle.fpage.specs.declared.item.Item.{Item}
use Rattle.fpage.proofs.Alignments.{IsAligned, no_pages, some_pages}
use Rattle.fpage.proofs.Truth.{same_truth}

-- ---- numbers

abbrev in_range : ℕ → ℕ → ℕ → Bool
in_range a b g = nat_le a g && nat_lt g b

range_from : (a b g : ℕ) → in_range a b g ≡ true → (a ≤ g) × (g < b)
range_from a b g is = let parts = and_parts (nat_le a g) (nat_lt g b) is in (leb-true a g parts.0, ltb-true g b parts.1)

range_to : (a b g : ℕ) → a ≤ g → g < b → in_range a b g ≡ true
range_to a b g low high = and_from (nat_le a g) (nat_lt g b) (le-leb a g low) (lt-ltb g b high)

no_range : (a n g : ℕ) → n ≡ 0 → in_range a (a + n) g ≡ false
no_range a n g none = grind (arith, nat_tests)

-- the numbers of a block of n
block_from : (n b d : ℕ) → 0 < n → d / n ≡ b → (n * b ≤ d) × (d < n * b + n)
block_from n b d some is =
    let whole : n * b + d % n ≡ d = subst (λ x. n * x + d % n ≡ d) is (div-add-mod d n) in
    let small : d % n < n = mod-lt d some in
    (omega arith, omega arith)

block_to : (n b d : ℕ) → 0 < n → n * b ≤ d → d < n * b + n → d / n ≡ b
block_to n b d some low high = div-eq_of_lt-le n (subst (λ x. x ≤ d) (mul_comm n b) low) (subst (λ x. d < x) (next ∙ mul_comm n (b + 1)) high)
  where
    next : n * b + n ≡ n * (b + 1)
    next = omega arith

-- a number of a run of n from a multiple of n on
mod_in_run : (n s start p : ℕ) → start ≡ n * s → start ≤ p → p < start + n → p % n ≡ p - start
mod_in_run n s start p even low high =
    let whole : p ≡ n * s + (p - start) = omega arith in
    let small : p - start < n = omega arith in
    ap (λ x. x % n) whole ∙ mul-add-mod_self_left n s (p - start) ∙ mod-eq_of_lt small

-- the pages of a block of an fpage
block_run : (first count n blk g : ℕ) → 0 < n → n * blk + n ≤ count → (in_range first (first + count) g && ((g - first) / n == blk)) ≡ in_range (first + n * blk) (first + n * blk + n) g
block_run first count n blk g some fits = same_truth _ _ there back
  where
    there : (in_range first (first + count) g && ((g - first) / n == blk)) ≡ true → in_range (first + n * blk) (first + n * blk + n) g ≡ true
    there is =
        let parts = and_parts (in_range first (first + count) g) ((g - first) / n == blk) is in
        let range = range_from first (first + count) g parts.0 in
        let block = block_from n blk (g - first) some (eqb-true ((g - first) / n) blk parts.1) in
        range_to (first + n * blk) (first + n * blk + n) g (omega (arith, range.0, block.0)) (omega (arith, range.0, block.1))

    back : in_range (first + n * blk) (first + n * blk + n) g ≡ true → (in_range first (first + count) g && ((g - first) / n == blk)) ≡ true
    back is =
        let range = range_from (first + n * blk) (first + n * blk + n) g is in
        and_from _ _ (range_to first (first + count) g (omega (arith, range.0)) (omega (arith, range.1, fits)))
        (eq-eqb ((g - first) / n) blk (block_to n blk (g - first) some (omega (arith, range.0)) (omega (arith, range.0, range.1))))

-- two pages at one place of runs that begin at multiples of n
one_place : (n s t a b p q : ℕ) → a ≡ n * s → b ≡ n * t → (in_range a (a + n) p && in_range b (b + n) q && (p % n == q % n)) ≡ (in_range a (a + n) p && (p + b == q + a))
one_place n s t a b p q even_a even_b = same_truth _ _ there back
  where
    there : (in_range a (a + n) p && in_range b (b + n) q && (p % n == q % n)) ≡ true → (in_range a (a + n) p && (p + b == q + a)) ≡ true
    there is =
        let both = and_parts (in_range a (a + n) p && in_range b (b + n) q) (p % n == q % n) is in
        let ranges = and_parts (in_range a (a + n) p) (in_range b (b + n) q) both.0 in
        let source = range_from a (a + n) p ranges.0 in
        let target = range_from b (b + n) q ranges.1 in
        let level : p - a ≡ q - b = sym (mod_in_run n s a p even_a source.0 source.1) ∙ eqb-true (p % n) (q % n) both.1 ∙ mod_in_run n t b q even_b target.0 target.1 in
        and_from _ _ ranges.0 (eq-eqb (p + b) (q + a) (level_sum p q level source.0 target.0))
      where
        level_sum : (p q : ℕ) → p - a ≡ q - b → a ≤ p → b ≤ q → p + b ≡ q + a
        level_sum p q level low_p low_q = omega arith

    back : (in_range a (a + n) p && (p + b == q + a)) ≡ true → (in_range a (a + n) p && in_range b (b + n) q && (p % n == q % n)) ≡ true
    back is =
        let parts = and_parts (in_range a (a + n) p) (p + b == q + a) is in
        let source = range_from a (a + n) p parts.0 in
        let level : p + b ≡ q + a = eqb-true (p + b) (q + a) parts.1 in
        let from : a ≤ p = source.0 in
        let upto : p < a + n = source.1 in
        let low : b ≤ q = omega arith in
        let high : q < b + n = omega arith in
        let same : p - a ≡ q - b = omega arith in
        and_from _ _ (and_from _ _ parts.0 (range_to b (b + n) q low high)) (eq-eqb (p % n) (q % n) (mod_in_run n s a p even_a from upto ∙ same ∙ sym (mod_in_run n t b q even_b low high)))

-- ---- fpages

-- an fpage of whole blocks of n pages
record IsOfBlocks (n : ℕ) (f : Flexpage) : Type 0 where
  blocks : ℕ
  before : ℕ
  count : f.count ≡ n * blocks
  first : f.first ≡ n * before

of_blocks : (f : Flexpage) (i k : ℕ) → i ≤ k → f.count ≡ 2 ^ k → f.first % f.count ≡ 0 → IsOfBlocks (2 ^ i) f
of_blocks f i k upto count even =
    let split : k ≡ i + (k - i) = omega arith in
    let blocks : f.count ≡ 2 ^ i * 2 ^ (k - i) = count ∙ ap (λ x. 2 ^ x) split ∙ pow-add 2 i (k - i) in
    let whole : f.count * (f.first / f.count) ≡ f.first = omega (arith, div-add-mod f.first f.count, even) in
    record {
      blocks = 2 ^ (k - i);
      before = 2 ^ (k - i) * (f.first / f.count);
      count = blocks;
      first = sym whole ∙ ap (λ x. x * (f.first / f.count)) blocks ∙ mul_assoc (2 ^ i) (2 ^ (k - i)) (f.first / f.count);
    }

module _ (base n : ℕ) (some : 0 < n) (f : Flexpage) (whole : IsOfBlocks n f) (upto : n ≤ f.count) where
  -- the block that the send base picks is one of the fpage's
  block_fits : n * block_of base f n + n ≤ f.count
  block_fits =
      let rest : base % f.count < f.count = mod-lt base (omega (arith, upto, some)) in
      let small : base % f.count < whole.blocks * n = subst (λ x. base % f.count < x) (whole.count ∙ mul_comm n whole.blocks) rest in
      let below : block_of base f n + 1 ≤ whole.blocks = omega (arith, div_below (base % f.count) n whole.blocks some small) in
      let product : n * (block_of base f n + 1) ≤ n * whole.blocks = mul-le-mul_left n below in
      omega (arith, product, whole.count)

  -- the pages of the fpage in the block that the send base picks are a run of n pages
  run_pages : (g : ℕ) → (is_page_of f g && is_in_block base f n g) ≡ in_range (run_start base f n) (run_start base f n + n) g
  run_pages g = by (nat_lt n f.count) refl
    where
      all_pages : (a b c : ℕ) → nat_lt a b ≡ false → a ≤ b → (in_range c (c + b) g && true) ≡ in_range c (c + a) g
      all_pages a b c most upto = grind (arith, nat_tests)

      by : (b : Bool) → nat_lt n f.count ≡ b → (is_page_of f g && (not b || ((g - f.first) / n == block_of base f n)))
          ≡ in_range (if b then f.first + n * block_of base f n else f.first) ((if b then f.first + n * block_of base f n else f.first) + n) g
      by false all = all_pages n f.count f.first all upto
      by true less = block_run f.first f.count n (block_of base f n) g some block_fits

  -- it begins at a multiple of n
  run_even : (s : ℕ) × (run_start base f n ≡ n * s)
  run_even = by (nat_lt n f.count)
    where
      by : (b : Bool) → (s : ℕ) × ((if b then f.first + n * block_of base f n else f.first) ≡ n * s)
      by false = (whole.before, whole.first)
      by true = (whole.before + block_of base f n, ap (λ x. x + n * block_of base f n) whole.first ∙ sym (mul-add n whole.before (block_of base f n)))

regroup : (a b c d e : Bool) → (a && b && c && d && e) ≡ ((a && d) && (b && e) && c)
regroup a b c d e = grind arith

first_fails : (a b c d e : Bool) → a ≡ false → (a && b && c && d && e) ≡ false
first_fails a b c d e fails = grind arith

second_fails : (a b c d e : Bool) → b ≡ false → (a && b && c && d && e) ≡ false
second_fails a b c d e fails = grind arith

module _ (item : Item) (window : Flexpage) (p q : ℕ) where
  -- whether two pages pair, where the smaller of the two fpages has n pages
  is_pair_by : ℕ → Bool
  is_pair_by n = is_page_of item.sent p && is_page_of window q && (p % n == q % n) && is_in_block item.base item.sent n p && is_in_block item.base window n q

  is_listed_by : ℕ → Bool
  is_listed_by n = is_pair_of (record { source = run_start item.base item.sent n; target = run_start item.base window n; count = n }) p q

  pairs_by : (n : ℕ) → 0 < n → IsOfBlocks n item.sent → IsOfBlocks n window → n ≤ item.sent.count → n ≤ window.count → is_pair_by n ≡ is_listed_by n
  unfolding is_pair_by is_listed_by
  pairs_by n some sent_whole window_whole sent_upto window_upto =
      let s = run_even item.base n some item.sent sent_whole sent_upto in
      let t = run_even item.base n some window window_whole window_upto in
      regroup (is_page_of item.sent p) (is_page_of window q) (p % n == q % n) (is_in_block item.base item.sent n p) (is_in_block item.base window n q)
      ∙ (λ i. run_pages item.base n some item.sent sent_whole sent_upto p i && run_pages item.base n some window window_whole window_upto q i && (p % n == q % n))
      ∙ one_place n s.0 t.0 (run_start item.base item.sent n) (run_start item.base window n) p q s.1 t.1

  no_pairs : (n : ℕ) → n ≡ 0 → (item.sent.count ≡ 0) ⊎ (window.count ≡ 0) → is_pair_by n ≡ is_listed_by n
  unfolding is_pair_by is_listed_by
  no_pairs n none which = by which ∙ sym (and_left _ (p + run_start item.base window n == q + run_start item.base item.sent n) (no_range (run_start item.base item.sent n) n p none))
    where
      by : (item.sent.count ≡ 0) ⊎ (window.count ≡ 0) → is_pair_by n ≡ false
      by (inl no_sent) = first_fails _ (is_page_of window q) (p % n == q % n) (is_in_block item.base item.sent n p) (is_in_block item.base window n q) (no_range item.sent.first item.sent.count p no_sent)
      by (inr no_window) = second_fails (is_page_of item.sent p) _ (p % n == q % n) (is_in_block item.base item.sent n p) (is_in_block item.base window n q) (no_range window.first window.count q no_window)

  module _ (i j : ℕ) (sent_count : item.sent.count ≡ 2 ^ i) (window_count : window.count ≡ 2 ^ j) (sent_even : item.sent.first % item.sent.count ≡ 0) (window_even : window.first % window.count ≡ 0) where
    powers_by : (k : ℕ) → k ≤ i → k ≤ j → min item.sent.count window.count ≡ 2 ^ k → is_pair_by (min item.sent.count window.count) ≡ is_listed_by (min item.sent.count window.count)
    powers_by k upto_i upto_j is =
        let some : 0 < 2 ^ k = pow_pos k in
        let sent_upto : 2 ^ k ≤ item.sent.count = omega arith in
        let window_upto : 2 ^ k ≤ window.count = omega arith in
        subst (λ n. is_pair_by n ≡ is_listed_by n) (sym is)
        (pairs_by (2 ^ k) some (of_blocks item.sent k i upto_i sent_count sent_even) (of_blocks window k j upto_j window_count window_even) sent_upto window_upto)

    powers : is_pair_by (min item.sent.count window.count) ≡ is_listed_by (min item.sent.count window.count)
    powers = by (cases_lt i j)
      where
        by : (i < j) ⊎ (j ≤ i) → is_pair_by (min item.sent.count window.count) ≡ is_listed_by (min item.sent.count window.count)
        by (inl less) =
            let upto : i ≤ j = omega arith in
            let larger : 2 ^ i ≤ 2 ^ j = pow_mono upto in
            powers_by i (omega arith) upto (omega arith)
        by (inr upto) =
            let larger : 2 ^ j ≤ 2 ^ i = pow_mono upto in
            powers_by j upto (omega arith) (omega arith)

  -- a page of the item goes to a page of the window where the two runs list the pair
  pub same_pairs : IsAligned item.sent → IsAligned window → is_pair item window p q ≡ is_pair_of (pairs_of item window) p q
  unfolding is_pair_by is_listed_by
  same_pairs (no_pages none) window_even = no_pairs (min item.sent.count window.count) (omega arith) (inl none)
  same_pairs (some_pages i sent_count sent_even) (no_pages none) = no_pairs (min item.sent.count window.count) (omega arith) (inr none)
  same_pairs (some_pages i sent_count sent_even) (some_pages j window_count window_even) = powers i j sent_count window_count sent_even window_even
