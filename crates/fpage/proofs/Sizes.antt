-- The pages of an aligned fpage, by its size and its base in units of 1024 bytes.
use Rattle.std.proofs.Common.{◌≡◌, refl, ℕ, ◌+◌, ◌-◌, ◌*◌, ◌/◌, ◌%◌, ◌^◌, ◌<◌, ◌≤◌, arith, ap, ◌∙◌, sym, leb, ltb, ◌&&◌, IsTrue}
use Rattle.std.proofs.Math.Pow.{pow-lt, pow_mono, pow-add}
use Rattle.std.proofs.Math.Nat.{div-add-mod, mod-eq_of_lt, mul-mod_right}
use Rattle.std.proofs.lemmas.Bool.Decides.{nat_tests}
use Rattle.fpage.specs.Fpage.{is_aligned}
use Rattle.fpage.proofs.Alignments.{power_aligned}

-- the bytes of an fpage of 4096 bytes or more are those of its pages
pub pages_size : (s : ℕ) → 12 ≤ s → 2 ^ s ≡ 4096 * 2 ^ (s - 12)
pages_size s h = let split : s ≡ 12 + (s - 12) = omega arith in ap (λ n. 2 ^ n) split ∙ pow-add 2 12 (s - 12)

-- an fpage that ends within a space is no larger than it
pub size_within : (b s bits : ℕ) → 1024 * b + 2 ^ s ≤ 2 ^ bits → s ≤ bits
size_within b s bits h = grind (arith, pow-lt {i = bits} {j = s})

-- the base of an aligned fpage is a multiple of a page
aligned : (b s : ℕ) → 12 ≤ s → 1024 * b % 2 ^ s ≡ 0 → 1024 * b ≡ 4096 * (2 ^ (s - 12) * (1024 * b / 2 ^ s))
aligned b s h e =
    let whole : 2 ^ s * (1024 * b / 2 ^ s) ≡ 1024 * b = omega (arith, div-add-mod (1024 * b) (2 ^ s)) in
    let grouped : 4096 * 2 ^ (s - 12) * (1024 * b / 2 ^ s) ≡ 1024 * b = ap (λ n. n * (1024 * b / 2 ^ s)) (sym (pages_size s h)) ∙ whole in
    omega (arith, grouped)

-- its first page is a multiple of the number of its pages
pub base_even : (b s : ℕ) → 12 ≤ s → 1024 * b % 2 ^ s ≡ 0 → b / 4 % 2 ^ (s - 12) ≡ 0
base_even b s h e =
    let whole = aligned b s h e in
    let quarter : b / 4 ≡ 2 ^ (s - 12) * (1024 * b / 2 ^ s) = omega (arith, whole) in
    ap (λ x. x % 2 ^ (s - 12)) quarter ∙ mul-mod_right (2 ^ (s - 12)) (1024 * b / 2 ^ s)

-- a page lies in an aligned fpage where its bytes do
pub same_pages : (m b n bytes c g : ℕ) → 1024 * b ≡ 4096 * m → n ≡ b / 4 → bytes ≡ 4096 * c → (leb n g && ltb g (n + c)) ≡ (leb (1024 * b) (4096 * g) && ltb (4096 * g) (1024 * b + bytes))
same_pages m b n bytes c g e f p = grind (arith, nat_tests)

-- a shifted one keeps its value below the width
pub shifted : (k w : ℕ) → k < w → 1 * 2 ^ k % 2 ^ w ≡ 2 ^ k
shifted k w h = let small : 2 ^ k < 2 ^ w = pow-lt h in let one : 1 * 2 ^ k < 2 ^ w = omega arith in mod-eq_of_lt one ∙ omega arith

-- an aligned fpage that lies within a space, seen as pages
pub record Sized (bits s b : ℕ) : Type 0 where
  pub shift : s - 12 < 32
  pub count : 1 * 2 ^ (s - 12) % 4294967296 ≡ 2 ^ (s - 12)
  pub within : b / 4 + 2 ^ (s - 12) ≤ 2 ^ 20
  pub space : b / 4 + 2 ^ (s - 12) ≤ 2 ^ (bits - 12)
  pub aligned : IsTrue (is_aligned (b / 4) (2 ^ (s - 12)))
  pub pages : (g : ℕ) → (leb (b / 4) g && ltb g (b / 4 + 2 ^ (s - 12))) ≡ (leb (1024 * b) (4096 * g) && ltb (4096 * g) (1024 * b + 2 ^ s))

pub sized_pages : (bits s b : ℕ) → bits ≤ 32 → 12 ≤ s → 1024 * b % 2 ^ s ≡ 0 → 1024 * b + 2 ^ s ≤ 2 ^ bits → Sized bits s b
sized_pages bits s b low page even ends =
    let small : s ≤ bits = size_within b s bits ends in
    let whole : 2 ^ s ≡ 4096 * 2 ^ (s - 12) = pages_size s page in
    let space : 2 ^ bits ≤ 2 ^ 32 = pow_mono low in
    let pages : 2 ^ bits ≡ 4096 * 2 ^ (bits - 12) = pages_size bits (omega arith) in
    let short : s - 12 < 32 = omega arith in
    record {
      shift = short;
      count = shifted (s - 12) 32 short;
      within = omega arith;
      space = omega (arith, pages, whole, ends);
      aligned = power_aligned (b / 4) (s - 12) (base_even b s page even);
      pages = λ g. same_pages _ b (b / 4) (2 ^ s) (2 ^ (s - 12)) g (aligned b s page even) refl whole;
    }
