-- Fpage words (L4 X.2, Fpage): which pages a word names, and when it is refused.
use Rattle.std.specs.Prelude.{ℕ, ◌+◌, ◌-◌, ◌*◌, ◌/◌, ◌%◌, ◌^◌, ◌≤◌, ◌==◌, ◌&&◌, ◌||◌, nat_lt, nat_le, Bool, false, not, if◌then◌else◌, Result, Ok, Err}
use Rattle.std.specs.Int.{is_power_of_two}
use Rattle.fpage.specs.Rights.{of_bits}
use Rattle.fpage.specs.declared.rights.Rights.{Rights}
use Rattle.fpage.specs.declared.error.FpageError.{FpageError}
use Rattle.fpage.specs.declared.error.FpageError.TheVariants.{BadSize, Misaligned, OutOfSpace}

-- what an fpage stands for: its first page, how many pages it has, and its rights. Pages have 4096 bytes, and bit 3 of
-- a word is ignored (profile)
pub record Flexpage : Type 0 where
  pub first : ℕ
  pub count : ℕ
  pub rights : Rights

-- bits 10 to 31 hold base / 1024 (Fpage)
abbrev pub base_of : ℕ → ℕ
base_of word = word / 1024

-- bits 4 to 9 hold s, and the fpage has 2^s bytes (Fpage)
abbrev pub size_of : ℕ → ℕ
size_of word = word / 16 % 64

-- s = 0 with base 0 is the nilpage (Fpage), whatever r, w, x are (profile)
abbrev pub is_nil_word : ℕ → Bool
is_nil_word word = (size_of word == 0) && (base_of word == 0)

-- s = 1 with base 0 is the complete address space (Fpage)
abbrev pub is_complete_word : ℕ → Bool
is_complete_word word = (size_of word == 1) && (base_of word == 0)

-- how many pages a space of 2^bits bytes has
abbrev pub pages_of_space : ℕ → ℕ
pages_of_space bits = 2 ^ (bits - 12)

-- the first byte of page g is one of the 2^size bytes from the base
abbrev pub starts_within : ℕ → ℕ → ℕ → Bool
starts_within size base g = nat_le (1024 * base) (4096 * g) && nat_lt (4096 * g) (1024 * base + 2 ^ size)

-- page g is one of the pages of a word in a space of 2^bits bytes
abbrev pub is_page : ℕ → ℕ → ℕ → Bool
is_page bits word g =
    if is_nil_word word then false
    else if is_complete_word word then nat_lt g (pages_of_space bits)
    else starts_within (size_of word) (base_of word) g

-- the fpage of 2^size bytes, a page at least, from a base in units of 1024 bytes, or the first refusal that fits
abbrev pub read_sized : ℕ → ℕ → ℕ → Rights → Result Flexpage FpageError
read_sized bits size base rights =
    if not (1024 * base % 2 ^ size == 0) then Err Misaligned
    else if nat_lt (2 ^ bits) (1024 * base + 2 ^ size) then Err OutOfSpace
    else Ok (record { first = base / 4; count = 2 ^ (size - 12); rights = rights })

-- the fpage of a word, or the first refusal that fits (the refusals: profile)
abbrev pub read_fpage : ℕ → ℕ → Result Flexpage FpageError
read_fpage bits word =
    if is_nil_word word then Ok (record { first = 0; count = 0; rights = of_bits word })
    else if is_complete_word word then Ok (record { first = 0; count = pages_of_space bits; rights = of_bits word })
    else if nat_lt (size_of word) 12 then Err BadSize
    else read_sized bits (size_of word) (base_of word) (of_bits word)

-- page g is one of the count pages from the first on
abbrev pub is_page_of : Flexpage → ℕ → Bool
is_page_of f g = nat_le f.first g && nat_lt g (f.first + f.count)

-- what holds of every fpage: it has no pages, or a power of two of them, which begin at a multiple of their number
-- (Fpage)
abbrev pub is_aligned : ℕ → ℕ → Bool
is_aligned first count = (count == 0) || (is_power_of_two count && (first % count == 0))

-- a space has 64 to 1,048,576 pages (profile)
pub record IsSpaceBits (bits : ℕ) : Type 0 where
  pub low : 18 ≤ bits
  pub high : bits ≤ 32

-- an fpage whose pages lie within a space of 2^bits bytes
abbrev pub IsFpageOf : ℕ → Flexpage → Type 0
IsFpageOf bits f = f.first + f.count ≤ pages_of_space bits
