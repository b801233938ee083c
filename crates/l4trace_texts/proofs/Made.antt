-- The words that are made of their parts read back.
use Rattle.std.proofs.Common.{◌≡◌, ℕ, ◌+◌, ◌*◌, ◌/◌, ◌%◌, ◌<◌, ◌==◌, nat_lt, ◌&&◌, Bool, true, false, if◌then◌else◌, Result, Ok, Err, refl, ◌∙◌, arith, eq-eqb}
use Rattle.std.proofs.lemmas.Bool.{ne_eqb, le-ltb}
use Rattle.fpage.specs.Rights.{number, of_bits}
use Rattle.fpage.specs.declared.rights.Rights.{Rights}
use Rattle.fpage.specs.declared.error.FpageError.{FpageError}
use Rattle.fpage.specs.declared.error.FpageError.TheVariants.{BadSize}
use Rattle.fpage.specs.Fpage.{Flexpage, base_of, size_of, pages_of_space, read_fpage, read_sized}
use Rattle.l4trace_texts.specs.declared.make.Size.{Size}
use Rattle.l4trace_texts.specs.declared.make.Size.TheVariants.{Nil, Complete, Bytes}
use Rattle.l4trace_texts.specs.Asked.{IsSize, size_field, sized_fpage, asked_fpage}

-- the number of a bit
abbrev bit : Bool → ℕ
bit b = if b then 1 else 0

bit_is : (n : ℕ) (b : Bool) → n ≡ bit b → (n == 1) ≡ b
bit_is n true is = eq-eqb n 1 is
bit_is n false is = ne_eqb n 1 (λ one. absurd (omega arith))

-- the number of three rights
abbrev three : Bool → Bool → Bool → ℕ
three a b c = (if a then 4 else 0) + (if b then 2 else 0) + (if c then 1 else 0)

rights_of : (a b c : Bool) (w : ℕ) → w / 4 % 2 ≡ bit a → w / 2 % 2 ≡ bit b → w % 2 ≡ bit c → of_bits w ≡ record { read = a; write = b; execute = c }
rights_of a b c w is_read is_write is_execute = λ i. record { read = bit_is _ a is_read i; write = bit_is _ b is_write i; execute = bit_is _ c is_execute i }

bits_made : (k w : ℕ) (a b c : Bool) → w ≡ 8 * k + three a b c → of_bits w ≡ record { read = a; write = b; execute = c }
bits_made k w true true true is = rights_of true true true w (omega arith) (omega arith) (omega arith)
bits_made k w true true false is = rights_of true true false w (omega arith) (omega arith) (omega arith)
bits_made k w true false true is = rights_of true false true w (omega arith) (omega arith) (omega arith)
bits_made k w true false false is = rights_of true false false w (omega arith) (omega arith) (omega arith)
bits_made k w false true true is = rights_of false true true w (omega arith) (omega arith) (omega arith)
bits_made k w false true false is = rights_of false true false w (omega arith) (omega arith) (omega arith)
bits_made k w false false true is = rights_of false false true w (omega arith) (omega arith) (omega arith)
bits_made k w false false false is = rights_of false false false w (omega arith) (omega arith) (omega arith)

three_small : (a b c : Bool) → three a b c < 8
three_small true true true = omega arith
three_small true true false = omega arith
three_small true false true = omega arith
three_small true false false = omega arith
three_small false true true = omega arith
three_small false true false = omega arith
three_small false false true = omega arith
three_small false false false = omega arith

-- the number of rights has three bits
pub number_small : (r : Rights) → number r < 8
number_small r = three_small r.read r.write r.execute

-- the nilpage
abbrev nilpage : Rights → Flexpage
nilpage rights = record { first = 0; count = 0; rights = rights }

-- the complete space
abbrev complete : ℕ → Rights → Flexpage
complete bits rights = record { first = 0; count = pages_of_space bits; rights = rights }

-- a word is read by its size field, its base and its rights
abbrev read_parts : ℕ → ℕ → ℕ → Rights → Result Flexpage FpageError
read_parts bits size base rights =
    if (size == 0) && (base == 0) then Ok (nilpage rights)
    else if (size == 1) && (base == 0) then Ok (complete bits rights)
    else if nat_lt size 12 then Err BadSize
    else read_sized bits size base rights

parts_made : (bits base : ℕ) (rights : Rights) (size : Size) → IsSize size → read_parts bits (size_field size) base rights ≡ sized_fpage bits base rights size
parts_made bits base rights Nil _ = by (base == 0)
  where
    by : (none : Bool) → (if true && none then Ok (nilpage rights) else if false && none then Ok (complete bits rights) else Err BadSize) ≡ (if none then Ok (nilpage rights) else Err BadSize)
    by true = refl
    by false = refl
parts_made bits base rights Complete _ = by (base == 0)
  where
    by : (none : Bool) → (if false && none then Ok (nilpage rights) else if true && none then Ok (complete bits rights) else Err BadSize) ≡ (if none then Ok (complete bits rights) else Err BadSize)
    by true = refl
    by false = refl
parts_made bits base rights (Bytes s) size =
    let not_nil : (s == 0) ≡ false = ne_eqb s 0 (λ nil. absurd (omega arith)) in
    let not_complete : (s == 1) ≡ false = ne_eqb s 1 (λ complete. absurd (omega arith)) in
    let page : nat_lt s 12 ≡ false = le-ltb s 12 size.0 in
    rw (not_nil, not_complete, page) refl

size_made : (base s n : ℕ) → base % 1024 ≡ 0 → s < 64 → n < 8 → (base + 16 * s + n) / 16 % 64 ≡ s
size_made base s n whole small few = omega arith

base_made : (base s n : ℕ) → base % 1024 ≡ 0 → s < 64 → n < 8 → (base + 16 * s + n) / 1024 ≡ base / 1024
base_made base s n whole small few = omega arith

bits_split : (base s n : ℕ) → base % 1024 ≡ 0 → base + 16 * s + n ≡ 8 * (128 * (base / 1024) + 2 * s) + n
bits_split base s n whole = omega arith

-- the word of an fpage is read as the fpage that was asked for
pub fpage_made : (bits base s : ℕ) (size : Size) (rights : Rights) → IsSize size → base % 1024 ≡ 0 → s ≡ size_field size → s < 64
    → read_fpage bits (base + 16 * s + number rights) ≡ asked_fpage bits base rights size
fpage_made bits base s size rights is_size whole field small =
    let word = base + 16 * s + number rights in
    let is_of_size : size_of word ≡ s = size_made base s (number rights) whole small (number_small rights) in
    let is_from : base_of word ≡ base / 1024 = base_made base s (number rights) whole small (number_small rights) in
    let has : of_bits word ≡ rights = bits_made (128 * (base / 1024) + 2 * s) word rights.read rights.write rights.execute (bits_split base s (number rights) whole) in
    let parts : read_parts bits (size_of word) (base_of word) (of_bits word) ≡ read_parts bits (size_field size) (base / 1024) rights = λ i. read_parts bits ((is_of_size ∙ field) i) (is_from i) (has i) in
    let read : read_parts bits (size_field size) (base / 1024) rights ≡ sized_fpage bits (base / 1024) rights size = parts_made bits (base / 1024) rights size is_size in
    parts ∙ read ∙ asked (eq-eqb (base % 1024) 0 whole)
  where
    asked : (base % 1024 == 0) ≡ true → sized_fpage bits (base / 1024) rights size ≡ asked_fpage bits base rights size
    asked is = rw is refl
