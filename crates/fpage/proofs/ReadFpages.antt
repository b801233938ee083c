-- An fpage that is read is aligned.
use Rattle.std.proofs.Common.{◌≡◌, ℕ, ◌+◌, ◌-◌, ◌*◌, ◌/◌, ◌%◌, ◌^◌, ◌==◌, ◌≤◌, nat_lt, true, false, Bool, not, Ok, Err, refl, subst, if◌then◌else◌}
use Rattle.std.proofs.Math.Nat.{zero-mod}
use Rattle.std.proofs.lemmas.Bool.{ltb-false, eqb-true}
use Rattle.fpage.specs.Rights.{of_bits}
use Rattle.fpage.specs.declared.rights.Rights.{Rights}
use Rattle.fpage.specs.declared.error.FpageError.TheVariants.{BadSize, Misaligned, OutOfSpace}
use Rattle.fpage.specs.Fpage.{Flexpage, base_of, size_of, is_nil_word, is_complete_word, pages_of_space, read_sized, read_fpage}
use Rattle.fpage.proofs.Sizes.{base_even}
use Rattle.fpage.proofs.Alignments.{IsAligned, no_pages, some_pages}

sized_aligned : (bits s b : ℕ) (rights : Rights) (f : Flexpage) → 12 ≤ s → read_sized bits s b rights ≡ Ok f → IsAligned f
sized_aligned bits s b rights f page is = by (1024 * b % 2 ^ s == 0) refl (nat_lt (2 ^ bits) (1024 * b + 2 ^ s)) is
  where
    by : (x : Bool) → (1024 * b % 2 ^ s == 0) ≡ x → (y : Bool) → (if not x then Err Misaligned else if y then Err OutOfSpace else Ok (record { first = b / 4; count = 2 ^ (s - 12); rights = rights })) ≡ Ok f → IsAligned f
    by false _ y is = absurd (cc is)
    by true _ true is = absurd (cc is)
    by true none false is =
        let same : record { first = b / 4; count = 2 ^ (s - 12); rights = rights } ≡ f = cc is in
        subst IsAligned same (some_pages (s - 12) refl (base_even b s page (eqb-true (1024 * b % 2 ^ s) 0 none)))

-- an fpage that is read is aligned
pub aligned_read : (bits word : ℕ) (f : Flexpage) → read_fpage bits word ≡ Ok f → IsAligned f
aligned_read bits word f is = by (is_nil_word word) (is_complete_word word) (nat_lt (size_of word) 12) refl is
  where
    by : (nil complete small : Bool) → nat_lt (size_of word) 12 ≡ small
        → (if nil then Ok (record { first = 0; count = 0; rights = of_bits word })
        else if complete then Ok (record { first = 0; count = pages_of_space bits; rights = of_bits word })
        else if small then Err BadSize
        else read_sized bits (size_of word) (base_of word) (of_bits word)) ≡ Ok f → IsAligned f
    by true complete small _ is =
        let same : record { first = 0; count = 0; rights = of_bits word } ≡ f = cc is in
        subst IsAligned same (no_pages refl)
    by false true small _ is =
        let same : record { first = 0; count = pages_of_space bits; rights = of_bits word } ≡ f = cc is in
        subst IsAligned same (some_pages (bits - 12) refl (zero-mod (pages_of_space bits)))
    by false false true _ is = absurd (cc is)
    by false false false large is = sized_aligned bits (size_of word) (base_of word) (of_bits word) f (ltb-false (size_of word) 12 large) is
