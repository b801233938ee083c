-- The complete space names every page of a space that is held.
use Rattle.std.proofs.Common.{◌≡◌, ℕ, ◌+◌, ◌<◌, ◌≤◌, ◌&&◌, nat_le, true, Bool, Option, Some, None, refl, sym, ap, subst, arith}
use Rattle.std.specs.Option.{is_some}
use Rattle.std.specs.Prelude.{Result, Ok, Err, IfOk}
use Rattle.std.proofs.lemmas.Bool.Decides.{nat_tests}
use Rattle.fpage.specs.Fpage.{Flexpage, IsSpaceBits, IsFpageOf, pages_of_space, is_page_of, read_fpage}
use Rattle.fpage.specs.Rights.{all_rights}
use Rattle.fpage.specs.declared.rights.Rights.{Rights}
use Rattle.space.specs.Directory.{pages_of}
use Rattle.space.specs.declared.place.Place.{Place}
use Rattle.model.specs.Definitions.Answers.{pages_in, in_space}
use Rattle.model.specs.Definitions.Calls.{Limits}
use Rattle.model.specs.Definitions.Holdings.{Held, at, is_held}
use Rattle.model.specs.Definitions.Records.{are_limits}
use Rattle.holdings.specs.Contents.{Contents, IsConsistent, IsStripped}
use Rattle.holdings.specs.Places.{listing}
use Rattle.holdings.proofs.Contents.Listing.{listed_within}
use Rattle.holdings.proofs.Stripping.HeldSets.{stripped_same}

-- all pages of a space, with all rights
abbrev pub complete_of : ℕ → Flexpage
complete_of bits = record { first = 0; count = pages_of_space bits; rights = all_rights }

-- they lie within the space
pub complete_within : (bits : ℕ) (f : Flexpage) → f ≡ complete_of bits → IsFpageOf bits f
complete_within bits f is = subst (IsFpageOf bits) (sym is) (all (pages_of_space bits))
  where
    all : (n : ℕ) → 0 + n ≤ n
    all n = omega (arith)

-- they are what the word 0x17 names
pub complete_read : (bits : ℕ) → read_fpage bits 23 ≡ Ok (complete_of bits)
complete_read bits = refl

-- spaces whose limits are served have so many bits
pub served_bits : (limits : Limits) → are_limits limits ≡ true → IsSpaceBits limits.bits
served_bits limits served = let bits = by limits.spaces limits.bits limits.frames (pages_of_space limits.bits) served in record { low = bits.0; high = bits.1 }
  where
    by : (s b f n : ℕ) → (nat_le 2 s && nat_le s 512 && nat_le 18 b && nat_le b 32 && nat_le 1 f && nat_le f n) ≡ true → (18 ≤ b) × (b ≤ 32)
    by s b f n is = grind (arith, nat_tests)

module _ (old : Contents) (consistent : IsConsistent old) (space : ℕ) where
  -- a page that is held is one of its space
  held_page : (p : Place) → is_held old.holdings p ≡ true → p.page < pages_of old.limits.bits
  held_page p held = by (at old.holdings p) (ap (λ h. at h p) (sym consistent.listed)) held
    where
      by : (m : Option Held) → at (listing old.limits (at old.holdings)) p ≡ m → is_some m ≡ true → p.page < pages_of old.limits.bits
      by None none is = absurd (cc is)
      by (Some m) is there = (listed_within (at old.holdings) old.limits p m is).0.page

  named : (p : Place) → is_held old.holdings p ≡ true → pages_in space (complete_of old.limits.bits) p ≡ in_space space p
  named p held = all (in_space space p) (is_page_of (complete_of old.limits.bits) p.page) (there p.page (pages_of old.limits.bits) (held_page p held))
    where
      all : (a b : Bool) → b ≡ true → (a && b) ≡ a
      all a b is = grind (arith, is)

      there : (page count : ℕ) → page < count → is_page_of (record { first = 0; count = count; rights = all_rights }) page ≡ true
      there page count below = grind (arith, nat_tests, below)

  -- what is stripped of the complete space is stripped of the space
  pub whole_stripped : (f : Flexpage) → f ≡ complete_of old.limits.bits → {E : Type 0} (r : Result (Contents × Rights) E) → IfOk r (IsStripped old (pages_in space f) f.rights true) → IfOk r (IsStripped old (in_space space) all_rights true)
  whole_stripped f is (Ok r) stripped = stripped_same old (pages_in space (complete_of old.limits.bits)) (in_space space) consistent.lawful named all_rights true r (subst (λ (w : Flexpage). IsStripped old (pages_in space w) w.rights true r) is stripped)
  whole_stripped f is (Err e) stripped = stripped
