-- The entry word, field by field.
use Rattle.std.proofs.Common.{◌≡◌, true, false, Bool, ◌||◌, refl, sym, ◌∙◌, ap, subst, arith, ℕ, ◌+◌, ◌-◌, ◌*◌, ◌/◌, ◌%◌, ◌^◌, ◌<◌, Some, None, IsTrue}
use Rattle.std.proofs.Common.{ne_eqb, eq-eqb, eqb-true, ◌==◌}
use Rattle.std.specs.Prelude.{bit_or, if◌then◌else◌, ◌&&◌, Option}
use Rattle.std.specs.Int.Bits.{or_zero_r}
use Rattle.std.proofs.lemmas.Bool.{and_parts, and_from, or_right}
use Rattle.std.proofs.lemmas.Nat.{or_block}
use Rattle.std.proofs.lemmas.Bool.Decides.{nat_tests}
use Rattle.std.specs.Option.{option_map, option_and_then}
use Rattle.std.proofs.lemmas.Option.{same_Some}
use Rattle.fpage.specs.Rights.{number, of_bits, join, meet, is_empty, no_rights}
use Rattle.fpage.specs.declared.rights.Rights.{Rights}
use Rattle.space.specs.declared.place.Entry.{Entry}
use Rattle.space.specs.Word.{word_of, entry_of, is_pack, FrameFits, marked}
use Rattle.space.specs.Entries.{mapped, narrowed, rights_left}
use Rattle.space.specs.EntryLaws.{UnpackGivesBack, PackGivesBack, WordsAreDistinct, FieldsOfWord, OrAddsStatus, PackGainsStatus}

-- ---- three bits

pub number_small : (r : Rights) → number r < 8
number_small r = grind arith

-- a set by its number
pub bits_number : (r : Rights) → of_bits (number r) ≡ r
bits_number r = by r.read r.write r.execute
  where
    by : (a b c : Bool) → of_bits (number (record { read = a; write = b; execute = c })) ≡ record { read = a; write = b; execute = c }
    by true true true = refl
    by true true false = refl
    by true false true = refl
    by true false false = refl
    by false true true = refl
    by false true false = refl
    by false false true = refl
    by false false false = refl

-- the number of a set that three bits spell
pub number_bits : (n : ℕ) → n < 8 → number (of_bits n) ≡ n
number_bits n small = grind (arith, nat_tests)

bit : Bool → ℕ
bit b = if b then 1 else 0

or_bit : (a b : Bool) → bit_or (bit a) (bit b) ≡ bit (a || b)
unfolding bit
or_bit true true = refl
or_bit true false = refl
or_bit false true = refl
or_bit false false = refl

bit_small : (b : Bool) → bit b < 2 ^ 1
unfolding bit
bit_small true = omega arith
bit_small false = omega arith

-- a number by its bits
number_is : (r : Rights) → number r ≡ (bit r.read * 2 ^ 1 + bit r.write) * 2 ^ 1 + bit r.execute
unfolding bit
number_is r = grind arith

-- the number of a union is "or" of the numbers
pub or_number : (r s : Rights) → bit_or (number r) (number s) ≡ number (join r s)
or_number r s =
    rw (
      number_is r,
      number_is s,
      number_is (join r s),
      or_block 1 (bit r.read * 2 ^ 1 + bit r.write) (bit s.read * 2 ^ 1 + bit s.write) (bit r.execute) (bit s.execute) (bit_small r.execute) (bit_small s.execute),
      or_block 1 (bit r.read) (bit s.read) (bit r.write) (bit s.write) (bit_small r.write) (bit_small s.write),
      or_bit r.read s.read,
      or_bit r.write s.write,
      or_bit r.execute s.execute,
    ) refl

-- the number of a union of sets that numbers spell
pub joined_bits : (a b : ℕ) → a < 8 → b < 8 → bit_or a b ≡ number (join (of_bits a) (of_bits b))
joined_bits a b a_small b_small =
    ap (λ x. bit_or x b) (sym (number_bits a a_small)) ∙ ap (bit_or (number (of_bits a))) (sym (number_bits b b_small)) ∙ or_number (of_bits a) (of_bits b)

-- ---- a word by its fields

module _ (f s r : ℕ) (frame : f < 2 ^ 24) (status : s < 8) (rights : r < 8) where
  rights_field : (2 ^ 32 + 2 ^ 8 * f + 2 ^ 3 * s + r) % 2 ^ 3 ≡ r
  rights_field = omega arith

  status_field : (2 ^ 32 + 2 ^ 8 * f + 2 ^ 3 * s + r) / 2 ^ 3 % 2 ^ 3 ≡ s
  status_field = omega arith

  frame_field : (2 ^ 32 + 2 ^ 8 * f + 2 ^ 3 * s + r) / 2 ^ 8 % 2 ^ 24 ≡ f
  frame_field = omega arith

  top_field : (2 ^ 32 + 2 ^ 8 * f + 2 ^ 3 * s + r) / 2 ^ 32 ≡ 1
  top_field = omega arith

  clear_field : (2 ^ 32 + 2 ^ 8 * f + 2 ^ 3 * s + r) / 2 ^ 6 % 2 ^ 2 ≡ 0
  clear_field = omega arith

-- a word by its fields
pub split : (w : ℕ) → w / 2 ^ 32 ≡ 1 → w / 2 ^ 6 % 2 ^ 2 ≡ 0 → 2 ^ 32 + 2 ^ 8 * (w / 2 ^ 8 % 2 ^ 24) + 2 ^ 3 * (w / 2 ^ 3 % 2 ^ 3) + w % 2 ^ 3 ≡ w
split w top clear = omega arith

-- "or" from bit 3 on leaves the bits below
or_status : (f s r t : ℕ) → s < 8 → r < 8 → t < 8 → bit_or (2 ^ 32 + 2 ^ 8 * f + 2 ^ 3 * s + r) (2 ^ 3 * t) ≡ 2 ^ 32 + 2 ^ 8 * f + 2 ^ 3 * bit_or s t + r
or_status f s r t status rights more =
    let word : 2 ^ 32 + 2 ^ 8 * f + 2 ^ 3 * s + r ≡ ((2 ^ 24 + f) * 2 ^ 5 + s) * 2 ^ 3 + r = omega arith in
    let bits : 2 ^ 3 * t ≡ (0 * 2 ^ 5 + t) * 2 ^ 3 + 0 = omega arith in
    let low : bit_or r 0 ≡ r = or_zero_r r in
    let high : bit_or (2 ^ 24 + f) 0 ≡ 2 ^ 24 + f = or_zero_r (2 ^ 24 + f) in
    let outer : bit_or (((2 ^ 24 + f) * 2 ^ 5 + s) * 2 ^ 3 + r) ((0 * 2 ^ 5 + t) * 2 ^ 3 + 0) ≡ bit_or ((2 ^ 24 + f) * 2 ^ 5 + s) (0 * 2 ^ 5 + t) * 2 ^ 3 + bit_or r 0 =
    or_block 3 ((2 ^ 24 + f) * 2 ^ 5 + s) (0 * 2 ^ 5 + t) r 0 rights (omega arith) in
    let inner : bit_or ((2 ^ 24 + f) * 2 ^ 5 + s) (0 * 2 ^ 5 + t) ≡ bit_or (2 ^ 24 + f) 0 * 2 ^ 5 + bit_or s t =
    or_block 5 (2 ^ 24 + f) 0 s t (omega arith) (omega arith) in
    ap (λ x. bit_or x (2 ^ 3 * t)) word ∙ (ap (λ x. bit_or (((2 ^ 24 + f) * 2 ^ 5 + s) * 2 ^ 3 + r) x) bits ∙ omega (arith, outer, inner, low, high))

pub fields_of_word : FieldsOfWord
fields_of_word e fits =
    let s = number_small e.status in
    let r = number_small e.rights in
    (rights_field e.frame _ _ fits s r, status_field e.frame _ _ fits s r, frame_field e.frame _ _ fits s r)

pub or_adds_status : OrAddsStatus
or_adds_status e status =
    let s = number_small e.status in
    let r = number_small e.rights in
    or_status e.frame (number e.status) (number e.rights) (number status) s r (number_small status)
    ∙ ap (λ n. 2 ^ 32 + 2 ^ 8 * e.frame + 2 ^ 3 * n + number e.rights) (or_number e.status status)

-- the word of an entry is a pack, and no other entry's
pub entry_word : (e : Entry) → e.frame < 2 ^ 24 → IsTrue (is_pack (word_of (Some e))) × (entry_of (word_of (Some e)) ≡ Some e)
entry_word e fits =
    let s = number_small e.status in
    let r = number_small e.rights in
    let top = top_field e.frame _ _ fits s r in
    let clear = clear_field e.frame _ _ fits s r in
    let fields = fields_of_word e fits in
    let some : (word_of (Some e) == 0) ≡ false = ne_eqb _ _ (λ none. omega arith) in
    let entry : record { frame = word_of (Some e) / 2 ^ 8 % 2 ^ 24; rights = of_bits (word_of (Some e) % 2 ^ 3); status = of_bits (word_of (Some e) / 2 ^ 3 % 2 ^ 3) } ≡ e =
    λ i. record { frame = fields.2 i; rights = (ap of_bits fields.0 ∙ bits_number e.rights) i; status = (ap of_bits fields.1 ∙ bits_number e.status) i } in
    (or_right _ _ (and_from _ _ (eq-eqb _ _ top) (eq-eqb _ _ clear)), rw some (ap Some entry))

pub unpack_gives_back : UnpackGivesBack
unpack_gives_back None fits = (refl, refl)
unpack_gives_back (Some e) fits = entry_word e (fits e refl)

pub words_are_distinct : WordsAreDistinct
words_are_distinct a b fits_a fits_b same =
    sym (unpack_gives_back a fits_a).1 ∙ (ap entry_of same ∙ (unpack_gives_back b fits_b).1)

-- a pack that is not 0 is the word of an entry whose frame fits
pub record IsHeldWord (w : ℕ) : Type 0 where
  pub entry : Entry
  pub fits : entry.frame < 2 ^ 24
  pub is : entry_of w ≡ Some entry
  pub word : w ≡ word_of (Some entry)

pub held_word : (w : ℕ) → IsTrue (is_pack w) → (w ≡ 0 → ⊥) → IsHeldWord w
held_word w pack some =
    let none : (w == 0) ≡ false = ne_eqb w 0 some in
    let parts = and_parts (w / 2 ^ 32 == 1) (w / 2 ^ 6 % 2 ^ 2 == 0) (rw none at pack) in
    let top : w / 2 ^ 32 ≡ 1 = eqb-true _ _ parts.0 in
    let clear : w / 2 ^ 6 % 2 ^ 2 ≡ 0 = eqb-true _ _ parts.1 in
    let status : number (of_bits (w / 2 ^ 3 % 2 ^ 3)) ≡ w / 2 ^ 3 % 2 ^ 3 = number_bits _ (omega arith) in
    let rights : number (of_bits (w % 2 ^ 3)) ≡ w % 2 ^ 3 = number_bits _ (omega arith) in
    record {
      entry = record { frame = w / 2 ^ 8 % 2 ^ 24; rights = of_bits (w % 2 ^ 3); status = of_bits (w / 2 ^ 3 % 2 ^ 3) };
      fits = omega arith;
      is = rw none refl;
      word = omega (arith, split w top clear);
    }

-- the frame of what is unpacked fits
pub unpacked_fits : (w : ℕ) → FrameFits (entry_of w)
unpacked_fits w = by (w == 0)
  where
    frame : Entry
    frame = record { frame = w / 2 ^ 8 % 2 ^ 24; rights = of_bits (w % 2 ^ 3); status = of_bits (w / 2 ^ 3 % 2 ^ 3) }

    by : (b : Bool) → FrameFits (if b then None else Some frame)
    by true e is = absurd (cc is)
    by false e is = let same : frame ≡ e = cc is in subst (λ (x : Entry). x.frame < 2 ^ 24) same (omega arith)

-- what loses rights keeps its frame
pub narrowed_fits : (flush : Bool) (a : Rights) (o : Option Entry) → FrameFits o → FrameFits (option_and_then (narrowed flush a) o)
narrowed_fits flush a None fits = fits
narrowed_fits flush a (Some e) fits = by (flush && is_empty (rights_left flush a e.rights))
  where
    left : Entry
    left = record e { rights = rights_left flush a e.rights; status = no_rights }

    by : (b : Bool) → FrameFits (if b then None else Some left)
    by true x is = absurd (cc is)
    by false x is = subst (λ (x : Entry). x.frame < 2 ^ 24) (same_Some left x is) (fits e refl)

pub mapped_fits : (through : Rights) (o : Option Entry) → FrameFits o → FrameFits (option_map (mapped through) o)
mapped_fits through None fits = fits
mapped_fits through (Some e) fits = λ x is. subst (λ (y : Entry). y.frame < 2 ^ 24) (same_Some (mapped through e) x is) (fits e refl)

-- the word of a page to which another is mapped, field by field
pub mapped_fields : (w : ℕ) (through : Rights) → IsTrue (is_pack w) → w - w % 64 + number (meet (of_bits (w % 8)) through) ≡ word_of (option_map (mapped through) (entry_of w))
mapped_fields w through pack = by (w == 0) refl
  where
    by : (b : Bool) → (w == 0) ≡ b → w - w % 64 + number (meet (of_bits (w % 8)) through) ≡ word_of (option_map (mapped through) (entry_of w))
    by true none = subst (λ n. n - n % 64 + number (meet (of_bits (n % 8)) through) ≡ word_of (option_map (mapped through) (entry_of n))) (sym (eqb-true w 0 none)) refl
    by false some =
        let parts = and_parts (w / 2 ^ 32 == 1) (w / 2 ^ 6 % 2 ^ 2 == 0) (rw some at pack) in
        let top : w / 2 ^ 32 ≡ 1 = eqb-true _ _ parts.0 in
        let clear : w / 2 ^ 6 % 2 ^ 2 ≡ 0 = eqb-true _ _ parts.1 in
        let rights : ℕ = number (meet (of_bits (w % 8)) through) in
        let fields : w - w % 64 + rights ≡ 2 ^ 32 + 2 ^ 8 * (w / 2 ^ 8 % 2 ^ 24) + 2 ^ 3 * 0 + rights = omega (arith, top, clear) in
        rw some fields

pub pack_gives_back : PackGivesBack
pack_gives_back w pack = (unpacked_fits w, by (w == 0) refl)
  where
    by : (b : Bool) → (w == 0) ≡ b → word_of (entry_of w) ≡ w
    by true none = rw none (sym (eqb-true w 0 none))
    by false some =
        let held = held_word w pack (λ none. cc (some, eq-eqb w 0 none)) in
        ap word_of held.is ∙ sym held.word

pub pack_gains_status : PackGainsStatus
pack_gains_status w status pack some =
    let held = held_word w pack some in
    let after : bit_or w (2 ^ 3 * number status) ≡ word_of (Some (marked held.entry status)) = ap (λ x. bit_or x (2 ^ 3 * number status)) held.word ∙ or_adds_status held.entry status in
    let packed = entry_word (marked held.entry status) held.fits in
    (ap is_pack after ∙ packed.0, λ none. omega arith, ap entry_of after ∙ (packed.1 ∙ sym (ap (option_map (λ e. marked e status)) held.is)))
