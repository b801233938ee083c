-- The code's shifts and sums are the powers and sums of the definition, and so the pages are those that start within.
use Rattle.std.proofs.Common.{arith, ◌≡◌, ◌*◌, ◌^◌, ◌%◌, ◌+◌, ◌≤◌, ◌<◌, refl, eq-eqb}
use Rattle.std.proofs.lemmas.Bool.{le-ltb}
use Rattle.fpage.proofs.Sizes.{Sized, sized_pages, shifted}
use Rattle.fpage.proofs.word.sized.Goals as goal

module _ (c : goal.Else-start-bytes) where
  even : 1024 * c.args.base % 2 ^ c.args.size ≡ 0
  even = rw (shifted c.args.size 64 c.requires.shift, c.from-start.ensures) at c.if-start-bytes-ne0.false

  ends : 1024 * c.args.base + 2 ^ c.args.size ≤ 2 ^ c.args.bits
  ends =
      let bits : c.args.bits < 64 = omega arith in
      rw (shifted c.args.size 64 c.requires.shift, c.from-start.ensures, shifted c.args.bits 64 bits) at c.if-start-bytes.false

  facts : Sized c.args.bits c.args.size c.args.base
  facts = sized_pages c.args.bits c.args.size c.args.base c.requires.bits.high c.requires.a_page even ends

pub overflow_shl-result : goal.overflow_shl-result
overflow_shl-result c = (facts c).shift

pub invariant_of-result : goal.invariant_of-result
invariant_of-result c = rw (facts c).count ((facts c).within, (facts c).aligned)

pub returns-clause-read : goal.returns-clause-read
returns-clause-read c = rw ((facts c).count, eq-eqb _ _ (even c), le-ltb _ _ (ends c)) refl

pub returns-clause-pages : goal.returns-clause-pages
returns-clause-pages c = rw (facts c).count (facts c).pages

pub returns-clause-within : goal.returns-clause-within
returns-clause-within c = rw (facts c).count (facts c).space
