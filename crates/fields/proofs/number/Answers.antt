-- Each digit moves the value one place up, and the whole field fits.
use Rattle.std.proofs.Common.{suc, drop, get_or, length, arith, sym, ◌∙◌, add-one}
use Rattle.std.proofs.Math.Seq.{drop-cons}
use Rattle.fields.proofs.SpelledDigits.{spelled-more, next_fits, fits_next}
use Rattle.fields.proofs.number.Goals as goal

pub overflow_mul-value : goal.overflow_mul-value
overflow_mul-value c = omega (arith, fits_next c.args.base c.loop-byte.value 0 c.loop-byte.byte-index (length c.args.field.now) c.args.most c.requires.base c.loop-byte.invariant.small c.requires.base (omega arith) (omega arith) c.requires.fits)

pub overflow_add-value : goal.overflow_add-value
overflow_add-value c = omega (arith, fits_next c.args.base c.loop-byte.value c.in_ok-value.field-0 c.loop-byte.byte-index (length c.args.field.now) c.args.most c.requires.base c.loop-byte.invariant.small c.in_ok-value.ensures.below (omega arith) (omega arith) c.requires.fits)

pub loop-byte-preserved : goal.loop-byte-preserved
loop-byte-preserved c =
    let inv = c.loop-byte.invariant in
    let next = drop-cons c.args.field.now c.loop-byte.byte-index 0 (omega arith) in
    let moved = spelled-more c.args.base c.loop-byte.value (get_or c.args.field.now c.loop-byte.byte-index 0) c.in_ok-value.field-0 (drop (suc c.loop-byte.byte-index) c.args.field.now) (sym c.in_ok-value.ensures.value) in
    record {
      spells = rw add-one (sym moved ∙ rw next at inv.spells);
      small = next_fits c.args.base c.loop-byte.value c.in_ok-value.field-0 c.loop-byte.byte-index inv.small c.in_ok-value.ensures.below;
    }
