-- The word reads back, so it is refused exactly where what was asked for is.
use Rattle.std.proofs.Common.{◌≡◌, ℕ, ◌+◌, ◌*◌, ◌%◌, ◌<◌, Result, IsOk, refl, sym, subst, ◌∙◌}
use Rattle.fpage.specs.Rights.{number}
use Rattle.fpage.specs.declared.rights.Rights.{Rights}
use Rattle.fpage.specs.declared.error.FpageError.{FpageError}
use Rattle.fpage.specs.Fpage.{Flexpage, read_fpage}
use Rattle.l4trace_texts.specs.declared.make.Size.{Size}
use Rattle.l4trace_texts.specs.Asked.{IsSize, size_field, asked_fpage}
use Rattle.l4trace_texts.proofs.Made.{fpage_made}
use Rattle.l4trace_texts.proofs.make.fpage_word.Goals as goal

reads : (bits base s n : ℕ) (size : Size) (rights : Rights) → IsSize size → base % 1024 ≡ 0 → s ≡ size_field size → s < 64 → n ≡ number rights
    → read_fpage bits (base + 16 * s + n) ≡ asked_fpage bits base rights size
reads bits base s n size rights is_size whole field small is = rw is (fpage_made bits base s size rights is_size whole field small)

pub returns-in-Ok-clause-reads : goal.returns-in-Ok-clause-reads
returns-in-Ok-clause-reads c = reads _ _ _ _ c.args.size c.args.rights c.requires.size c.if-base-ne0.false c.field.ensures.value c.field.ensures.field c.number.ensures

pub returns-in-Ok-clause-asked : goal.returns-in-Ok-clause-asked
returns-in-Ok-clause-asked c =
    let back = reads c.args.bits c.args.base c.field.result c.number.result c.args.size c.args.rights c.requires.size c.if-base-ne0.false c.field.ensures.value c.field.ensures.field c.number.ensures in
    let P : Result Flexpage FpageError → Type 0 = λ r. IsOk r in
    subst P (c.in-Ok.ensures.read ∙ back) refl

pub returns-in-Err-clause-err : goal.returns-in-Err-clause-err
returns-in-Err-clause-err c =
    let back = reads c.args.bits c.args.base c.field.result c.number.result c.args.size c.args.rights c.requires.size c.if-base-ne0.false c.field.ensures.value c.field.ensures.field c.number.ensures in
    sym back ∙ sym c.in-Err.ensures.read
