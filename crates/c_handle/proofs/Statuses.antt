-- The words of an unmap, as a control word and a reply have them.
use Rattle.std.proofs.Common.{◌≡◌, ℕ, suc, Bool, List, [], ◌∷◌, length, Option, Some, None, Result, Ok, Err, refl, sym, ap, ◌∙◌, arith}
use Rattle.std.specs.List.{zip}
use Rattle.fpage.specs.Control.{ControlWord, control_with, read_control}
use Rattle.fpage.specs.Fpage.{Flexpage}
use Rattle.fpage.specs.declared.error.FpageError.{FpageError}
use Rattle.model.specs.Definitions.Answers.{answer, call_answer, call_refusal, pages_in, unless_refused, unmap_answer}
use Rattle.model.specs.Definitions.Calls.{Limits, Refusal, unmap, unmapped}
use Rattle.model.specs.Definitions.Holdings.{Holdings}
use Rattle.model.specs.Definitions.Strip.{strip}

-- as many words come back as were named
pub words_told_back : (space : ℕ) (f : Bool) (words : List ℕ) (fpages : List Flexpage) (h : Holdings) → length fpages ≡ length words → length (unmap_answer space f (zip words fpages) h).words ≡ length words
words_told_back space f [] [] h same = refl
words_told_back space f [] (p ∷ fpages) h same = absurd (omega (arith, same))
words_told_back space f (w ∷ words) [] h same = absurd (omega (arith, same))
words_told_back space f (w ∷ words) (p ∷ fpages) h same = ap suc (words_told_back space f words fpages (strip h (pages_in space p) p.rights f) (omega (arith, same)))

-- as many as the reply tells
pub words_answered : (limits : Limits) (h : Holdings) (space : ℕ) (f : Bool) (words : List ℕ) (fpages : List Flexpage) (told : List ℕ) → length fpages ≡ length words → (answer limits h (Ok (unmap space f (zip words fpages)))).reply ≡ unmapped told → length words ≡ length told
words_answered limits h space f words fpages told same is = by (call_refusal limits (unmap space f (zip words fpages))) is
  where
    by : (o : Option Refusal) → (unless_refused o h (call_answer h (unmap space f (zip words fpages)))).reply ≡ unmapped told → length words ≡ length told
    by None is = let words_are : (unmap_answer space f (zip words fpages) h).words ≡ told = cc is in sym (words_told_back space f words fpages h same) ∙ ap length words_are
    by (Some r) is = absurd (cc is)

-- how many words a control word names
pub words_are : (n : ℕ) (r : Result Bool FpageError) (control : ControlWord) → Ok control ≡ control_with n r → control.words ≡ n
words_are n (Ok f) control is = let same : control ≡ record { flush = f; words = n } = cc is in ap (λ (k : ControlWord). k.words) same
words_are n (Err e) control is = absurd (cc is)

-- what a control word says
pub flush_is : (word n : ℕ) (control : ControlWord) → Ok control ≡ control_with n (read_control word n) → read_control word n ≡ Ok control.flush
flush_is word n control = by (read_control word n)
  where
    by : (r : Result Bool FpageError) → Ok control ≡ control_with n r → r ≡ Ok control.flush
    by (Ok f) is = let same : control ≡ record { flush = f; words = n } = cc is in ap (λ (k : ControlWord). Ok k.flush) (sym same)
    by (Err e) is = absurd (cc is)
