-- The rights of a word are its three lowest bits.
use Rattle.std.proofs.Common.{◌≡◌, ℕ, ◌%◌, ◌==◌, Bool, true, false, not, refl, ap, ◌∙◌, subst, sym}
use Rattle.std.specs.Prelude.{bit_and}
use Rattle.std.proofs.lemmas.Bool.{eqb-true}
use Rattle.fpage.specs.Rights.{is_empty, meet, of_bits}
use Rattle.fpage.specs.declared.rights.Rights.{Rights}
use Rattle.space.specs.Entries.{has_any}
use Rattle.space.specs.Word.{entry_of}
use Rattle.space.proofs.RightsLeft.{any_number}
use Rattle.space.proofs.word.has_any.Goals as goal

-- what a word says has the rights that its bits name; 0 names none
says : (w : ℕ) (r : Rights) → not (is_empty (meet (of_bits (w % 8)) r)) ≡ has_any r (entry_of w)
says w r = by (w == 0) refl
  where
    by : (b : Bool) → (w == 0) ≡ b → not (is_empty (meet (of_bits (w % 8)) r)) ≡ has_any r (entry_of w)
    by true is = subst (λ n. not (is_empty (meet (of_bits (n % 8)) r)) ≡ has_any r (entry_of n)) (sym (eqb-true w 0 is)) refl
    by false is = rw is refl

pub returns : goal.returns
returns c = ap (λ n. not (bit_and (c.args.word % 8) n == 0)) (c.from.ensures ∙ c.number.ensures) ∙ any_number c.args.word c.args.rights ∙ says c.args.word c.args.rights
