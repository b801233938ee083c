-- The first word has the right that is asked for, and the second is that of no page.
use Rattle.std.proofs.Common.{arith, ◌≡◌, ℕ, zero, suc, ◌<◌, [], ◌∷◌, ap, refl}
use Rattle.std.specs.Prelude.{◌==◌}
use Rattle.fpage.specs.declared.rights.Access.TheVariants.{Read}
use Rattle.pieces.specs.Steps.{may_access}
use Rattle.pieces.specs.Values.{no_value}
use Rattle.phase_tests.proofs.piecewise.answered.Goals as goal

answer : (index : ℕ) → index < 2 → (index == 0) ≡ may_access (0x100000507 ∷ 0 ∷ []) (record { index = index; access = Read })
answer zero low = refl
answer (suc zero) low = refl
answer (suc (suc index)) low = absurd (omega (arith, low))

pub new-requires-3 : goal.new-requires-3
new-requires-3 c =
    rw (c.new-2.ensures.items, c.none.ensures, c.in_ok-answers.ensures.items, c.of-of.ensures, c.new.ensures, c.in_ok-vec.ensures.items, c.touch.ensures, c.of-words.ensures, c.in_ok-words.ensures.items)
    (ap (λ b. record no_value { answers = b ∷ [] }) (answer c.args.index c.requires))
