use Rattle.std.proofs.Common.{◌≡◌, ℕ, suc, ◌-◌, ◌∷◌, [], get_or, ◌∙◌, ap, sym, arith}
use Rattle.std.specs.Prelude.{Some}
use Rattle.pieces.specs.Effects.{adds}
use Rattle.pieces.specs.Steps.{status_bits, may_access}
use Rattle.pieces.specs.declared.touch.WordAccess.{WordAccess}
use Rattle.turns.specs.Rules.{next_step}
use Rattle.turns.specs.SharedWords.{SharedContent}
use Rattle.turns.proofs.TouchSteps.{fits, mark_next}
use Rattle.turns.proofs.touch_work.TouchWork.mark.Goals as goal

pub add-requires-clause-next : goal.add-requires-clause-next
add-requires-clause-next c =
    let o = c.args.shared.now.opening in
    let last = c.requires.work.last c.requires.marks in
    let t : WordAccess = c.access-access.result in
    let seen : ℕ = c.args.self.now.seen in
    let i : ℕ = last.0 in
    let seen_is : seen ≡ suc i = last.1 in
    let i_is : seen - 1 ≡ i = omega (arith, seen_is) in
    let at : t ≡ get_or c.args.self.now.touch last.0 t = c.access-access.ensures ∙ ap (λ j. get_or c.args.self.now.touch j t) i_is in
    ap (λ (s : SharedContent). next_step s.opening ((c.args.post.now.number, c.args.post.now.steps) ∷ [])) c.requires.of
    ∙ mark_next o c.learn_can_be_worked.ensures c.args.post.now.number c.args.post.now.steps c.args.self.now c.requires.piece c.requires.work last.0 c.requires.marks last.1 t at (ap (may_access o.words) at ∙ last.2 t)
    ∙ ap (λ b. Some (adds t.index b)) (sym (c.bits.ensures ∙ ap status_bits c.marks.ensures))

pub add-requires-clause-fits : goal.add-requires-clause-fits
add-requires-clause-fits c =
    fits c.args.shared.now.opening c.learn_can_be_worked.ensures c.args.post.now.number c.args.post.now.steps c.args.self.now c.requires.piece c.requires.work c.args.self.now.answers.small (omega (arith, c.args.self.now.answers.ok.0, c.args.self.now.answers.ok.1))
