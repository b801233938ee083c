use Rattle.std.proofs.Common.{◌≡◌, ℕ, ◌*◌, length, ◌∙◌, ap, sym, subst, arith}
use Rattle.std.specs.Prelude.{◌==◌}
use Rattle.turns.specs.Works.{IsWork, step_count}
use Rattle.turns.proofs.LinkSteps.{pair_count}
use Rattle.turns.proofs.work.Work.has_ended.Goals as goal

pub len-requires : goal.len-requires
len-requires c = let work = subst (λ s. IsWork c.requires.0 c.requires.1 s c.args.steps) c.in-Strip.is c.requires.2 in (c.requires.0, c.args.steps, work.1)

pub returns-in-Move : goal.returns-in-Move
returns-in-Move c =
    λ w p given.
    let work = subst (λ s. IsWork w p s c.args.steps) c.in-Move.is given in
    let n : ℕ = c.len-in-Move.result in
    let m : ℕ = length c.in-Move.pairs in
    let same : n ≡ m = c.len-in-Move.ensures.len in
    let twice : n * 2 ≡ 2 * m = omega (arith, same) in
    ap (λ k. c.args.steps == k) (twice ∙ sym (pair_count w c.in-Move.pairs)) ∙ ap (λ q. c.args.steps == step_count w q) (sym work)
