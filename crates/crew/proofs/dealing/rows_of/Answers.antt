use Rattle.std.proofs.Common.{◌≡◌, ℕ, ◌+◌, ◌-◌, ◌<◌, ◌∷◌, [], length, map, get_or, ◌∙◌, ap, sym, subst, arith}
use Rattle.std.proofs.lemmas.List.{length-append}
use Rattle.std.proofs.lemmas.List.Elements.{All-push}
use Rattle.crew.specs.Crews.{AreRows, new_owns, new_passes, pass_on, fewer}
use Rattle.crew.proofs.Dealings.{owns_length, owns_each, owns_fewer, owns_passes}
use Rattle.crew.specs.Hands.{all_parts}
use Rattle.crew.proofs.dealing.rows_of.Goals as goal

pub row_of-requires : goal.row_of-requires
row_of-requires g c =
    λ k d less.
    let i = c.loop-worker.worker in let crew = g.M.Crewed.crew in
    let many = ap length c.requires.owns ∙ owns_length all_parts 0 crew in
    let low = c.loop-worker-test.true in let few = c.requires.few in
    let there : k < length (new_owns (all_parts - i) 0 crew) = subst (λ os. k < length os) c.loop-worker.invariant.0 less in
    let parts : (get_or c.loop-worker.owns k d).hand.parts ≡ all_parts - i = ap (λ os. (get_or os k d).hand.parts) c.loop-worker.invariant.0 ∙ (owns_each (all_parts - i) 0 crew k d there).1 in
    let p : ℕ = (get_or c.loop-worker.owns k d).hand.parts in let parts' : p ≡ all_parts - i = parts in
    let goal : 1 < p = omega (arith, many, low, few) in goal

pub loop-worker-preserved : goal.loop-worker-preserved
loop-worker-preserved g c =
    let i = c.loop-worker.worker in let crew = g.M.Crewed.crew in
    let next : (all_parts - i) - 1 ≡ all_parts - (i + 1) = omega arith in
    let passes = c.in_ok-row_of.ensures.passes ∙ ap (map pass_on) c.loop-worker.invariant.0 ∙ owns_passes (all_parts - i) 0 crew in (
      c.in_ok-row_of.ensures.owns ∙ ap (map fewer) c.loop-worker.invariant.0 ∙ owns_fewer (all_parts - i) 0 crew ∙ ap (λ p. new_owns p 0 crew) next,
      subst (AreRows (length crew) (i + 1)) (sym c.in_ok-push.ensures.items) (record {
        many = length-append c.loop-worker.rows.items (c.in_ok-row_of.field-0 ∷ []) ∙ ap (λ n. n + 1) c.loop-worker.invariant.1.many;
        each = All-push (λ row. row.items ≡ new_passes (length crew)) c.loop-worker.rows.items c.in_ok-row_of.field-0 c.loop-worker.invariant.1.each passes;
      }),
    )

pub returns-clause-owns : goal.returns-clause-owns
returns-clause-owns g c =
    let i = c.loop-worker.worker in let crew = g.M.Crewed.crew in
    let many = ap length c.requires.owns ∙ owns_length all_parts 0 crew in
    let end : i ≡ length crew = omega (arith, many, c.loop-worker-test.false, c.loop-worker.auto.worker-end) in
    c.loop-worker.invariant.0 ∙ ap (λ n. new_owns (all_parts - n) 0 crew) end

pub returns-clause-rows : goal.returns-clause-rows
returns-clause-rows g c =
    let i = c.loop-worker.worker in let crew = g.M.Crewed.crew in
    let many = ap length c.requires.owns ∙ owns_length all_parts 0 crew in
    let end : i ≡ length crew = omega (arith, many, c.loop-worker-test.false, c.loop-worker.auto.worker-end) in
    subst (λ n. AreRows (length crew) n c.loop-worker.rows.items) end c.loop-worker.invariant.1
