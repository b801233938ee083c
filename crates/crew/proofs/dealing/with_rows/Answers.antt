use Rattle.std.proofs.Common.{rules, ◌≡◌, ℕ, ◌+◌, ◌-◌, ◌<◌, ◌++◌, ◌∷◌, [], length, get_or, ◌∙◌, ap, sym, subst, arith}
use Rattle.std.proofs.lemmas.Iterator.Adapters.{YieldsList-from_vec}
use Rattle.std.proofs.lemmas.Iterator.Consumers.{YieldsList-turn, YieldsList-end}
use Rattle.std.proofs.lemmas.List.{length-append, length-map}
use Rattle.std.proofs.lemmas.List.Elements.{All-take}
use Rattle.std.specs.List.{All}
use Rattle.std.specs.Option.{option_to_list}
use Rattle.crew.specs.Crews.{OwnDequeContent, AreNumberedFrom, new_passes}
use Rattle.crew.proofs.Dealings.{owns_length, owns_each, numbered_on}
use Rattle.crew.specs.Hands.{all_parts}
use Rattle.crew.proofs.dealing.with_rows.Goals as goal

pub unwrap-passes-requires : goal.unwrap-passes-requires
unwrap-passes-requires g c =
    let crew = g.M.Crewed.crew in
    let road = YieldsList-from_vec c.args.owns.items (search rules) (search rules) in
    let turn = YieldsList-turn road c.loop-own.yielded c.loop-own.own-iterator c.loop-own.yielded_by c.next.result c.next.new.self c.in-Some.own c.in-Some.is c.next.ensures.steps in
    let all = ap length c.requires.owns ∙ owns_length (all_parts - length crew) 0 crew in
    let there = c.loop-own.invariant.2.many in let long = c.loop-own.rows.ok.0 in
    c.pop.ensures.variant.1 (omega (arith, turn.0, all, there, long))

pub new-requires-clause-none : goal.new-requires-clause-none
new-requires-clause-none g c =
    let crew = g.M.Crewed.crew in let k = length c.loop-own.yielded in let o = c.in-Some.own in
    let road = YieldsList-from_vec c.args.owns.items (search rules) (search rules) in
    let turn = YieldsList-turn road c.loop-own.yielded c.loop-own.own-iterator c.loop-own.yielded_by c.next.result c.next.new.self o c.in-Some.is c.next.ensures.steps in
    let is = turn.1 ∙ ap (λ os. get_or os k o) c.requires.owns in
    ap (λ (x : OwnDequeContent). x.hand.taken) is ∙ (owns_each (all_parts - length crew) 0 crew k o (subst (λ os. k < length os) c.requires.owns turn.0)).2

pub new-requires-clause-parts : goal.new-requires-clause-parts
new-requires-clause-parts g c =
    let crew = g.M.Crewed.crew in let k = length c.loop-own.yielded in let o = c.in-Some.own in
    let road = YieldsList-from_vec c.args.owns.items (search rules) (search rules) in
    let turn = YieldsList-turn road c.loop-own.yielded c.loop-own.own-iterator c.loop-own.yielded_by c.next.result c.next.new.self o c.in-Some.is c.next.ensures.steps in
    let is = turn.1 ∙ ap (λ os. get_or os k o) c.requires.owns in
    let parts = ap (λ (x : OwnDequeContent). x.hand.parts) is ∙ (owns_each (all_parts - length crew) 0 crew k o (subst (λ os. k < length os) c.requires.owns turn.0)).1 in
    omega (arith, parts, c.requires.few)

pub loop-own-preserved : goal.loop-own-preserved
loop-own-preserved g c =
    let crew = g.M.Crewed.crew in let n = length crew in let yielded = c.loop-own.yielded in let k = length yielded in let o = c.in-Some.own in let worker = c.new.result in
    let road = YieldsList-from_vec c.args.owns.items (search rules) (search rules) in
    let turn = YieldsList-turn road yielded c.loop-own.own-iterator c.loop-own.yielded_by c.next.result c.next.new.self o c.in-Some.is c.next.ensures.steps in
    let is = turn.1 ∙ ap (λ os. get_or os k o) c.requires.owns in
    let number = ap (λ (x : OwnDequeContent). x.number) is ∙ (owns_each (all_parts - n) 0 crew k o (subst (λ os. k < length os) c.requires.owns turn.0)).0 in
    let more : length (yielded ++ o ∷ []) ≡ k + 1 = length-append yielded (o ∷ []) in
    let split = ap length (c.pop.ensures.items ∙ ap (λ x. c.pop.new.self.items ++ option_to_list x) c.unwrap-passes.ensures) ∙ length-append c.pop.new.self.items (c.unwrap-passes.result ∷ []) in
    let left : ℕ = length c.pop.new.self.items in let had : ℕ = length c.loop-own.rows.items in let cut : had ≡ left + 1 = split in let was : had ≡ n - k = c.loop-own.invariant.2.many in
    let now : left ≡ n - (k + 1) = omega arith in (
      subst (AreNumberedFrom 0) (sym c.in_ok-push.ensures.items) (numbered_on 0 c.loop-own.workers.items worker c.loop-own.invariant.0 (ap (λ (x : OwnDequeContent). x.number) c.new.ensures ∙ number ∙ ap (λ m. 0 + m) (sym c.loop-own.invariant.1))),
      ap length c.in_ok-push.ensures.items ∙ length-append c.loop-own.workers.items (worker ∷ []) ∙ ap (λ m. m + 1) c.loop-own.invariant.1 ∙ sym more,
      record {
        many = now ∙ ap (λ m. n - m) (sym more);
        each = subst (All (λ row. row.items ≡ new_passes n)) (sym c.pop.ensures.rest) (All-take (λ row. row.items ≡ new_passes n) _ c.loop-own.rows.items c.loop-own.invariant.2.each);
      },
    )

pub returns : goal.returns
returns g c =
    let crew = g.M.Crewed.crew in
    let road = YieldsList-from_vec c.args.owns.items (search rules) (search rules) in
    let end = YieldsList-end road c.loop-own.yielded c.loop-own.own-iterator c.loop-own.yielded_by c.next.result c.next.new.self c.in-None.is c.next.ensures.steps in
    let all = ap length c.requires.owns ∙ owns_length (all_parts - length crew) 0 crew in
    (c.loop-own.invariant.0, c.loop-own.invariant.1 ∙ sym (length-map c.loop-own.yielded (λ x. x)) ∙ ap length end.0 ∙ all)
