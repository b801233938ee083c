-- One turn more has ended.
use Rattle.std.proofs.Common.{rules, ◌≡◌, ◌++◌, ◌∷◌, [], length, sym, ap, ◌∙◌, subst}
use Rattle.std.specs.List.{All}
use Rattle.std.proofs.lemmas.Iterator.Adapters.{YieldsList-from_vec}
use Rattle.std.proofs.lemmas.Iterator.Consumers.{YieldsList-turn}
use Rattle.std.proofs.lemmas.List.{map-append}
use Rattle.std.proofs.lemmas.List.Elements.{All-push}
use Rattle.turns.specs.Closing.{numbers_of}
use Rattle.turns.specs.Posts.{PostContent}
use Rattle.crew.specs.Crews.{IsEnded}
use Rattle.crew.specs.Hands.{IsFresh}
use Rattle.crew.proofs.alone.step_all.Goals as goal

pub loop-turn-preserved : goal.loop-turn-preserved
loop-turn-preserved c =
    let s = c.args.shared.now in let before = c.loop-turn.ended.items in let turn = c.step_to_end.new.self in
    let pushed : c.push.new.self.items ≡ before ++ turn ∷ [] = search rules in
    let front = c.loop-turn.yielded in let t = c.in-Some.turn in let all = c.args.turns.items in
    let road = YieldsList-from_vec all (search rules) (search rules) in
    let here = YieldsList-turn road front c.loop-turn.turn-iterator c.loop-turn.yielded_by c.next.result c.next.new.self t c.in-Some.is c.next.ensures.steps in
    let of : t.shared ≡ s = (subst (IsFresh s) (sym here.1) (c.requires.fresh (length front) t here.0)).0 in
    record {
      ended = subst (All (IsEnded s)) (sym pushed) (All-push (IsEnded s) before turn c.loop-turn.invariant.ended (c.step_to_end.ensures.same.0 ∙ of, c.step_to_end.ensures.ended));
      numbers = ap numbers_of pushed ∙ map-append (λ (t : PostContent). t.number) before (turn ∷ []) ∙ ap (λ n. numbers_of before ++ n ∷ []) c.step_to_end.ensures.same.1
          ∙ ap (λ ns. ns ++ c.in-Some.turn.number ∷ []) c.loop-turn.invariant.numbers ∙ sym (map-append (λ (t : PostContent). t.number) c.loop-turn.yielded (c.in-Some.turn ∷ []));
    }
