use Rattle.std.proofs.Common.{rules, ◌<◌, length, get_or, sym, subst}
use Rattle.std.proofs.lemmas.Iterator.Adapters.{YieldsList-from_vec}
use Rattle.std.proofs.lemmas.Iterator.Consumers.{YieldsList-turn}
use Rattle.crew.specs.Crews.{StealPassContent}
use Rattle.crew.proofs.Yields.{one_back, at_any}
use Rattle.crew.proofs.settling.take_back.Goals as goal

pub loop-pass-preserved : goal.loop-pass-preserved
loop-pass-preserved g c =
    let owns = c.args.owns.now in let now = c.loop-pass.owns in let yielded = c.loop-pass.yielded in let pass = c.in-Some.pass in let k = c.number.result in let o = get_or now k c.index-owns-number.result in
    let road = YieldsList-from_vec c.args.passes.items (search rules) (search rules) in
    let turn = YieldsList-turn road yielded c.loop-pass.pass-iterator c.loop-pass.yielded_by c.next.result c.next.new.self pass c.in-Some.is c.next.ensures.steps in
    let below : pass.number < length owns = subst (λ (x : StealPassContent). x.number < length owns) (sym turn.1) (c.requires.within (length yielded) pass turn.0) in
    let less : k < length now = subst (λ n. n < length now) (sym c.number.ensures) (subst (λ n. pass.number < n) (sym c.loop-pass.invariant.many) below) in
    one_back owns yielded now pass k o c.take_back.new.self c.loop-pass.invariant less (sym c.number.ensures) (at_any now k c.index-owns-number.result o less) c.take_back.ensures
