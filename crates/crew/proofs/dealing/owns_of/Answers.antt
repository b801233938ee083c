use Rattle.std.proofs.Common.{rules, ◌++◌, ◌∷◌, [], length, Some, ◌∙◌, ap, sym, zero-add}
use Rattle.std.specs.Prelude.{slice_get}
use Rattle.std.proofs.lemmas.Iterator.Adapters.{YieldsList-from_vec}
use Rattle.std.proofs.lemmas.Iterator.Consumers.{YieldsList-turn}
use Rattle.std.proofs.lemmas.Option.{slice_get-get_or}
use Rattle.crew.specs.Crews.{new_owns}
use Rattle.crew.specs.Hands.{all_parts, hand}
use Rattle.crew.proofs.Dealings.{owns_length, owns_append}
use Rattle.crew.proofs.dealing.owns_of.Goals as goal

pub new-requires : goal.new-requires
new-requires g c =
    let road = YieldsList-from_vec c.args.deques.items (search rules) (search rules) in
    let turn = YieldsList-turn road c.loop-dealt.yielded c.loop-dealt.dealt-iterator c.loop-dealt.yielded_by c.next.result c.next.new.self c.in-Some.dealt c.in-Some.is c.next.ensures.steps in
    let number = c.len-in-loop-dealt.ensures ∙ c.loop-dealt.owns.ok.0 ∙ ap length c.loop-dealt.invariant ∙ owns_length all_parts 0 c.loop-dealt.yielded in
    ap (slice_get g.M.Crewed.crew) number ∙ ap (λ ds. slice_get ds (length c.loop-dealt.yielded)) (sym c.requires) ∙ slice_get-get_or c.args.deques.items (length c.loop-dealt.yielded) c.in-Some.dealt turn.0 ∙ ap Some (sym turn.1)

pub loop-dealt-preserved : goal.loop-dealt-preserved
loop-dealt-preserved g c =
    let d = c.in-Some.dealt in
    let number = c.len-in-loop-dealt.ensures ∙ c.loop-dealt.owns.ok.0 ∙ ap length c.loop-dealt.invariant ∙ owns_length all_parts 0 c.loop-dealt.yielded ∙ sym (zero-add (length c.loop-dealt.yielded)) in
    c.in_ok-push.ensures.items ∙ ap (λ os. os ++ c.new.result ∷ []) c.loop-dealt.invariant
    ∙ ap (λ o. new_owns all_parts 0 c.loop-dealt.yielded ++ o ∷ []) (c.new.ensures ∙ ap (λ n. record { number = n; hand = hand all_parts d.put [] }) number) ∙ sym (owns_append all_parts 0 c.loop-dealt.yielded d)
