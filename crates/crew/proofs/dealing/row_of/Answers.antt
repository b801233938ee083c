use Rattle.std.proofs.Common.{◌≡◌, ◌++◌, ◌∷◌, [], map, take, drop, set, get_or, ◌∙◌, ap, sym}
use Rattle.std.proofs.lemmas.List.{map-append, take_more}
use Rattle.crew.specs.Crews.{pass_on, fewer}
use Rattle.crew.proofs.Dealings.{front_more, at_front}
use Rattle.crew.proofs.dealing.row_of.Goals as goal

pub loop-own-preserved : goal.loop-own-preserved
loop-own-preserved g c =
    let xs = c.args.owns.now in let k = c.loop-own.own-index in let o = c.own-item.result in let less = c.loop-own-test.true in
    let same : get_or c.loop-own.owns k o ≡ get_or xs k o = ap (λ os. get_or os k o) c.loop-own.invariant.0 ∙ at_front fewer xs k o less in (
      ap (λ os. set os k c.hand_out.new.self) c.loop-own.invariant.0 ∙ ap (set (map fewer (take k xs) ++ drop k xs) k) (c.hand_out.ensures.own ∙ ap fewer same) ∙ front_more fewer xs k o less,
      c.in_ok-push.ensures.items ∙ ap (λ cs. cs ++ c.hand_out.result ∷ []) c.loop-own.invariant.1 ∙ ap (λ d. map pass_on (take k xs) ++ d ∷ []) (c.hand_out.ensures.pass ∙ ap pass_on same) ∙ sym (map-append pass_on (take k xs) (get_or xs k o ∷ []))
          ∙ ap (map pass_on) (sym (take_more xs k o less)),
    )
