-- What is behind the place is cut off.
use Rattle.std.proofs.Common.{◌≡◌, ◌<◌, ◌+◌, ◌++◌, [], ◌∷◌, length, take, slice_set, ap, sym, ◌∙◌, arith}
use Rattle.std.proofs.lemmas.List.{length-set, length-take-le, take_all, take-take, take_more_set}
use Rattle.maptree.proofs.links.step.Goals as goal

pub returns-clause-path : goal.returns-clause-path
returns-clause-path c =
    let depth = c.args.node.depth in
    let place = c.args.node.place in
    let path = c.args.path.now.items in
    let cut = c.truncate.new.self.items in
    let is : cut ≡ take (depth + 1) path = c.truncate.ensures.items in
    let within : depth < length path = omega (arith, c.if-depth-len.false, c.len.ensures) in
    let size : length cut ≡ depth + 1 = ap length is ∙ length-take-le (depth + 1) path (omega (arith, within)) in
    sym (take_all (depth + 1) (slice_set cut depth place) (omega (arith, length-set cut depth place, size)))
    ∙ take_more_set cut depth place (omega (arith, size))
    ∙ ap (λ ps. ps ++ place ∷ []) (ap (take depth) is ∙ take-take depth (depth + 1) path (omega arith))
