-- Of the last few, or of those before.
use Rattle.std.proofs.Common.{◌≡◌, ◌++◌, List, length, take, drop, sym, ap, ◌∙◌, rules, arith, Some, None}
use Rattle.std.proofs.lemmas.List.{take-append-drop, length-append}
use Rattle.space.specs.declared.node.Node.{Node}
use Rattle.maptree.specs.Nodes.{last_less}
use Rattle.maptree.proofs.LastLess.{later, last_append, some_says}
use Rattle.maptree.proofs.scans.last_above.Goals as goal

-- two parts of a list
parts : {far near nodes : List Node} (m : _) → far ≡ take m nodes → near ≡ drop m nodes → nodes ≡ far ++ near
parts {far} {near} {nodes} m front back = sym (take-append-drop m nodes) ∙ ap (λ x. x ++ drop m nodes) (sym front) ∙ ap (λ y. far ++ y) (sym back)

pub overflow_add-result : goal.overflow_add-result
overflow_add-result c =
    let far = c.split_at.result.0.now in
    let near = c.split_at.result.1.now in
    let whole : c.args.nodes.now ≡ far ++ near = parts _ c.split_at.ensures.front c.split_at.ensures.back in
    let size = ap length whole ∙ length-append far near in
    let inside = (some_says c.args.depth near c.in-Some.i (sym c.last_of_four.ensures ∙ c.in-Some.is)).within in
    search (rules, arith, size, inside)

pub returns-in-Some : goal.returns-in-Some
returns-in-Some c =
    let depth = c.args.depth in
    let far = c.split_at.result.0.now in
    let near = c.split_at.result.1.now in
    let whole : c.args.nodes.now ≡ far ++ near = parts _ c.split_at.ensures.front c.split_at.ensures.back in
    let here : last_less depth near ≡ Some c.in-Some.i = sym c.last_of_four.ensures ∙ c.in-Some.is in
    sym (ap (last_less depth) whole ∙ last_append depth far near ∙ ap (λ o. later (length far) o (last_less depth far)) here)

pub returns : goal.returns
returns c =
    let depth = c.args.depth in
    let far = c.split_at.result.0.now in
    let near = c.split_at.result.1.now in
    let whole : c.args.nodes.now ≡ far ++ near = parts _ c.split_at.ensures.front c.split_at.ensures.back in
    let here : last_less depth near ≡ None = sym c.last_of_four.ensures ∙ search rules in
    c.last_of_many-2.ensures ∙ sym (ap (last_less depth) whole ∙ last_append depth far near ∙ ap (λ o. later (length far) o (last_less depth far)) here)
