-- The next place has the last of the path that is less deep as its origin.
use Rattle.std.proofs.Common.{◌≡◌, ◌<◌, ◌+◌, ◌-◌, ◌++◌, [], ◌∷◌, length, take, drop, drop-drop, ap, sym, ◌∙◌, arith}
use Rattle.std.specs.Prelude.{reverse}
use Rattle.std.specs.List.{slice_get}
use Rattle.maptree.specs.Nodes.{links, origins_of}
use Rattle.maptree.specs.Origins.{Origins}
use Rattle.maptree.proofs.Linking.{next_link}
use Rattle.maptree.proofs.links.Links.next.Goals as goal

-- those behind it
abbrev rest : (c : goal.After-result-1) → Origins
rest c = links (reverse (take c.at-node.result.depth c.self.inside.path.items ++ c.at-node.result.place ∷ [])) (drop (c.self.inside.next + 1) c.self.inside.nodes)

step : (c : goal.After-result-1) → drop c.self.inside.next (origins_of c.self.inside.nodes)
    ≡ (c.at-node.result.place, slice_get (take c.at-node.result.depth c.self.inside.path.items) (length (take c.at-node.result.depth c.self.inside.path.items) - 1)) ∷ rest c
step c =
    let within : c.self.inside.next < length c.self.inside.nodes = omega (arith, c.self.invariant.0, c.if-self-len.false, c.len.ensures) in
    sym c.self.invariant.1 ∙ next_link c.self.inside.nodes c.self.inside.path.items c.self.inside.next c.at-node.result within c.at-node.ensures.node

behind : (c : goal.After-result-1) → rest c ≡ drop (c.self.inside.next + 1) (origins_of c.at-node.new.self)
behind c =
    let os = origins_of c.self.inside.nodes in
    sym (ap (drop 1) (step c)) ∙ drop-drop 1 c.self.inside.next os ∙ ap (λ ns. drop (c.self.inside.next + 1) (origins_of ns)) (sym c.at-node.ensures.same)

pub invariant_of-self-2 : goal.invariant_of-self-2
invariant_of-self-2 c =
    let size = ap length c.at-node.ensures.same in (
      omega (arith, size, c.self.invariant.0, c.if-self-len.false, c.len.ensures),
      (λ j. links (reverse (c.in_ok-origin.ensures.path j)) (drop (c.self.inside.next + 1) (c.at-node.ensures.same j))) ∙ behind c,
    )

pub returns-clause-next : goal.returns-clause-next
returns-clause-next c =
    sym c.self.view_is ∙ step c ∙ (λ j. (c.at-node.result.place, sym c.in_ok-origin.ensures.origin j) ∷ behind c j)
