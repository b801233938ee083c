-- What is left of the vector is what is left of the list, the last node first.
use Rattle.std.proofs.Common.{◌≡◌, ◌-◌, ◌∷◌, [], length, take, ap, ◌∙◌, arith}
use Rattle.std.specs.Prelude.{reverse}
use Rattle.maptree.specs.Cuts.{outside}
use Rattle.maptree.proofs.Reversed.{refilled, outside_back}
use Rattle.maptree.proofs.backward.take_one_out.Goals as goal

pub returns-clause-nodes : goal.returns-clause-nodes
returns-clause-nodes c =
    let ns = c.args.backward.now.items in
    let r = c.args.range.now in
    let whole = c.deref_mut.ensures.value in
    let size = c.len-len.ensures.value in
    let left : c.truncate.new.self.items ≡ outside 0 (record { start = length ns - r.end; end = length ns - r.start } ∷ []) ns =
    c.truncate.ensures.items ∙ ap (take c.close_gaps-left.result) (refilled ns c.close_gaps-left.new.nodes (c.close_gaps-left.auto.nodes ∙ ap length whole)) ∙ c.close_gaps-left.ensures.nodes
    ∙ (λ i. outside 0 (record { start = size i - r.end; end = size i - r.start } ∷ []) (whole i)) in
    ap reverse left ∙ outside_back ns r (omega (arith, c.requires.1)) (omega (arith, c.requires.2))
