-- The positions of a leaf are side by side.
use Rattle.std.proofs.Common.{◌≡◌, ◌∙◌, sym, ap, arith, ◌+◌, ◌-◌, ◌*◌, ◌/◌, ◌%◌, length, slice_index}
use Rattle.space.specs.Positions.{position_in}
use Rattle.space.proofs.Leaves.{found_in, positive, leaf_blocks, live_within, read_in_leaf}
use Rattle.space.proofs.directory.Directory.next_in_leaf.Goals as goal

pub dead-requires-clause-within : goal.dead-requires-clause-within
dead-requires-clause-within c =
    let d = c.args.self.now in
    let whole = (leaf_blocks d.most d.count d.branches.items d.leaves.items d.positions.items (found_in d)).within (c.args.from / 16) in
    omega (arith, whole, c.leaf-leaf.ensures, c.requires.run, c.requires.from, ap length c.deref.ensures.value)

pub returns-clause-there : goal.returns-clause-there
unfolding position_in
returns-clause-there c less =
    let d = c.args.self.now in
    let k = c.dead.result in
    let here = read_in_leaf d.most d.count d.branches.items d.leaves.items d.positions.items (found_in d) c.args.from k c.leaf-leaf.result c.deref.result.now c.leaf-leaf.ensures (positive c.leaf-leaf.result c.if-leaf-eq0.false)
    (omega (arith, less, c.requires.run)) c.deref.ensures.value in
    live_within d c.args.live.now c.requires.live (c.args.from + k) (λ none. c.dead.ensures.live (omega (arith, less, c.requires.from)) (ap (slice_index c.args.live.now) here ∙ none))

pub returns-clause-dead : goal.returns-clause-dead
unfolding position_in
returns-clause-dead c shard from before =
    let d = c.args.self.now in
    let k = shard - c.args.from in
    let at : c.args.from + k ≡ shard = omega (arith, from) in
    let here = read_in_leaf d.most d.count d.branches.items d.leaves.items d.positions.items (found_in d) c.args.from k c.leaf-leaf.result c.deref.result.now c.leaf-leaf.ensures (positive c.leaf-leaf.result c.if-leaf-eq0.false)
    (omega (arith, from, before, c.dead.ensures.upto, c.requires.run, c.requires.from)) c.deref.ensures.value in
    ap (slice_index c.args.live.now) (ap (position_in d) (sym at) ∙ sym here) ∙ c.dead.ensures.dead (c.leaf-leaf.result * 16 + c.args.from % 16 + k) (omega arith) (omega (arith, from, before))
