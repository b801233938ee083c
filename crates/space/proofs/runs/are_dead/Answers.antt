-- A bit that is 0 of eight numbers joined is 0 in each.
use Rattle.std.proofs.Common.{◌≡◌, ℕ, slice_index_or, arith}
use Rattle.std.specs.Int.{bit_at}
use Rattle.std.proofs.lemmas.Bool.{eqb-true}
use Rattle.space.proofs.Eights.{or_of_eight, no_bit_of_eight}
use Rattle.space.proofs.runs.are_dead.Goals as goal

pub returns : goal.returns
returns c is k from before leaf low =
    let each : ℕ → ℕ = λ j. slice_index_or c.args.runs.now j 0 in
    let none : bit_at (or_of_eight each c.args.at) leaf ≡ 0 = c.next_leaf.ensures.dead leaf (omega arith) (omega (arith, low, eqb-true c.next_leaf.result 16 is)) in
    no_bit_of_eight each c.args.at k leaf from before none
