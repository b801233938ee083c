-- The nodes of one more result are in their place.
use Rattle.std.proofs.Common.{rules, arith, ◌∙◌, sym, ap, ◌<◌, length, drop, set, map}
use Rattle.pieces.specs.Gathering.{all_found}
use Rattle.pieces.specs.Values.{Value}
use Rattle.space.specs.Slices.{nodes_of}
use Rattle.pieces.proofs.Placed.{popped, below_of_last, kept_more, nodes_set}
use Rattle.pieces.proofs.gathering.take_slices.Goals as goal

pub bounds-slices-number : goal.bounds-slices-number
bounds-slices-number c =
    let last = popped c.args.given.items c.loop-done.given.items c.pop.new.self.items c.in-Some.done c.loop-done.invariant.1 c.in-Some.ensures.items in
    let low = below_of_last (length c.args.slices.now) c.args.given.items c.loop-done.given.items c.pop.new.self.items c.in-Some.done c.requires.within last in
    omega (arith, low, c.number-number.ensures.number, c.loop-done.auto.slices)

pub offset_bounds-slices-number : goal.offset_bounds-slices-number
offset_bounds-slices-number c =
    let last = popped c.args.given.items c.loop-done.given.items c.pop.new.self.items c.in-Some.done c.loop-done.invariant.1 c.in-Some.ensures.items in
    let low = below_of_last (length c.args.slices.now) c.args.given.items c.loop-done.given.items c.pop.new.self.items c.in-Some.done c.requires.within last in
    let within : c.number-number.result < length c.loop-done.slices = omega (arith, low, c.number-number.ensures.number, c.loop-done.auto.slices) in
    search (rules, arith, within)

pub loop-done-preserved : goal.loop-done-preserved
loop-done-preserved c =
    let last = popped c.args.given.items c.loop-done.given.items c.pop.new.self.items c.in-Some.done c.loop-done.invariant.1 c.in-Some.ensures.items in
    let low = below_of_last (length c.args.slices.now) c.args.given.items c.loop-done.given.items c.pop.new.self.items c.in-Some.done c.requires.within last in
    let n = length c.args.slices.now in
    let behind = drop (length c.loop-done.given.items) c.args.given.items in (
      nodes_set c.loop-done.slices c.number-number.result c.into_kept.result ∙ ap (set (nodes_of c.loop-done.slices) c.number-number.result) c.into_kept.ensures
          ∙ ap (λ m. set (nodes_of c.loop-done.slices) m c.in-Some.done.found.kept) c.number-number.ensures.number
          ∙ ap (λ ns. set ns c.in-Some.done.number c.in-Some.done.found.kept) c.loop-done.invariant.0 ∙ kept_more n c.in-Some.done behind low
          ∙ sym (ap (λ ds. map (λ (v : Value). v.kept) (all_found n ds)) last.last),
      last.left,
      omega (arith, last.within),
    )
