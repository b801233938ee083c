-- One more part is taken.
use Rattle.std.proofs.Common.{◌≡◌, ◌<◌, ◌+◌, min, refl, ap, sym, ◌∙◌, length, arith, rules}
use Rattle.std.specs.List.{slice_range}
use Rattle.space.specs.declared.slice.Slice.{Slice}
use Rattle.space.specs.Slices.{nodes_of}
use Rattle.maptree.proofs.Cuttings.{taken_part, more_parts, range_parts}
use Rattle.maptree.proofs.cutting.Cutting.take.Goals as goal

pub loop-at-preserved : goal.loop-at-preserved
loop-at-preserved c =
    let inv = c.loop-at.invariant in
    let all = c.args.list.now.nodes in
    let at = c.loop-at.at in
    let to = c.args.to in
    let k = c.min.result in
    let part : Slice = record { nodes = c.in_ok-nodes.nodes } in
    let within = c.requires.within in
    let least = c.min.ensures in
    let less : at < to = c.loop-at-test.true in
    let some = c.requires.most in
    let parts = range_parts all at to k inv.within within (search (rules, arith, least)) in
    let size : k ≡ min c.args.most (length (slice_range all at to)) = least ∙ ap (min c.args.most) (sym parts.0) in
    record {
      taken = taken_part c.args.most c.args.self.now (slice_range all c.args.from to) c.loop-at.self _ (slice_range all at to) (slice_range all (at + k) to) c.in_ok-nodes.nodes.items k
          some (omega (arith, parts.0, less)) size (c.in_ok-nodes.ensures ∙ parts.1) parts.2 inv.taken refl
          (c.in_ok-push-2.ensures.items) (ap nodes_of c.in_ok-push.ensures.items ∙ (more_parts c.loop-at.self.parts.items part).0) (ap length c.in_ok-push.ensures.items ∙ (more_parts c.loop-at.self.parts.items part).1);
      rising = search (rules, arith);
      within = search (rules, arith, least);
    }
