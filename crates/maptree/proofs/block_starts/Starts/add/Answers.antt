-- The numbers behind a block up to the next group, and those of the groups behind.
use Rattle.std.proofs.Common.{◌<◌, ◌+◌, ◌*◌, length, ap, rules, arith, ◌∙◌}
use Rattle.std.specs.List.{slice_index}
use Rattle.std.proofs.lemmas.List.{with_items_is}
use Rattle.maptree.specs.Blocks.{AreGrouped, Grouped, number_at}
use Rattle.maptree.proofs.Grouping.{HaveMore, first_at, grouped_as, grouped_more}
use Rattle.maptree.proofs.block_starts.Starts.add.Goals as goal

pub add_to-requires-2-clause-fits : goal.add_to-requires-2-clause-fits
add_to-requires-2-clause-fits c k from upto =
    let within : k < length c.self.inside.groups.items = search (rules, arith) in
    let first = first_at _ k c.self.invariant within in
    let size = ap (λ v. length v.inside) c.self.view_is in
    let same = ap (λ v. number_at v (64 * k)) c.self.view_is in
    let fits = c.requires.fits (64 * k) (omega (arith, from)) (omega (arith, first.0, size)) in
    let read = ap (λ l. slice_index l k) c.deref_mut-2.ensures.value in
    omega (arith, first.1, same, fits, read)

pub invariant_of-self : goal.invariant_of-self
invariant_of-self c =
    let inside = with_items_is c.self.inside.inside c.add_to.new.numbers (search (rules, arith)) in
    let groups = with_items_is c.self.inside.groups c.add_to-2.new.numbers (search (rules, arith)) in
    let old : Grouped = record { groups = c.self.inside.groups.items; inside = c.self.inside.inside.items; capacity = 0 } in
    let new : Grouped = record { groups = c.add_to-2.new.numbers; inside = c.add_to.new.numbers; capacity = 0 } in
    let end = c.args.block + c.min.result in
    let have : HaveMore old new c.args.block end c.args.n = record {
      end_is = search rules;
      inside_count = search (rules, arith);
      groups_count = search (rules, arith);
      before = λ k upto. c.add_to.ensures.before k upto ∙ ap (λ l. slice_index l k) c.deref_mut.ensures.value;
      more = λ k from upto. let read = ap (λ l. slice_index l k) c.deref_mut.ensures.value in let is = c.add_to.ensures.more k from upto in omega (arith, is, read);
      behind = λ k from. c.add_to.ensures.behind k from ∙ ap (λ l. slice_index l k) c.deref_mut.ensures.value;
      groups_before = λ g upto. c.add_to-2.ensures.before g upto ∙ ap (λ l. slice_index l g) c.deref_mut-2.ensures.value;
      groups_more = λ g from upto. let read = ap (λ l. slice_index l g) c.deref_mut-2.ensures.value in let is = c.add_to-2.ensures.more g from (search (rules, arith)) in omega (arith, is, read);
    } in
    let are : AreGrouped old = record { enough = c.self.invariant.enough; few = c.self.invariant.few; first = c.self.invariant.first; fits = c.self.invariant.fits } in
    let within : c.args.block < length c.self.inside.inside.items = search (rules, arith) in
    grouped_as _ _ c.add_to-2.new.numbers c.add_to.new.numbers _ groups inside (grouped_more old new c.args.block end c.args.n are have within (λ k behind less. search (rules, arith)))
