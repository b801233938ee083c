-- Page after page that is held, until the buffer is full.
use Rattle.std.proofs.Common.{[], ◌∷◌, subst, arith}
use Rattle.space.specs.Directory.{pages_of}
use Rattle.space.specs.declared.place.Place.{Place}
use Rattle.mapdb.specs.State.{State}
use Rattle.c_handle.specs.Listed.{chosen, mappings_at, WritesBehind}
use Rattle.c_handle.proofs.Found.{unchosen, space_more, space_gap, space_full, space_end}
use Rattle.c_handle.proofs.mappings.write_space.Goals as goal

pub loop-told-preserved : goal.loop-told-preserved
loop-told-preserved c =
    let s : State = c.args.database.now in
    let held = chosen c.args.listing s.holdings in
    let so_far = c.loop-told.invariant in
    let place = c.in-Some.place in
    let next = c.in-Some.ensures.next in
    let one = c.write_page-told.ensures in
    let gap = space_gap held c.args.from.space c.args.from.page c.args.mappings.now c.args.told c.loop-told.page place.page so_far.from_on next.from (unchosen c.args.listing s.holdings c.args.from.space c.loop-told.page place.page next.absent) c.loop-told.mappings c.loop-told.told so_far.written in
    let here = subst (λ (q : Place). WritesBehind c.loop-told.mappings c.loop-told.told (mappings_at held (q ∷ [])) c.write_page-told.new.mappings c.write_page-told.result)
    (λ i. record { space = next.space_is i; page = place.page }) one.written in
    record {
      room = omega (arith, one.told);
      from_on = omega (arith, so_far.from_on, next.from);
      start = λ past. absurd (omega (arith, past, next.before));
      written = space_more held c.args.from.space c.args.from.page c.args.mappings.now c.args.told place.page (omega (arith, so_far.from_on, next.from)) c.loop-told.mappings c.loop-told.told gap
          c.write_page-told.new.mappings c.write_page-told.result here;
    }

pub loop-told-smaller : goal.loop-told-smaller
loop-told-smaller c = omega (arith, c.in-Some.ensures.next.from, c.in-Some.ensures.next.before)

pub returns-in_default-clause-written : goal.returns-in_default-clause-written
returns-in_default-clause-written c =
    let s : State = c.args.database.now in
    let so_far = c.loop-told.invariant in
    space_end (chosen c.args.listing s.holdings) c.args.from.space c.args.from.page c.args.mappings.now c.args.told c.loop-told.page (pages_of s.limits.bits) so_far.from_on so_far.start (unchosen c.args.listing s.holdings c.args.from.space c.loop-told.page (pages_of s.limits.bits) c.in_default.ensures.next) c.loop-told.mappings c.loop-told.told so_far.written

pub overflow_add-page : goal.overflow_add-page
overflow_add-page c = omega (arith, c.in-Some.ensures.next.before, c.in-Some.ensures.small)

pub returns-clause-written : goal.returns-clause-written
returns-clause-written c =
    let s : State = c.args.database.now in
    let so_far = c.loop-told.invariant in
    space_full (chosen c.args.listing s.holdings) c.args.from.space c.args.from.page c.args.mappings.now c.args.told c.loop-told.page (pages_of s.limits.bits) so_far.from_on so_far.start c.loop-told.mappings c.loop-told.told so_far.written
    (omega (arith, c.loop-told-test.false, so_far.room))
