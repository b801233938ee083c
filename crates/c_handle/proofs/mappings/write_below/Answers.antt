-- Mapping after mapping below the page, until the buffer is full.
use Rattle.std.proofs.Common.{◌≡◌, ◌+◌, ◌++◌, List, [], ◌∷◌, length, sym, ap, ◌∙◌, subst, arith, append_assoc, append-nil, length-append}
use Rattle.space.specs.Directory.{pages_of}
use Rattle.space.specs.declared.place.Place.{Place}
use Rattle.model.specs.Definitions.Derived.{is_below}
use Rattle.model.specs.Definitions.Holdings.{only}
use Rattle.mapdb.specs.Held.{held_below, IsNextBelow, IsWithin}
use Rattle.mapdb.specs.State.{State}
use Rattle.c_handle.specs.Listed.{mappings_at, IsWritten}
use Rattle.c_handle.specs.declared.mappings.MappingReply.{MappingReply}
use Rattle.c_handle.proofs.Buffers.{written_none, writes_none, writes_both, writes_full}
use Rattle.c_handle.proofs.Found.{behind}
use Rattle.c_handle.proofs.FoundBelow.{rest, rest_none, rest_next, one_below}
use Rattle.c_handle.proofs.mappings.write_below.Goals as goal

pub loop-told-init : goal.loop-told-init
loop-told-init c =
    let s : State = c.args.database.now in
    record {
      room = omega arith;
      so_far = [];
      split = behind s.limits s.holdings c.limits.ensures.held (is_below s.holdings (only c.args.above)) c.args.first.space c.args.first.page;
      written = writes_none c.args.mappings.now 0;
    }

-- the next mapping, and those behind it
split : (s : State) (above from q : Place) → IsNextBelow s.holdings above from q → IsWithin s.limits q → rest (held_below s.holdings above) (pages_of s.limits.bits) s.limits.spaces from.space from.page
    ≡ mappings_at (held_below s.holdings above) (q ∷ []) ++ rest (held_below s.holdings above) (pages_of s.limits.bits) s.limits.spaces q.space (q.page + 1)
split s above from q next within = rest_next (held_below s.holdings above) (pages_of s.limits.bits) s.limits.spaces from.space from.page q next.behind next.before within.space within.page

pub loop-told-smaller : goal.loop-told-smaller
loop-told-smaller c =
    let s : State = c.args.database.now in
    let held = held_below s.holdings c.args.above in
    let later = rest held (pages_of s.limits.bits) s.limits.spaces c.in-Some.place.space (c.in-Some.place.page + 1) in
    let more = ap length (split s c.args.above c.loop-told.from c.in-Some.place c.in-Some.ensures.next c.in-Some.ensures.within) ∙ length-append (mappings_at held (c.in-Some.place ∷ [])) later in
    omega (arith, more, one_below s.holdings c.args.above c.loop-told.from c.in-Some.place c.in-Some.ensures.next)

pub loop-told-preserved : goal.loop-told-preserved
loop-told-preserved c =
    let s : State = c.args.database.now in
    let held = held_below s.holdings c.args.above in
    let so_far = c.loop-told.invariant in
    let one = c.write_page-told.ensures in
    let here = mappings_at held (c.in-Some.place ∷ []) in
    let later = rest held (pages_of s.limits.bits) s.limits.spaces c.in-Some.place.space (c.in-Some.place.page + 1) in
    record {
      room = omega (arith, one.told);
      so_far = so_far.so_far ++ here;
      split = so_far.split ∙ ap (λ l. so_far.so_far ++ l) (split s c.args.above c.loop-told.from c.in-Some.place c.in-Some.ensures.next c.in-Some.ensures.within) ∙ sym (append_assoc so_far.so_far here later);
      written = writes_both c.args.mappings.now 0 so_far.so_far c.loop-told.mappings c.loop-told.told so_far.written here c.write_page-told.new.mappings c.write_page-told.result one.written;
    }

pub returns-in_default : goal.returns-in_default
returns-in_default c =
    let s : State = c.args.database.now in
    let so_far = c.loop-told.invariant in
    let held = held_below s.holdings c.args.above in
    let none = rest_none held (pages_of s.limits.bits) s.limits.spaces c.loop-told.from.space c.loop-told.from.page c.in_default.ensures.next in
    let all = so_far.split ∙ ap (λ l. so_far.so_far ++ l) none ∙ append-nil so_far.so_far in
    subst (λ (xs : List MappingReply). IsWritten c.args.mappings.now xs c.loop-told.mappings c.loop-told.told) (sym all) (so_far.written c.args.mappings.now [] (written_none c.args.mappings.now))

pub returns : goal.returns
returns c =
    let s : State = c.args.database.now in
    let so_far = c.loop-told.invariant in
    let later = rest (held_below s.holdings c.args.above) (pages_of s.limits.bits) s.limits.spaces c.loop-told.from.space c.loop-told.from.page in
    let full = writes_full c.args.mappings.now 0 so_far.so_far c.loop-told.mappings c.loop-told.told so_far.written (omega (arith, c.loop-told-test.false, so_far.room)) later in
    subst (λ (xs : List MappingReply). IsWritten c.args.mappings.now xs c.loop-told.mappings c.loop-told.told) (sym so_far.split) (full c.args.mappings.now [] (written_none c.args.mappings.now))
