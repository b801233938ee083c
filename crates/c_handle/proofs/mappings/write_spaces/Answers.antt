-- Space after space, up to the end of the listing.
use Rattle.std.proofs.Common.{◌≡◌, ◌≤◌, ◌<◌, List, [], sym, ap, ◌∙◌, subst, arith}
use Rattle.space.specs.Directory.{pages_of}
use Rattle.space.specs.declared.place.Place.{Place}
use Rattle.model.specs.Definitions.Calls.{Limits}
use Rattle.mapdb.specs.State.{State}
use Rattle.c_handle.specs.Listed.{chosen, end_of, first_of, mappings_at, places_to, IsWritten}
use Rattle.c_handle.specs.declared.mappings.MappingReply.{MappingReply}
use Rattle.c_handle.proofs.Buffers.{written_none}
use Rattle.c_handle.proofs.Found.{ends_behind, spaces_next, none_found, found_behind}
use Rattle.c_handle.proofs.mappings.write_spaces.Goals as goal

pub returns-then-first-spaces : goal.returns-then-first-spaces
returns-then-first-spaces c =
    let s : State = c.args.database.now in
    let told = c.limits-spaces.ensures in
    let spaces = ap (λ (l : Limits). l.spaces) told.limits in
    let begins = ap (λ (p : Place). p.space) c.first-first.ensures in
    let past : s.limits.spaces ≤ (first_of c.args.listing).space = omega (arith, spaces, begins, c.if-first-spaces.true) in
    subst (λ (xs : List MappingReply). IsWritten c.args.mappings.now xs c.args.mappings.now 0) (sym (none_found s.limits s.holdings told.held c.args.listing past)) (written_none c.args.mappings.now)

pub loop-space-preserved : goal.loop-space-preserved
loop-space-preserved c =
    let s : State = c.args.database.now in
    let first = first_of c.args.listing in
    let begins = ap (λ (p : Place). p.space) c.first-first.ensures in
    let so_far = c.loop-space.invariant in
    let one = c.write_space-told-in-loop-space.ensures in
    record {
      room = omega (arith, one.told);
      written = spaces_next (chosen c.args.listing s.holdings) (pages_of s.limits.bits) first.space first.page c.args.mappings.now 0 c.loop-space.space (omega (arith, begins)) c.loop-space.mappings c.loop-space.told so_far.written
          c.write_space-told-in-loop-space.new.mappings c.write_space-told-in-loop-space.result one.written;
    }

pub returns : goal.returns
returns c =
    let s : State = c.args.database.now in
    let first = first_of c.args.listing in
    let told = c.limits-spaces.ensures in
    let spaces = ap (λ (l : Limits). l.spaces) told.limits in
    let begins = ap (λ (p : Place). p.space) c.first-first.ensures in
    let there : first.space < s.limits.spaces = omega (arith, spaces, begins, c.if-first-spaces.false) in
    let ends : c.end-space-end.result ≡ end_of c.args.listing s.limits.spaces = c.end-space-end.ensures ∙ ap (end_of c.args.listing) spaces in
    let end : c.loop-space.space ≡ end_of c.args.listing s.limits.spaces = omega (arith, begins, ends, ends_behind c.args.listing s.limits.spaces there) in
    let all = ap (λ n. mappings_at (chosen c.args.listing s.holdings) (places_to (pages_of s.limits.bits) first.space first.page n)) end ∙ sym (found_behind s.limits s.holdings told.held c.args.listing there) in
    let new = c.loop-space.mappings in
    subst (λ (xs : List MappingReply). IsWritten c.args.mappings.now xs new c.loop-space.told) all (c.loop-space.invariant.written c.args.mappings.now [] (written_none c.args.mappings.now))
