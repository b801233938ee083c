-- The first places of the outermost runs stand for all places.
use Rattle.std.proofs.Common.{List, sym, subst}
use Rattle.std.specs.List.{All}
use Rattle.maptree.specs.Origins.{Shape}
use Rattle.holdings.specs.Contents.{Contents}
use Rattle.holdings.specs.Places.{IsWithin}
use Rattle.holdings.specs.Inner.StripPlans.{AreOuterPlaces, StandFor}
use Rattle.holdings.proofs.Planned.Outermost.{outer_stand, among_within}
use Rattle.holdings.proofs.holdings.Holdings.outermost.Goals as goal

pub returns-clause-within : goal.returns-clause-within
returns-clause-within c =
    let outer = c.in_ok-room.field-0.items in
    subst (All (IsWithin c.args.self.now.limits)) (sym c.deref-2.ensures.value)
    (among_within c.args.self.now.limits c.args.places.now outer c.requires c.in_ok-room.ensures.named)

pub returns-clause-stand : goal.returns-clause-stand
returns-clause-stand c =
    let d = c.self.inside in
    let places = c.args.places.now in
    let outer = c.in_ok-room.field-0.items in
    subst (StandFor c.args.self.now places) (sym c.deref-2.ensures.value)
    (subst (λ (old : Contents). StandFor old places outer) c.self.view_is
    (outer_stand d.shards d.trees.items c.self.invariant places outer (subst (λ (ts : List Shape). AreOuterPlaces d.shards ts places outer) c.deref.ensures.value c.in_ok-room.ensures)))
