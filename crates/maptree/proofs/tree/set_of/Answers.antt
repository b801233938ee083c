-- One more place is in the set.
use Rattle.std.proofs.Common.{refl, sym, ap, ◌∙◌, is_ok}
use Rattle.space.proofs.Lists.{blank}
use Rattle.maptree.proofs.Outermost.{on_ok, one_named}
use Rattle.maptree.proofs.tree.set_of.Goals as goal

pub loop-place-preserved : goal.loop-place-preserved
loop-place-preserved c = λ q.
    let went = sym c.map_err.ensures.variant ∙ ap is_ok c.in_ok-map_err.was in
    one_named c.args.places.now c.loop-place.place-index q _ blank.place c.loop-place.set.keys c.insert.new.self.keys c.loop-place-test.true refl (c.loop-place.invariant q) ((on_ok c.insert.result _ went c.insert.ensures.updates).0 q)
