-- Place after place of the run.
use Rattle.std.proofs.Common.{◌≡◌, ◌+◌, sym, ap, ◌∙◌, subst, arith}
use Rattle.space.specs.declared.place.Place.{Place}
use Rattle.maptree.specs.Origins.{Origins, place_at}
use Rattle.holdings.specs.Inner.FirstFrom.{IsFirstFrom}
use Rattle.holdings.proofs.FirstBelow.{first_more}
use Rattle.holdings.proofs.below.first_from.Goals as goal

pub loop-i-preserved : goal.loop-i-preserved
loop-i-preserved c =
    let so_far = c.loop-i.invariant in
    let os = c.args.tree.now.links in
    let here : (d : Place) → place_at os c.loop-i.i d ≡ c.at.result.place = λ d. ap (λ (l : Origins). place_at l c.loop-i.i d) (sym so_far.same) ∙ sym (c.at.ensures.place d) in
    record {
      same = c.at.ensures.same ∙ so_far.same;
      first = subst (IsFirstFrom os c.args.run.now.start (c.loop-i.i + 1) c.args.from) (sym c.earlier-first.ensures)
          (first_more os c.args.run.now.start c.loop-i.i c.args.from (omega arith) c.at.result.place here c.loop-i.first so_far.first);
    }
