-- It stands there now, and others stayed.
use Rattle.std.proofs.Common.{◌<◌, ◌∷◌, [], Option, refl, subst, sym, length, slice_set, arith}
use Rattle.space.specs.declared.place.Place.{Place}
use Rattle.maptree.specs.Origins.{Origins}
use Rattle.holdings.specs.Inner.WordOrigins.{ArePut}
use Rattle.holdings.proofs.Contents.WordOrigins.{none_put, one_put, all_put}
use Rattle.holdings.proofs.origins.put_origin.Goals as goal

pub returns : goal.returns
returns c =
    let s = c.args.shards.now in
    let old = c.args.origins.now in
    let link : Place × Option Place = (c.args.place, c.args.origin) in
    let os : Origins = link ∷ [] in
    let i = c.index.result in
    let reached : i < length old = subst (λ n. n < length old) (sym c.index.ensures.index) c.requires.reached in
    subst (λ (origin : Option Place). ArePut s os old (slice_set old i origin)) (sym c.of.ensures)
    (all_put s os refl old 1 (slice_set old i c.args.origin) (omega arith) (one_put s os refl old 0 link i old (omega arith) refl c.index.ensures.index reached c.index.ensures.distinct (none_put s os refl old)))
