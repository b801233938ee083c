-- One shard more.
use Rattle.std.proofs.lemmas.List.Folds.{list_any_at}
use Rattle.space.specs.Shards.{are_beside}
use Rattle.space.proofs.Made.{made_on, only_on, place_on, has_more}
use Rattle.space.proofs.shards.Shards.make.Goals as goal

pub make_one-requires-clause-place : goal.make_one-requires-clause-place
make_one-requires-clause-place c = place_on c.args.self.now c.loop-place.self c.loop-place.invariant.made _ (c.requires.places c.loop-place.place-index _ c.loop-place-test.true)

pub returns-in_err-make_one-clause-made : goal.returns-in_err-make_one-clause-made
returns-in_err-make_one-clause-made c = made_on _ _ _ c.loop-place.invariant.made c.in_err-make_one.ensures.made

pub returns-in_err-make_one-clause-only : goal.returns-in_err-make_one-clause-only
returns-in_err-make_one-clause-only c =
    only_on _ _ _ _ _ c.in_err-make_one.ensures.made c.loop-place.invariant.only c.in_err-make_one.ensures.only (λ p is. list_any_at (λ q. are_beside q p) c.args.places.now c.loop-place.place-index _ c.loop-place-test.true is)

pub loop-place-preserved : goal.loop-place-preserved
loop-place-preserved c = record {
  made = made_on _ _ _ c.loop-place.invariant.made c.in_ok-make_one.ensures.made;
  there = has_more c.loop-place.self c.make_one.new.self c.args.places.now c.loop-place.place-index _ c.in_ok-make_one.ensures.made c.loop-place-test.true c.in_ok-make_one.ensures.there c.loop-place.invariant.there;
  only = only_on _ _ _ _ _ c.in_ok-make_one.ensures.made c.loop-place.invariant.only c.in_ok-make_one.ensures.only (λ p is. list_any_at (λ q. are_beside q p) c.args.places.now c.loop-place.place-index _ c.loop-place-test.true is);
  present = c.in_ok-make_one.ensures.present;
}
