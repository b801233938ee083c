-- Shard by shard.
use Rattle.std.proofs.Common.{◌∙◌, arith}
use Rattle.space.specs.declared.place.Place.{Place}
use Rattle.space.specs.Shards.{IsPlace}
use Rattle.space.proofs.Made.{made_on}
use Rattle.space.proofs.ShardWords.{page_few}
use Rattle.space.proofs.shards.Shards.sweep.Goals as goal

pub page_behind_shard-requires : goal.page_behind_shard-requires
page_behind_shard-requires c =
    let s = c.args.self.now in
    let first : Place = record { space = c.args.place.space; page = c.first_from-first.result } in
    let is_first : IsPlace s first = record { space = c.requires.place.space; page = omega (arith, c.first_from-first.ensures.end, c.if-first-end.false, c.requires.end) } in
    page_few s first is_first

pub loop-page-preserved : goal.loop-page-preserved
loop-page-preserved c =
    let so_far = c.loop-page.invariant.layout in
    let next = c.look_over.ensures.layout in
    record {
      from = omega (arith, c.first_from-first.ensures.from, c.loop-page.invariant.from, c.min-page.ensures, c.page_behind_shard.ensures, c.requires.from);
      upto = omega (arith, c.min-page.ensures);
      made = made_on _ _ _ c.loop-page.invariant.made c.look_over.ensures.made;
      layout = record { spaces = next.spaces ∙ so_far.spaces; bits = next.bits ∙ so_far.bits; count = next.count ∙ so_far.count; index = λ p. next.index p ∙ so_far.index p };
      present = c.look_over.ensures.present;
    }

pub loop-run-preserved : goal.loop-run-preserved
loop-run-preserved c =
    let so_far = c.loop-run.invariant.layout in
    let next = c.look_over_run.ensures.layout in
    record {
      made = made_on _ _ _ c.loop-run.invariant.made c.look_over_run.ensures.made;
      layout = record { spaces = next.spaces ∙ so_far.spaces; bits = next.bits ∙ so_far.bits; count = next.count ∙ so_far.count; index = λ p. next.index p ∙ so_far.index p };
      present = c.look_over_run.ensures.present;
    }

pub returns-clause-made : goal.returns-clause-made
returns-clause-made c = made_on _ _ _ c.loop-page.invariant.made c.loop-run.invariant.made
