-- The first held page is one of the space.
use Rattle.std.proofs.Common.{arith}
use Rattle.space.specs.declared.place.Place.{Place}
use Rattle.space.specs.Shards.{IsPlace}
use Rattle.space.proofs.ShardWords.{page_few}
use Rattle.space.proofs.shards.Shards.next_run.Goals as goal

pub page_behind_shard-requires : goal.page_behind_shard-requires
page_behind_shard-requires c =
    let s = c.args.self.now in
    let first : Place = record { space = c.args.place.space; page = c.search-start.result.page } in
    let is_first : IsPlace s first = record { space = c.requires.place.space; page = omega (arith, c.search-start.ensures.end, c.if-start-end.false, c.requires.end) } in
    page_few s first is_first
