-- Shard by shard.
use Rattle.std.proofs.Common.{◌≡◌, None, arith, inl, inr}
use Rattle.space.specs.declared.place.Place.{Place}
use Rattle.space.specs.Shards.{IsPlace, entry_at}
use Rattle.space.proofs.Leaves.{within_or_past}
use Rattle.space.proofs.ShardWords.{page_few}
use Rattle.space.proofs.shards.Shards.search.Goals as goal

pub page_behind_shard-requires : goal.page_behind_shard-requires
page_behind_shard-requires c =
    let s = c.args.self.now in
    let first : Place = record { space = c.args.place.space; page = c.first_from-first.result } in
    let is_first : IsPlace s first = record { space = c.requires.place.space; page = omega (arith, c.first_from-first.ensures.end, c.if-first-end.false, c.requires.end) } in
    page_few s first is_first

pub returns-then-found-behind-clause-absent : goal.returns-then-found-behind-clause-absent
returns-then-found-behind-clause-absent c p space from below =
    let s = c.args.self.now in
    elim (within_or_past p.page c.loop-page.page) as (λ _. entry_at s p ≡ None) [
      | inl before ↦ c.loop-page.invariant.absent p space from before
      | inr on ↦ elim (within_or_past p.page c.first_from-first.result) as (λ _. entry_at s p ≡ None) [
        | inl before ↦ c.first_from-first.ensures.absent p space on before
        | inr behind ↦ c.first_held_of_shard-found.ensures.absent p space behind below
      ]
    ]
