-- Pages by the shards of their space.
use Rattle.std.proofs.Common.{◌∙◌, sym, ap, subst, slice_index, arith, ◌-◌, ◌*◌, ◌<◌, ◌≤◌, ◌≡◌}
use Rattle.std.specs.Int.{div_ceil}
use Rattle.std.proofs.lemmas.Grind.{div_ceil_times}
use Rattle.space.specs.Directory.{shard_of}
use Rattle.space.specs.Positions.{most_of, position_in, count_of}
use Rattle.space.specs.declared.directory.Directory.{Directory}
use Rattle.space.specs.Shards.{HasWord}
use Rattle.space.proofs.ShardWords.{shards_within, shard_from, shard_to, page_there, page_absent}
use Rattle.space.proofs.shards.Shards.first_from.Goals as goal

pub next-found-requires-clause-from : goal.next-found-requires-clause-from
next-found-requires-clause-from c =
    rw (c.shard-from.ensures.shard, c.shards_before-before.ensures, c.div_ceil.ensures) (shard_from c.args.self.now c.args.place c.requires.place c.args.end c.requires.from)

pub next-found-requires-clause-end : goal.next-found-requires-clause-end
next-found-requires-clause-end c =
    let most = shard_to c.args.self.now c.args.place c.requires.place c.args.end c.requires.end in
    let all = shards_within c.args.self.now c.args.place c.requires.place in
    omega (arith, most, all, c.shards_before-before.ensures, c.div_ceil.ensures, ap most_of c.deref.ensures)

pub returns-then-found-from-clause-there : goal.returns-then-found-from-clause-there
returns-then-found-from-clause-there c within =
    let last : c.args.end ≤ div_ceil c.args.end 64 * 64 = (div_ceil_times c.args.end 64 (omega arith)).0 in
    let there = c.next-found.ensures.there (omega (arith, c.if-found-from.true, within, last, c.shard-from.ensures.shard, c.shards_before-before.ensures, c.div_ceil.ensures)) in
    let low : position_in c.args.self.now.directory.value (shard_of c.args.self.now.bits c.args.place) < count_of c.args.self.now.directory.value =
    subst (λ k. position_in c.args.self.now.directory.value k < count_of c.args.self.now.directory.value) (c.if-found-from.true ∙ c.shard-from.ensures.shard) (subst (λ (d : Directory). position_in d c.next-found.result < count_of d) c.deref.ensures there) in
    omega (arith, low)

pub returns-clause-there : goal.returns-clause-there
returns-clause-there c within =
    let last : c.args.end ≤ div_ceil c.args.end 64 * 64 = (div_ceil_times c.args.end 64 (omega arith)).0 in
    let page : c.min.result ≡ (c.next-found.result - c.shards_before-before.result) * 64 = omega (arith, c.min.ensures, within) in
    let low = subst (λ (d : Directory). position_in d c.next-found.result < count_of d) c.deref.ensures (c.next-found.ensures.there (omega (arith, page, within, last, c.div_ceil.ensures))) in
    subst (λ page. HasWord c.args.self.now (record { space = c.args.place.space; page = page })) (omega (arith, page, c.shards_before-before.ensures))
    (page_there c.args.self.now c.args.place c.requires.place c.next-found.result (rw (← c.shard-from.ensures.shard) c.next-found.ensures.from) low)

pub returns-clause-absent : goal.returns-clause-absent
returns-clause-absent c p space from below =
    let s = c.args.self.now in
    page_absent s c.args.place c.requires.place c.next-found.result (rw (← c.shard-from.ensures.shard) c.next-found.ensures.from)
    (λ k low high. ap (λ live. slice_index live (position_in s.directory.value k)) (sym c.deref-2.ensures.value) ∙ ap (λ (d : Directory). slice_index c.deref-2.result.now (position_in d k)) (sym c.deref.ensures) ∙ c.next-found.ensures.dead k (rw c.shard-from.ensures.shard low) high) p space from
    (rw (← c.shards_before-before.ensures) (omega (arith, below, c.min.ensures)))
