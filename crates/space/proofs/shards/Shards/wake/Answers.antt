-- The shard of the page is live, and so is its run.
use Rattle.std.proofs.Common.{◌≡◌, ◌∙◌, ◌<◌, ◌/◌, ◌%◌, sym, ap, subst, arith, length, slice_index, slice_set}
use Rattle.std.specs.Int.{bit_at}
use Rattle.std.proofs.lemmas.Grind.{div_ceil_times}
use Rattle.std.proofs.lemmas.List.{length-set, get_or_default, get_or-set_same}
use Rattle.space.specs.Positions.{AreRunsOf, count_of, most_of, position_in}
use Rattle.space.specs.declared.directory.Directory.{Directory}
use Rattle.space.proofs.ShardWords.{live_revived, runs_revived, shard_can, shard_revived}
use Rattle.space.proofs.shards.Shards.wake.Goals as goal

pub invariant_of-self : goal.invariant_of-self
invariant_of-self c =
    let s = c.args.self.now in
    let shard = c.shard-shard.result in
    let position = c.position-position.result in
    let place = c.requires.place in
    let most = shard_can s c.args.place (record { space = place.space; page = place.page }) in
    let within : shard / 256 < length s.runs.items = omega (arith, most, c.shard-shard.ensures.shard, s.each_run, div_ceil_times (most_of s.directory.value) 256 (omega arith)) in
    let at : position ≡ position_in s.directory.value shard = c.position-position.ensures ∙ ap (λ (d : Directory). position_in d shard) c.deref.ensures in
    let there : position_in s.directory.value shard < count_of s.directory.value = subst (λ k. position_in s.directory.value k < count_of s.directory.value) (sym c.shard-shard.ensures.shard) (omega (arith, c.requires.has)) in
    let here : position < length s.live.items = omega (arith, there, at, s.counted) in
    let old : slice_index s.runs.items (shard / 256) ≡ c.index.result.now = sym (c.index.ensures ∙ get_or_default s.runs.items (shard / 256) c.index.result.now 0 within) in
    let number = c.with_life.result in
    let runs = slice_set s.runs.items (shard / 256) number in
    let now : slice_index runs (shard / 256) ≡ number = get_or-set_same s.runs.items (shard / 256) number 0 within in
    let are = runs_revived s.directory.value s.live.items s.runs.items s.dead_runs (shard / 256) number within (λ i none. ap (λ n. bit_at n i) old ∙ c.with_life.ensures.others i none) in
    record {
      limits = s.limits;
      most = s.most;
      packed = s.packed;
      counted = length-set s.live.items position 1 ∙ s.counted;
      dead = λ words is. live_revived s.live.items words position here (s.dead words is);
      each_run = length-set s.runs.items (shard / 256) number ∙ s.each_run;
      dead_runs =
          subst (λ k. AreRunsOf s.directory.value (slice_set s.live.items k 1) runs) (sym at)
          (shard_revived s.directory.value s.live.items runs are shard there (λ none. absurd (omega (arith, ap (λ n. bit_at n (shard / 16 % 16)) now, c.with_life.ensures.life, none))));
    }
