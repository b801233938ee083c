-- The words of the shard are 0, and the numbers of the runs stay.
use Rattle.std.proofs.Common.{◌∙◌, sym, ap, subst, arith, ◌/◌, slice_index, slice_set}
use Rattle.std.specs.Option.{option_copied}
use Rattle.std.proofs.lemmas.Option.{same_Some}
use Rattle.std.proofs.lemmas.List.{length-set}
use Rattle.space.specs.Directory.{AreLive}
use Rattle.space.proofs.ShardWords.{live_without, shard_dead}
use Rattle.space.proofs.shards.Shards.look_over.Goals as goal

pub invariant_of-self : goal.invariant_of-self
invariant_of-self c =
    let s = c.args.self.now in
    let start = c.start_of_shard-start.result in
    let old = c.unwrap-words.result.now in
    let held = sym c.as_ref.ensures.value ∙ ap option_copied c.unwrap-words.ensures in
    record {
      limits = s.limits;
      most = s.most;
      packed = s.packed;
      counted = length-set s.live.items (start / 64) 0 ∙ s.counted;
      dead = λ words is. subst (AreLive (slice_set s.live.items (start / 64) 0)) (same_Some old words (sym held ∙ is))
          (live_without s.live.items old start (omega (arith, c.start_of_shard-start.ensures))
          (λ i from before. ap (λ xs. slice_index xs i) (sym c.deref.ensures.value) ∙ c.holds_nothing.ensures c.if-holds_nothing.true i from before) (s.dead old held));
      each_run = s.each_run;
      dead_runs = shard_dead s.directory.value s.live.items s.runs.items s.dead_runs (start / 64);
    }
