-- A run of 16 loses its bit where all its shards are dead.
use Rattle.std.proofs.Common.{◌≡◌, ◌∙◌, sym, ap, arith, ◌/◌, ◌*◌, ◌<◌, length, slice_index}
use Rattle.std.specs.Int.{bit_at}
use Rattle.std.proofs.lemmas.Grind.{div_ceil_times}
use Rattle.std.proofs.lemmas.List.{length-set, get_or_default}
use Rattle.space.specs.Positions.{most_of, position_in}
use Rattle.space.specs.declared.directory.Directory.{Directory}
use Rattle.space.proofs.Leaves.{found_in}
use Rattle.space.proofs.ShardWords.{run_dead}
use Rattle.space.proofs.shards.Shards.look_over_run.Goals as goal

pub invariant_of-self-then-next_in_leaf-end : goal.invariant_of-self-then-next_in_leaf-end
invariant_of-self-then-next_in_leaf-end c =
    let s = c.args.self.now in
    let run = c.args.run in
    let from : c.saturating_mul-from.result ≡ run * 16 = omega (arith, c.saturating_mul-from.ensures, c.min-end.ensures, c.most.ensures, c.if-from-end.false, ap most_of c.deref.ensures, (found_in s.directory.value).few) in
    let within : run / 16 < length s.runs.items = omega (arith, from, c.min-end.ensures, c.most.ensures, c.if-from-end.false, ap most_of c.deref.ensures, s.each_run, div_ceil_times (most_of s.directory.value) 256 (omega arith)) in
    let number : c.index-number.result.now ≡ slice_index s.runs.items (run / 16) = c.index-number.ensures ∙ get_or_default s.runs.items (run / 16) c.index-number.result.now 0 within in
    record {
      limits = s.limits;
      most = s.most;
      packed = s.packed;
      counted = s.counted;
      dead = s.dead;
      each_run = length-set s.runs.items (run / 16) c.without_life.result ∙ s.each_run;
      dead_runs =
          run_dead s.directory.value s.live.items s.runs.items s.dead_runs run c.without_life.result within (λ i low differ. c.without_life.ensures i low differ ∙ ap (λ n. bit_at n i) number)
          (λ shard of less. ap (λ live. slice_index live (position_in s.directory.value shard)) (sym c.deref-then-has_life-2.ensures.value) ∙ ap (λ (d : Directory). slice_index c.deref-then-has_life-2.result.now (position_in d shard)) (sym c.deref-then-has_life.ensures)
          ∙ c.next_in_leaf.ensures.dead shard (omega (arith, from, of))
          (omega (arith, from, of, less, c.if-next_in_leaf-end.true, c.min-end.ensures, c.saturating_add.ensures, c.most.ensures, ap most_of c.deref.ensures, (found_in s.directory.value).few)));
    }
