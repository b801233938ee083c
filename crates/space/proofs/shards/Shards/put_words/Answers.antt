-- No shard is dead.
use Rattle.std.proofs.Common.{◌≡◌, ◌∙◌, sym, ap, subst, length, slice_index}
use Rattle.std.specs.Vec.{with_items}
use Rattle.std.proofs.lemmas.List.{with_items_is}
use Rattle.std.proofs.lemmas.Option.{same_Some}
use Rattle.space.specs.Directory.{AreLive, AreWords}
use Rattle.space.specs.Positions.{count_of}
use Rattle.space.specs.Runs.{IsRevived}
use Rattle.space.proofs.ShardWords.{live_all, all_revived}
use Rattle.space.proofs.shards.Shards.put_words.Goals as goal

pub invariant_of-self : goal.invariant_of-self
invariant_of-self c =
    let s = c.args.self.now in
    let live = c.revive_all.new.live in
    let runs = c.revive_runs.new.runs in
    let many : length live ≡ length s.live.items = c.revive_all.ensures.each ∙ ap length c.deref_mut.ensures.value in
    let many_runs : length runs ≡ length s.runs.items = c.revive_runs.ensures.each ∙ ap length c.deref_mut-2.ensures.value in
    let live_is : (with_items s.live live).items ≡ live = with_items_is s.live live (many ∙ sym s.live.ok.0) in
    let runs_is : (with_items s.runs runs).items ≡ runs = with_items_is s.runs runs (many_runs ∙ sym s.runs.ok.0) in
    let each_run = many_runs ∙ s.each_run in
    record {
      limits = s.limits;
      most = s.most;
      packed = λ words is. subst (AreWords (count_of s.directory.value)) (same_Some c.args.words words is) (record { count = c.requires.count; packs = c.requires.packs });
      counted = ap length live_is ∙ many ∙ s.counted;
      dead = λ words is. subst (AreLive (with_items s.live live).items) (same_Some c.args.words words is)
          (subst (λ xs. AreLive xs c.args.words) (sym live_is) (live_all (count_of s.directory.value) live c.args.words c.requires.count (many ∙ s.counted) c.revive_all.ensures.all));
      each_run = ap length runs_is ∙ each_run;
      dead_runs = all_revived s.directory.value s.live.items s.runs.items s.dead_runs (with_items s.live live).items (with_items s.runs runs).items (ap length live_is ∙ many ∙ s.counted)
          (λ k. subst (λ xs. IsRevived (slice_index s.runs.items k) (slice_index xs k)) (sym runs_is) (subst (λ xs. IsRevived (slice_index xs k) (slice_index runs k)) c.deref_mut-2.ensures.value (c.revive_runs.ensures.all k)));
    }
