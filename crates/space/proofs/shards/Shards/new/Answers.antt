-- No shard is there, and so there are no words.
use Rattle.std.proofs.Common.{Vec, Global, [], slice_index, ◌≡◌, ◌∙◌, sym, ap, subst, length, ◌*◌, ◌-◌, ◌^◌, ◌%◌, ◌≤◌, arith, ℕ}
use Rattle.std.specs.List.{AllPass}
use Rattle.std.specs.Int.{div_ceil}
use Rattle.std.proofs.lemmas.Option.{same_Some}
use Rattle.std.proofs.lemmas.List.{get_or_past, length-replicate}
use Rattle.space.specs.Word.{is_pack}
use Rattle.space.specs.Directory.{AreWords, shards_of}
use Rattle.space.specs.Positions.{count_of, most_of, position_in}
use Rattle.space.specs.declared.directory.Directory.{Directory}
use Rattle.space.proofs.Directories.{shifted, few_shards}
use Rattle.space.proofs.shards.Shards.new.Goals as goal

all_is : (spaces bits : ℕ) → spaces ≤ 512 → bits ≤ 32 → spaces * 2 ^ (bits - 18) % 2 ^ 32 ≡ spaces * shards_of bits
all_is spaces bits few high = shifted spaces (bits - 18) 32 (omega (arith, high)) (omega (arith, few)) (omega arith)

pub new-requires : goal.new-requires
new-requires c = record { few = rw (all_is c.args.spaces c.args.bits c.requires.few c.requires.high) (few_shards c.args.spaces c.args.bits c.requires.few c.requires.high) }

pub invariant_of-result : goal.invariant_of-result
invariant_of-result c =
    let d = c.in_ok-directory.directory in
    let boxed = c.in-Ok.directory in
    let is_d : boxed.value ≡ d = c.in-Ok.ensures.ok in
    let items = c.new-3.ensures.items in
    let none : count_of boxed.value ≡ 0 = ap count_of is_d ∙ c.in_ok-directory.ensures.count in
    record {
      limits = c.requires;
      most = ap most_of is_d ∙ c.in_ok-directory.ensures.most ∙ all_is c.args.spaces c.args.bits c.requires.few c.requires.high;
      packed = λ words is. subst (AreWords (count_of boxed.value)) (same_Some c.new-3.result words is)
          (record { count = omega (arith, ap length items, none); packs = subst (AllPass is_pack) (sym items) (λ k d less. absurd (omega (arith, less))) });
      each_run = ap length (c.in_ok-runs.ensures.items_if_clones_equal (λ y is. is)) ∙ length-replicate {A = ℕ} c.div_ceil.result 0 ∙ c.div_ceil.ensures ∙ ap (λ n. div_ceil n 256) (c.most.ensures ∙ ap most_of c.deref.ensures);
      dead_runs = ∣ record {
        dead = λ shard less none. ap (λ xs. slice_index xs (position_in boxed.value shard)) c.new-4.ensures.items ∙ get_or_past [] (position_in boxed.value shard) 0 (omega arith);
        absent = λ shard less none. ap (λ (e : Directory). position_in e shard) is_d ∙ c.in_ok-directory.ensures.none shard;
      } ∣₁;
      counted = ap length c.new-4.ensures.items ∙ sym none;
      dead = λ words is i none. get_or_past words.items i 0 (omega (arith, ap (λ (v : Vec ℕ Global). length v.items) (same_Some c.new-3.result words is), ap length items));
    }
