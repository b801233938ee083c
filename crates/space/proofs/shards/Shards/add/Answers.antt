-- The words of the new shard stand behind the others, and each is 0.
use Rattle.std.proofs.Common.{◌≡◌, ◌∙◌, refl, sym, ap, subst, arith, ℕ, inl, ◌+◌, ◌*◌, ◌/◌, ◌%◌, ◌<◌, ◌++◌, ◌∷◌, [], length, slice_index, slice_set}
use Rattle.std.specs.Prelude.{replicate}
use Rattle.std.specs.Option.{option_copied_mut}
use Rattle.std.proofs.lemmas.Option.{same_Some}
use Rattle.std.proofs.lemmas.List.{length-append, length-set, length-replicate, get_or_default, get_or-set_same}
use Rattle.std.specs.List.{AllPass}
use Rattle.std.specs.Int.{bit_at, div_ceil}
use Rattle.std.proofs.lemmas.Grind.{div_ceil_times}
use Rattle.space.specs.Word.{entry_of, is_pack}
use Rattle.space.specs.Directory.{AreLive, AreWords, shard_of, offset_of}
use Rattle.space.specs.Positions.{count_of, most_of, position_in, IsAdded, IsSame}
use Rattle.space.specs.Shards.{index_of}
use Rattle.space.specs.declared.directory.Directory.{Directory}
use Rattle.space.proofs.ShardWords.{nowhere_unless, entry_read, read_now, index_kept, only_added, packs_longer, same_live, live_longer, shard_can, runs_longer, runs_revived, runs_same}
use Rattle.space.proofs.shards.Shards.add.Goals as goal

pub invariant_of-self-2-clause-packed : goal.invariant_of-self-2-clause-packed
invariant_of-self-2-clause-packed c words is =
    let s = c.args.self.now in
    let old = c.unwrap-words.result.now in
    let held = sym c.as_mut.ensures.value ∙ ap option_copied_mut c.unwrap-words.ensures in
    let are = s.packed old held in
    let after = c.add_absent.ensures ∙ ap (λ xs. xs ++ replicate 64 0) c.reserve.ensures.items in
    let longer = length-append old.items (replicate 64 0) in
    let more = length-replicate {A = ℕ} 64 0 in
    let added : count_of c.add.new.self ≡ count_of s.directory.value + 1 = c.in_ok-add.ensures.ok.count ∙ ap (λ (d : Directory). count_of d + 1) c.deref_mut.ensures.value in
    subst (AreWords c.add.new.self.count) (same_Some c.add_absent.new.words words is)
    (record {
      count = ap length after ∙ omega (arith, longer, more, are.count, added);
      packs = subst (AllPass is_pack) (sym after) (packs_longer old.items 64 are.packs);
    })

pub invariant_of-self-2-clause-dead : goal.invariant_of-self-2-clause-dead
invariant_of-self-2-clause-dead c words is =
    let s = c.args.self.now in
    let old = c.unwrap-words.result.now in
    let held = sym c.as_mut.ensures.value ∙ ap option_copied_mut c.unwrap-words.ensures in
    let after = c.add_absent.ensures ∙ ap (λ xs. xs ++ replicate 64 0) c.reserve.ensures.items in
    let now = c.push_reserved.ensures.items ∙ ap (λ xs. xs ++ 1 ∷ []) c.reserve-2.ensures.items in
    let are = s.packed old held in
    subst (AreLive c.push_reserved.new.self.items) (same_Some c.add_absent.new.words words is)
    (live_longer s.live.items c.push_reserved.new.self.items old c.add_absent.new.words now after (omega (arith, are.count, s.counted)) (s.dead old held))

pub index_mut-requires : goal.index_mut-requires
index_mut-requires c =
    let s = c.args.self.now in
    let most = shard_can s c.args.place (record { space = c.requires.place.space; page = c.requires.place.page }) in
    omega (arith, most, c.shard-shard.ensures.shard, s.each_run, div_ceil_times (most_of s.directory.value) 256 (omega arith), s.runs.ok.0)

pub invariant_of-self-2-clause-each_run : goal.invariant_of-self-2-clause-each_run
invariant_of-self-2-clause-each_run c =
    let s = c.args.self.now in
    length-set s.runs.items (c.shard-shard.result / 256) c.with_life.result ∙ s.each_run ∙ ap (λ n. div_ceil n 256) (sym (c.in_ok-add.ensures.ok.most ∙ ap most_of c.deref_mut.ensures.value))

pub invariant_of-self-2-clause-dead_runs : goal.invariant_of-self-2-clause-dead_runs
invariant_of-self-2-clause-dead_runs c =
    let s = c.args.self.now in
    let now = c.push_reserved.ensures.items ∙ ap (λ xs. xs ++ 1 ∷ []) c.reserve-2.ensures.items in
    let most = shard_can s c.args.place (record { space = c.requires.place.space; page = c.requires.place.page }) in
    let within : c.shard-shard.result / 256 < length s.runs.items = omega (arith, most, c.shard-shard.ensures.shard, s.each_run, div_ceil_times (most_of s.directory.value) 256 (omega arith)) in
    let shard = c.shard-shard.result in
    let old : slice_index s.runs.items (shard / 256) ≡ c.index.result.now = sym (c.index.ensures ∙ get_or_default s.runs.items (shard / 256) c.index.result.now 0 within) in
    let number = c.with_life.result in
    let runs = slice_set s.runs.items (shard / 256) number in
    let is : slice_index runs (shard / 256) ≡ number = get_or-set_same s.runs.items (shard / 256) number 0 within in
    let are = runs_revived s.directory.value s.live.items s.runs.items s.dead_runs (shard / 256) number within (λ i none. ap (λ n. bit_at n i) old ∙ c.with_life.ensures.others i none) in
    runs_longer s.directory.value s.live.items runs are c.add.new.self shard (subst (λ (d : Directory). IsAdded d c.add.new.self shard) c.deref_mut.ensures.value c.in_ok-add.ensures.ok) s.counted
    (λ none. absurd (omega (arith, ap (λ n. bit_at n (shard / 16 % 16)) is, c.with_life.ensures.life, none)))
    (λ none. absurd (omega (arith, ap (λ n. bit_at n (16 + shard / 16 % 16)) is, c.with_life.ensures.there, none))) c.push_reserved.new.self.items now

pub returns-clause-made : goal.returns-clause-made
returns-clause-made c =
    let s = c.args.self.now in
    let words = c.unwrap-words.result.now in
    let held = sym c.as_mut.ensures.value ∙ ap option_copied_mut c.unwrap-words.ensures in
    let added = subst (IsAdded s.directory.value c.add.new.self) c.shard-shard.ensures.shard (subst (λ (d : Directory). IsAdded d c.add.new.self c.shard-shard.result) c.deref_mut.ensures.value c.in_ok-add.ensures.ok) in
    let after = c.add_absent.ensures ∙ ap (λ xs. xs ++ replicate 64 0) c.reserve.ensures.items in
    record {
      spaces = refl;
      bits = refl;
      entries = read_now s words held c.args.place c.requires.absent c.add.new.self added c.add_absent.new.words.items after;
      index = index_kept s words held c.args.place c.requires.absent c.add.new.self added c.add_absent.new.words.items after;
      count = omega (arith, added.count);
    }

pub returns-clause-only : goal.returns-clause-only
returns-clause-only c =
    let s = c.args.self.now in
    let words = c.unwrap-words.result.now in
    let held = sym c.as_mut.ensures.value ∙ ap option_copied_mut c.unwrap-words.ensures in
    let added = subst (IsAdded s.directory.value c.add.new.self) c.shard-shard.ensures.shard (subst (λ (d : Directory). IsAdded d c.add.new.self c.shard-shard.result) c.deref_mut.ensures.value c.in_ok-add.ensures.ok) in
    let after = c.add_absent.ensures ∙ ap (λ xs. xs ++ replicate 64 0) c.reserve.ensures.items in
    record { each = λ p place has. only_added s words held c.args.place c.requires.absent c.add.new.self added c.add_absent.new.words.items after c.requires.place p (record { space = place.space; page = place.page }) has }

pub add-requires-clause-absent : goal.add-requires-clause-absent
add-requires-clause-absent c = ap (λ (d : Directory). position_in d c.shard-shard.result) c.deref_mut.ensures.value ∙ ap (position_in c.args.self.now.directory.value) c.shard-shard.ensures.shard ∙ nowhere_unless c.args.self.now c.args.place c.requires.absent

pub invariant_of-self-in-Break-branch-2 : goal.invariant_of-self-in-Break-branch-2
invariant_of-self-in-Break-branch-2 c =
    let s = c.args.self.now in
    let old = c.unwrap-words.result.now in
    let held = sym c.as_mut.ensures.value ∙ ap option_copied_mut c.unwrap-words.ensures in
    let are = s.packed old held in
    record {
      limits = s.limits;
      most = s.most;
      packed = λ words is. subst (AreWords s.directory.value.count) (same_Some c.reserve.new.self words is)
          (record { count = ap length c.reserve.ensures.items ∙ are.count; packs = subst (AllPass is_pack) (sym c.reserve.ensures.items) are.packs });
      counted = ap length c.reserve-2.ensures.items ∙ s.counted;
      each_run = s.each_run;
      dead_runs = runs_same s.directory.value s.live.items s.runs.items s.dead_runs s.directory.value (record { most = refl; count = refl; positions = λ k. refl }) c.reserve-2.new.self.items c.reserve-2.ensures.items;
      dead = λ words is. subst (AreLive c.reserve-2.new.self.items) (same_Some c.reserve.new.self words is)
          (same_live s.live.items c.reserve-2.new.self.items old c.reserve.new.self c.reserve-2.ensures.items c.reserve.ensures.items (s.dead old held));
    }

pub invariant_of-self-in-Break-branch-3 : goal.invariant_of-self-in-Break-branch-3
invariant_of-self-in-Break-branch-3 c =
    let s = c.args.self.now in
    let old = c.unwrap-words.result.now in
    let held = sym c.as_mut.ensures.value ∙ ap option_copied_mut c.unwrap-words.ensures in
    let are = s.packed old held in
    let same = subst (λ (d : Directory). IsSame d c.add.new.self) c.deref_mut.ensures.value c.in_err-add.ensures.err in
    record {
      limits = s.limits;
      most = same.most ∙ s.most;
      packed = λ words is. subst (AreWords c.add.new.self.count) (same_Some c.reserve.new.self words is)
          (record { count = omega (arith, ap length c.reserve.ensures.items, are.count, same.count); packs = subst (AllPass is_pack) (sym c.reserve.ensures.items) are.packs });
      counted = ap length c.reserve-2.ensures.items ∙ s.counted ∙ sym same.count;
      each_run = s.each_run ∙ ap (λ n. div_ceil n 256) (sym same.most);
      dead_runs = runs_same s.directory.value s.live.items s.runs.items s.dead_runs c.add.new.self same c.reserve-2.new.self.items c.reserve-2.ensures.items;
      dead = λ words is. subst (AreLive c.reserve-2.new.self.items) (same_Some c.reserve.new.self words is)
          (same_live s.live.items c.reserve-2.new.self.items old c.reserve.new.self c.reserve-2.ensures.items c.reserve.ensures.items (s.dead old held));
    }

pub returns-in_err-add-clause-made : goal.returns-in_err-add-clause-made
returns-in_err-add-clause-made c =
    let s = c.args.self.now in
    let words = c.unwrap-words.result.now in
    let held = sym c.as_mut.ensures.value ∙ ap option_copied_mut c.unwrap-words.ensures in
    let same = subst (λ (d : Directory). IsSame d c.add.new.self) c.deref_mut.ensures.value c.in_err-add.ensures.err in
    record {
      spaces = refl;
      bits = refl;
      entries = λ p.
          ap (λ at. entry_of (slice_index c.reserve.new.self.items (at * 64 + offset_of p))) (same.positions (shard_of s.bits p))
          ∙ ap (λ xs. entry_of (slice_index xs (index_of s p))) c.reserve.ensures.items ∙ sym (entry_read s words held p);
      index = λ p has. ap (λ at. at * 64 + offset_of p) (same.positions (shard_of s.bits p));
      count = omega (arith, same.count);
    }

pub returns-in_err-add-clause-only : goal.returns-in_err-add-clause-only
returns-in_err-add-clause-only c =
    let same = subst (λ (d : Directory). IsSame d c.add.new.self) c.deref_mut.ensures.value c.in_err-add.ensures.err in
    record { each = λ p place has. inl (omega (arith, has, same.positions (shard_of c.args.self.now.bits p), same.count)) }
