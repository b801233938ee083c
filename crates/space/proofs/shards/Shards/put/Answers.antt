-- A word becomes another pack, and what stands at its place changes alone.
use Rattle.std.proofs.Common.{◌≡◌, ◌∙◌, sym, ap, subst, slice_index, slice_set}
use Rattle.std.specs.Option.{option_copied_mut}
use Rattle.std.proofs.lemmas.Option.{same_Some}
use Rattle.space.specs.declared.place.Place.{Place}
use Rattle.space.specs.Directory.{AreLive, AreWords}
use Rattle.space.specs.Positions.{count_of}
use Rattle.space.specs.Word.{entry_of}
use Rattle.space.specs.Shards.{index_of, entry_at, IsPlace}
use Rattle.space.proofs.Words.{pack_gives_back}
use Rattle.space.proofs.ShardWords.{live_set, words_set, words_reach, set_there, set_elsewhere}
use Rattle.space.proofs.shards.Shards.put.Goals as goal

pub invariant_of-self : goal.invariant_of-self
invariant_of-self c =
    let s = c.args.self.now in
    let old = c.unwrap-words.result.now in
    let held = sym c.as_mut.ensures.value ∙ ap option_copied_mut c.unwrap-words.ensures in
    record {
      limits = s.limits;
      most = s.most;
      packed = λ words is. subst (AreWords (count_of s.directory.value)) (same_Some _ words is) (words_set (count_of s.directory.value) old c.args.index c.args.word (s.packed old held) c.requires.pack);
      counted = s.counted;
      each_run = s.each_run;
      dead_runs = s.dead_runs;
      dead = λ words is. subst (AreLive s.live.items) (same_Some _ words is)
          (live_set s.live.items old c.args.index c.args.word (words_reach s old held c.args.index c.requires.within) c.requires.live (s.dead old held));
    }

pub returns-clause-set : goal.returns-clause-set
returns-clause-set c p place is =
    let s = c.args.self.now in
    let old = c.unwrap-words.result.now in
    let held = sym c.as_mut.ensures.value ∙ ap option_copied_mut c.unwrap-words.ensures in
    let within = words_reach s old held (index_of s p) (rw is c.requires.within) in
    let back = pack_gives_back c.args.word c.requires.pack in
    record {
      there = rw (← is) (subst (λ w. entry_of (slice_index (slice_set old.items (index_of s p) w) (index_of s p)) ≡ entry_of c.args.word) back.1 (set_there s old held p place within (entry_of c.args.word) back.0));
      elsewhere = rw (← is) (subst (λ w. (q : Place) → IsPlace s q → (q ≡ p → ⊥) → entry_of (slice_index (slice_set old.items (index_of s p) w) (index_of s q)) ≡ entry_at s q) back.1
          (set_elsewhere s old held p place within (entry_of c.args.word) back.0));
    }
