-- Words that are 0 are those of absent pages.
use Rattle.std.proofs.Common.{◌≡◌, ◌∙◌, sym, ap, arith, None, inl, inr, slice_index}
use Rattle.std.specs.Option.{option_copied}
use Rattle.space.specs.Shards.{entry_at}
use Rattle.space.proofs.Leaves.{within_or_past}
use Rattle.space.proofs.ShardWords.{absent_between}
use Rattle.space.proofs.shards.Shards.first_held_of_shard.Goals as goal

pub returns-then-at-absent-clause-absent : goal.returns-then-at-absent-clause-absent
returns-then-at-absent-clause-absent c p space from below =
    let s = c.args.self.now in
    let held = sym c.as_ref.ensures.value ∙ ap option_copied c.unwrap-words.ensures in
    elim (within_or_past p.page c.loop-page.page) as (λ _. entry_at s p ≡ None) [
      | inl before ↦ c.loop-page.invariant.absent p space from before
      | inr on ↦
          absent_between s c.args.place c.requires.place c.unwrap-words.result.now held c.args.start c.loop-page.page c.zeros-absent.result c.requires.start
          (λ i low high. ap (λ xs. slice_index xs i) (sym c.deref.ensures.value) ∙ c.zeros-absent.ensures.zeros i (omega (arith, low, c.offset.ensures.offset)) (omega (arith, high, c.offset.ensures.offset)))
          (omega (arith, c.zeros-absent.ensures.upto, c.min-to.ensures, c.offset.ensures.offset)) p space
          (omega (arith, below, on, c.requires.on, c.requires.end, c.zeros-absent.ensures.upto, c.min-to.ensures, c.loop-page.invariant.from, c.loop-page.invariant.upto)) on (omega (arith, below))
    ]

pub loop-page-preserved : goal.loop-page-preserved
loop-page-preserved c =
    let s = c.args.self.now in
    let held = sym c.as_ref.ensures.value ∙ ap option_copied c.unwrap-words.ensures in
    record {
      from = omega (arith, c.loop-page.invariant.from);
      upto = omega (arith, c.zeros-absent.ensures.upto, c.min-to.ensures, c.loop-page-test.true);
      absent = λ p space from below. elim (within_or_past p.page c.loop-page.page) as (λ _. entry_at s p ≡ None) [
        | inl before ↦ c.loop-page.invariant.absent p space from before
        | inr on ↦
            absent_between s c.args.place c.requires.place c.unwrap-words.result.now held c.args.start c.loop-page.page c.zeros-absent.result c.requires.start
            (λ i low high. ap (λ xs. slice_index xs i) (sym c.deref.ensures.value) ∙ c.zeros-absent.ensures.zeros i (omega (arith, low, c.offset.ensures.offset)) (omega (arith, high, c.offset.ensures.offset)))
            (omega (arith, c.zeros-absent.ensures.upto, c.min-to.ensures, c.offset.ensures.offset)) p space
            (omega (arith, below, on, c.requires.on, c.requires.end, c.zeros-absent.ensures.upto, c.min-to.ensures, c.loop-page.invariant.from, c.loop-page.invariant.upto)) on (omega (arith, below))
      ];
    }
