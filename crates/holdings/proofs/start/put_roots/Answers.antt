-- One root more, in the shard of the first.
use Rattle.std.proofs.Common.{◌≡◌, ◌<◌, ◌≤◌, ◌-◌, ◌/◌, ◌+◌, ◌^◌, Some, refl, sym, ap, ◌∙◌, subst, arith, pow_mono}
use Rattle.std.proofs.lemmas.Option.{same_Some}
use Rattle.fpage.specs.declared.rights.Rights.{Rights}
use Rattle.space.specs.declared.place.Place.{Place}
use Rattle.space.specs.declared.place.Entry.{Entry}
use Rattle.space.specs.Directory.{offset_of, pages_of}
use Rattle.space.specs.Shards.{HasWord, IsPlace, IsSetAt, bits_of, entry_at, index_of}
use Rattle.space.proofs.ShardWords.{beside, has_beside}
use Rattle.holdings.specs.Inner.Start.{root_entry, root_place}
use Rattle.holdings.proofs.Contents.Roots.{root_set}
use Rattle.holdings.proofs.Contents.WordChanges.{place_kept, word_kept}
use Rattle.holdings.proofs.start.put_roots.Goals as goal
use Rattle.holdings.proofs.start.put_roots.Goals.{After-set_in_shard-arg-1}

pub loop-frame-init : goal.loop-frame-init
loop-frame-init c = record {
  layout = record { spaces = refl; bits = refl; count = refl; index = λ p. refl };
  present = c.requires.present;
  entries = c.requires.before;
}

-- the page of each of these frames is one
root_is_place : (c : After-set_in_shard-arg-1) → IsPlace c.args.shards.now (root_place c.loop-frame.frame)
root_is_place c = record { space = c.requires.spaces; page = omega (arith, c.loop-frame-test.true, c.requires.within) }

pub set_in_shard-requires-clause-place : goal.set_in_shard-requires-clause-place
set_in_shard-requires-clause-place c = subst (IsPlace c.loop-frame.shards) (sym c.root_place-place.ensures)
    (place_kept c.args.shards.now c.loop-frame.shards c.loop-frame.invariant.layout (root_place c.loop-frame.frame) (root_is_place c))

pub set_in_shard-requires-clause-present : goal.set_in_shard-requires-clause-present
set_in_shard-requires-clause-present c = c.loop-frame.invariant.present

pub set_in_shard-requires-clause-frame : goal.set_in_shard-requires-clause-frame
set_in_shard-requires-clause-frame c e is =
    let low : bits_of c.args.shards.now - 12 ≤ 20 = omega (arith, c.requires.few) in
    let few : pages_of (bits_of c.args.shards.now) ≤ 2 ^ 20 = pow_mono low in
    let frame : c.loop-frame.frame ≡ e.frame = ap (λ (x : Entry). x.frame) (same_Some _ e is) in
    omega (arith, frame, c.loop-frame-test.true, c.requires.within, few)

-- the first page of the shard, and the one whose root is next
first_is_place : (c : After-set_in_shard-arg-1) → IsPlace c.args.shards.now (root_place c.args.from)
first_is_place c = record { space = c.requires.spaces; page = omega (arith, c.requires.order, c.requires.within) }

in_one_shard : (c : After-set_in_shard-arg-1) → c.loop-frame.frame / 64 ≡ c.args.from / 64
in_one_shard c = omega (arith, c.loop-frame.auto.frame, c.loop-frame-test.true, c.requires.shard)

pub set_in_shard-requires-clause-start : goal.set_in_shard-requires-clause-start
set_in_shard-requires-clause-start c =
    let s = c.args.shards.now in
    let next = root_place c.loop-frame.frame in
    let start = c.start_of_shard-start.result in
    let first : start + offset_of (root_place c.args.from) ≡ index_of s (root_place c.args.from) =
    subst (λ p. start + offset_of p ≡ index_of s p) c.root_place-first.ensures c.start_of_shard-start.ensures in
    let at : start + offset_of next ≡ index_of c.loop-frame.shards next =
    omega (arith, first, beside s (root_place c.args.from) (first_is_place c) next refl (in_one_shard c), c.loop-frame.invariant.layout.index next) in
    subst (λ p. start + offset_of p ≡ index_of c.loop-frame.shards p) (sym c.root_place-place.ensures) at

pub set_in_shard-requires-clause-has : goal.set_in_shard-requires-clause-has
set_in_shard-requires-clause-has c =
    let s = c.args.shards.now in
    let next = root_place c.loop-frame.frame in
    subst (HasWord c.loop-frame.shards) (sym c.root_place-place.ensures)
    (word_kept s c.loop-frame.shards c.loop-frame.invariant.layout next (has_beside s (root_place c.args.from) (first_is_place c) c.requires.has next refl (in_one_shard c)))

pub loop-frame-preserved : goal.loop-frame-preserved
loop-frame-preserved c =
    let old = c.loop-frame.shards in
    let new = c.set_in_shard.new.self in
    let before = c.loop-frame.invariant in
    let layout = c.set_in_shard.ensures.layout in
    let set = subst (λ (r : Rights × Rights). IsSetAt old new c.root_place-place.result (Some (record { frame = c.loop-frame.frame; rights = r.0; status = r.1 }))) (λ i. (c.all.ensures i, c.none.ensures i)) c.set_in_shard.ensures.set in
    record {
      layout = record {
        spaces = layout.spaces ∙ before.layout.spaces;
        bits = layout.bits ∙ before.layout.bits;
        count = layout.count ∙ before.layout.count;
        index = λ p. layout.index p ∙ before.layout.index p;
      };
      present = c.set_in_shard.ensures.present;
      entries = λ p place.
          root_set c.loop-frame.frame old new c.root_place-place.result c.root_place-place.ensures set before.entries p
          (record { space = omega (arith, place.space, layout.spaces); page = subst (λ b. p.page < pages_of b) layout.bits place.page });
    }

-- the last frame was reached
pub returns-clause-entries : goal.returns-clause-entries
returns-clause-entries c p place =
    let end : c.loop-frame.frame ≡ c.args.end = omega (arith, c.loop-frame-test.false, c.loop-frame.auto.frame-end, c.requires.order) in
    subst (λ n. entry_at c.loop-frame.shards p ≡ root_entry n p) end (c.loop-frame.invariant.entries p place)

pub returns-clause-layout : goal.returns-clause-layout
returns-clause-layout c = c.loop-frame.invariant.layout

pub returns-clause-present : goal.returns-clause-present
returns-clause-present c = c.loop-frame.invariant.present
