-- The trees first, and then word by word. What is noted are the ends of the transfers that are not lost.
use Rattle.std.proofs.Common.{◌≡◌, ◌+◌, List, None, length, refl, sym, ap, ◌∙◌, subst, arith}
use Rattle.std.proofs.lemmas.List.{with_items_is}
use Rattle.maptree.specs.Origins.{Shape}
use Rattle.holdings.specs.Contents.{Contents, AreMoved}
use Rattle.holdings.specs.Inner.Held.{contents_of, layout_in, limits_in, holdings_in}
use Rattle.holdings.specs.Inner.Sound.{AreSound}
use Rattle.holdings.specs.Sending.{ArePlanned, AreFree}
use Rattle.holdings.specs.Inner.Links.{last_target, links_of}
use Rattle.holdings.specs.Inner.Renamings.{AreMovable, AreRenamed}
use Rattle.holdings.proofs.Links.LinkedTrees.{no_transfer}
use Rattle.holdings.proofs.Renamings.MovingWords.{AreMoving, none_moved, ends_apart, source_place, target_place, step, all_moved}
use Rattle.holdings.proofs.Renamings.MovingTrees.{movable, all_left, all_sound, same_limits}
use Rattle.std.proofs.Common.{Option, Some, None, refl}
use Rattle.space.specs.declared.place.Place.{Place}
use Rattle.space.specs.declared.place.Entry.{Entry}
use Rattle.space.specs.declared.shards.Shards.{Shards}
use Rattle.space.specs.Shards.{HasWord, entry_at}
use Rattle.holdings.specs.Inner.Renamings.{IsPageMoved}
use Rattle.holdings.proofs.Contents.Layouts.{same_grows}
use Rattle.holdings.proofs.Contents.WordChanges.{word_kept}
use Rattle.holdings.proofs.Contents.SameEntries.{made_from, made_says, made_there, moved_from, sound_stays}
use Rattle.holdings.proofs.Phases.Counted.{counted_by_words}
use Rattle.holdings.proofs.NotedTransfers.{moved_follow, ready_to_move}
use Rattle.std.proofs.lemmas.Result.{IfOk-weaker}
use Rattle.holdings.specs.Noting.{NotesFollow}
use Rattle.holdings.proofs.holdings.Holdings.rename.Goals as goal

-- shards that are there stay
words_stay : (old new : Shards) (source target : Place) → (entry_at old source ≡ None → new ≡ old) → ((e : Entry) → entry_at old source ≡ Some e → IsPageMoved old new source target e)
    → (p : Place) → HasWord old p → HasWord new p
words_stay old new source target lost mapped p has = by (entry_at old source) refl
  where
    by : (o : Option Entry) → entry_at old source ≡ o → HasWord new p
    by None is = subst (λ s. HasWord s p) (sym (lost is)) has
    by (Some e) is = word_kept old new (mapped e is).layout p has

pub rename_all-requires-clause-movable : goal.rename_all-requires-clause-movable
rename_all-requires-clause-movable g c =
    let s = c.make_targets.new.shards in
    let t = c.self.inside.trees.items in
    let limits = limits_in s t in
    let ts = c.args.transfers.now in
    let planned = subst (λ (h : Contents). ArePlanned h.limits ts) (sym (made_from c.self.inside.shards c.make_targets.new.shards c.self.inside.trees.items c.in_ok-make_targets.ensures.made c.in_ok-make_targets.ensures.present c.args.self c.self.view_is).view) c.requires.planned in
    let free = subst (λ (h : Contents). AreFree h.holdings ts) (sym (made_from c.self.inside.shards c.make_targets.new.shards c.self.inside.trees.items c.in_ok-make_targets.ensures.made c.in_ok-make_targets.ensures.present c.args.self c.self.view_is).view) c.requires.free in
    subst (λ (now : List Shape). AreMovable now (links_of s ts)) (sym c.deref_mut.ensures.value)
    (movable limits s t (sound_stays c.self.inside.shards c.make_targets.new.shards c.self.inside.trees.items (made_says c.self.inside.shards c.make_targets.new.shards c.in_ok-make_targets.ensures.made c.in_ok-make_targets.ensures.present) c.self.invariant) ts planned c.requires.all_go free (sym (sound_stays c.self.inside.shards c.make_targets.new.shards c.self.inside.trees.items (made_says c.self.inside.shards c.make_targets.new.shards c.in_ok-make_targets.ensures.made c.in_ok-make_targets.ensures.present) c.self.invariant).kept.fits.count))

pub loop-transfer-init : goal.loop-transfer-init
loop-transfer-init g c =
    let s = c.make_targets.new.shards in
    let t = c.self.inside.trees.items in
    let limits = limits_in s t in
    let ts = c.args.transfers.now in
    let planned = subst (λ (h : Contents). ArePlanned h.limits ts) (sym (made_from c.self.inside.shards c.make_targets.new.shards c.self.inside.trees.items c.in_ok-make_targets.ensures.made c.in_ok-make_targets.ensures.present c.args.self c.self.view_is).view) c.requires.planned in
    let free = subst (λ (h : Contents). AreFree h.holdings ts) (sym (made_from c.self.inside.shards c.make_targets.new.shards c.self.inside.trees.items c.in_ok-make_targets.ensures.made c.in_ok-make_targets.ensures.present c.args.self c.self.view_is).view) c.requires.free in
    record {
      moving =
          subst (λ (h : Contents). AreMoving h.limits h.holdings s ts 0 s) (made_from c.self.inside.shards c.make_targets.new.shards c.self.inside.trees.items c.in_ok-make_targets.ensures.made c.in_ok-make_targets.ensures.present c.args.self c.self.view_is).view
          (none_moved limits s t (sound_stays c.self.inside.shards c.make_targets.new.shards c.self.inside.trees.items (made_says c.self.inside.shards c.make_targets.new.shards c.in_ok-make_targets.ensures.made c.in_ok-make_targets.ensures.present) c.self.invariant) ts planned c.requires.all_go free);
      there = c.in_ok-make_targets.ensures.there;
    }

pub move_page-requires-clause-source : goal.move_page-requires-clause-source
move_page-requires-clause-source g c =
    let s = c.make_targets.new.shards in
    let t = c.self.inside.trees.items in
    let limits = limits_in s t in
    let ts = c.args.transfers.now in
    let planned = subst (λ (h : Contents). ArePlanned h.limits ts) (sym (made_from c.self.inside.shards c.make_targets.new.shards c.self.inside.trees.items c.in_ok-make_targets.ensures.made c.in_ok-make_targets.ensures.present c.args.self c.self.view_is).view) c.requires.planned in
    let free = subst (λ (h : Contents). AreFree h.holdings ts) (sym (made_from c.self.inside.shards c.make_targets.new.shards c.self.inside.trees.items c.in_ok-make_targets.ensures.made c.in_ok-make_targets.ensures.present c.args.self c.self.view_is).view) c.requires.free in
    let so_far = subst (λ (h : Contents). AreMoving h.limits h.holdings s ts c.loop-transfer.transfer-index c.loop-transfer.shards) (sym (made_from c.self.inside.shards c.make_targets.new.shards c.self.inside.trees.items c.in_ok-make_targets.ensures.made c.in_ok-make_targets.ensures.present c.args.self c.self.view_is).view) c.loop-transfer.invariant.moving in
    source_place limits s t (sound_stays c.self.inside.shards c.make_targets.new.shards c.self.inside.trees.items (made_says c.self.inside.shards c.make_targets.new.shards c.in_ok-make_targets.ensures.made c.in_ok-make_targets.ensures.present) c.self.invariant) ts planned c.requires.all_go free c.loop-transfer.transfer-index no_transfer c.loop-transfer-test.true c.loop-transfer.shards so_far

pub move_page-requires-clause-target : goal.move_page-requires-clause-target
move_page-requires-clause-target g c =
    let s = c.make_targets.new.shards in
    let t = c.self.inside.trees.items in
    let limits = limits_in s t in
    let ts = c.args.transfers.now in
    let planned = subst (λ (h : Contents). ArePlanned h.limits ts) (sym (made_from c.self.inside.shards c.make_targets.new.shards c.self.inside.trees.items c.in_ok-make_targets.ensures.made c.in_ok-make_targets.ensures.present c.args.self c.self.view_is).view) c.requires.planned in
    let free = subst (λ (h : Contents). AreFree h.holdings ts) (sym (made_from c.self.inside.shards c.make_targets.new.shards c.self.inside.trees.items c.in_ok-make_targets.ensures.made c.in_ok-make_targets.ensures.present c.args.self c.self.view_is).view) c.requires.free in
    let so_far = subst (λ (h : Contents). AreMoving h.limits h.holdings s ts c.loop-transfer.transfer-index c.loop-transfer.shards) (sym (made_from c.self.inside.shards c.make_targets.new.shards c.self.inside.trees.items c.in_ok-make_targets.ensures.made c.in_ok-make_targets.ensures.present c.args.self c.self.view_is).view) c.loop-transfer.invariant.moving in
    target_place limits s t (sound_stays c.self.inside.shards c.make_targets.new.shards c.self.inside.trees.items (made_says c.self.inside.shards c.make_targets.new.shards c.in_ok-make_targets.ensures.made c.in_ok-make_targets.ensures.present) c.self.invariant) ts planned c.requires.all_go free c.loop-transfer.transfer-index no_transfer c.loop-transfer-test.true c.loop-transfer.shards so_far

pub move_page-requires-clause-apart : goal.move_page-requires-clause-apart
move_page-requires-clause-apart g c =
    let s = c.make_targets.new.shards in
    let t = c.self.inside.trees.items in
    let limits = limits_in s t in
    let ts = c.args.transfers.now in
    let planned = subst (λ (h : Contents). ArePlanned h.limits ts) (sym (made_from c.self.inside.shards c.make_targets.new.shards c.self.inside.trees.items c.in_ok-make_targets.ensures.made c.in_ok-make_targets.ensures.present c.args.self c.self.view_is).view) c.requires.planned in
    let free = subst (λ (h : Contents). AreFree h.holdings ts) (sym (made_from c.self.inside.shards c.make_targets.new.shards c.self.inside.trees.items c.in_ok-make_targets.ensures.made c.in_ok-make_targets.ensures.present c.args.self c.self.view_is).view) c.requires.free in
    let so_far = subst (λ (h : Contents). AreMoving h.limits h.holdings s ts c.loop-transfer.transfer-index c.loop-transfer.shards) (sym (made_from c.self.inside.shards c.make_targets.new.shards c.self.inside.trees.items c.in_ok-make_targets.ensures.made c.in_ok-make_targets.ensures.present c.args.self c.self.view_is).view) c.loop-transfer.invariant.moving in
    ends_apart limits s t (sound_stays c.self.inside.shards c.make_targets.new.shards c.self.inside.trees.items (made_says c.self.inside.shards c.make_targets.new.shards c.in_ok-make_targets.ensures.made c.in_ok-make_targets.ensures.present) c.self.invariant) ts planned c.requires.all_go free c.loop-transfer.transfer-index no_transfer c.loop-transfer-test.true c.loop-transfer.shards so_far

pub move_page-requires-clause-present : goal.move_page-requires-clause-present
move_page-requires-clause-present g c = c.loop-transfer.invariant.moving.words.present

pub loop-transfer-preserved : goal.loop-transfer-preserved
loop-transfer-preserved g c =
    let s = c.make_targets.new.shards in
    let t = c.self.inside.trees.items in
    let limits = limits_in s t in
    let ts = c.args.transfers.now in
    let planned = subst (λ (h : Contents). ArePlanned h.limits ts) (sym (made_from c.self.inside.shards c.make_targets.new.shards c.self.inside.trees.items c.in_ok-make_targets.ensures.made c.in_ok-make_targets.ensures.present c.args.self c.self.view_is).view) c.requires.planned in
    let free = subst (λ (h : Contents). AreFree h.holdings ts) (sym (made_from c.self.inside.shards c.make_targets.new.shards c.self.inside.trees.items c.in_ok-make_targets.ensures.made c.in_ok-make_targets.ensures.present c.args.self c.self.view_is).view) c.requires.free in
    let so_far = subst (λ (h : Contents). AreMoving h.limits h.holdings s ts c.loop-transfer.transfer-index c.loop-transfer.shards) (sym (made_from c.self.inside.shards c.make_targets.new.shards c.self.inside.trees.items c.in_ok-make_targets.ensures.made c.in_ok-make_targets.ensures.present c.args.self c.self.view_is).view) c.loop-transfer.invariant.moving in
    record {
      moving =
          subst (λ (h : Contents). AreMoving h.limits h.holdings s ts (c.loop-transfer.transfer-index + 1) c.move_page.new.shards) (made_from c.self.inside.shards c.make_targets.new.shards c.self.inside.trees.items c.in_ok-make_targets.ensures.made c.in_ok-make_targets.ensures.present c.args.self c.self.view_is).view
          (step limits s t (sound_stays c.self.inside.shards c.make_targets.new.shards c.self.inside.trees.items (made_says c.self.inside.shards c.make_targets.new.shards c.in_ok-make_targets.ensures.made c.in_ok-make_targets.ensures.present) c.self.invariant) ts planned c.requires.all_go free c.loop-transfer.transfer-index no_transfer c.loop-transfer-test.true c.loop-transfer.shards so_far c.move_page.new.shards c.move_page.ensures.lost c.move_page.ensures.moved);
      there = λ k d less. words_stay c.loop-transfer.shards c.move_page.new.shards _ _ c.move_page.ensures.lost c.move_page.ensures.moved _ (c.loop-transfer.invariant.there k d less);
    }

pub invariant_of-result : goal.invariant_of-result
invariant_of-result g c =
    let s = c.make_targets.new.shards in
    let t = c.self.inside.trees.items in
    let limits = limits_in s t in
    let ts = c.args.transfers.now in
    let planned = subst (λ (h : Contents). ArePlanned h.limits ts) (sym (made_from c.self.inside.shards c.make_targets.new.shards c.self.inside.trees.items c.in_ok-make_targets.ensures.made c.in_ok-make_targets.ensures.present c.args.self c.self.view_is).view) c.requires.planned in
    let free = subst (λ (h : Contents). AreFree h.holdings ts) (sym (made_from c.self.inside.shards c.make_targets.new.shards c.self.inside.trees.items c.in_ok-make_targets.ensures.made c.in_ok-make_targets.ensures.present c.args.self c.self.view_is).view) c.requires.free in
    let so_far = subst (λ (h : Contents). AreMoving h.limits h.holdings s ts c.loop-transfer.transfer-index c.loop-transfer.shards) (sym (made_from c.self.inside.shards c.make_targets.new.shards c.self.inside.trees.items c.in_ok-make_targets.ensures.made c.in_ok-make_targets.ensures.present c.args.self c.self.view_is).view) c.loop-transfer.invariant.moving in
    let all = all_moved limits (holdings_in s t) s ts c.loop-transfer.transfer-index c.loop-transfer.shards c.loop-transfer-test.false so_far in
    let renamed = subst (λ (now : List Shape). AreRenamed (λ p. last_target (links_of s ts) p None) (links_of s ts) now c.rename_all.new.trees) c.deref_mut.ensures.value c.in_ok-counts.ensures.renamed in
    let count : length c.rename_all.new.trees ≡ c.self.inside.trees.len = omega (arith, c.rename_all.auto.trees, ap length c.deref_mut.ensures.value, c.self.inside.trees.ok.0) in
    let same = with_items_is c.self.inside.trees c.rename_all.new.trees count in
    subst (AreSound c.loop-transfer.shards) (sym same) (all_sound s t (sound_stays c.self.inside.shards c.make_targets.new.shards c.self.inside.trees.items (made_says c.self.inside.shards c.make_targets.new.shards c.in_ok-make_targets.ensures.made c.in_ok-make_targets.ensures.present) c.self.invariant) ts planned c.requires.all_go free c.loop-transfer.shards c.rename_all.new.trees (links_of s ts) refl renamed all.0)

pub returns-clause-moved : goal.returns-clause-moved
returns-clause-moved g c =
    let s = c.make_targets.new.shards in
    let t = c.self.inside.trees.items in
    let limits = limits_in s t in
    let ts = c.args.transfers.now in
    let planned = subst (λ (h : Contents). ArePlanned h.limits ts) (sym (made_from c.self.inside.shards c.make_targets.new.shards c.self.inside.trees.items c.in_ok-make_targets.ensures.made c.in_ok-make_targets.ensures.present c.args.self c.self.view_is).view) c.requires.planned in
    let free = subst (λ (h : Contents). AreFree h.holdings ts) (sym (made_from c.self.inside.shards c.make_targets.new.shards c.self.inside.trees.items c.in_ok-make_targets.ensures.made c.in_ok-make_targets.ensures.present c.args.self c.self.view_is).view) c.requires.free in
    let so_far = subst (λ (h : Contents). AreMoving h.limits h.holdings s ts c.loop-transfer.transfer-index c.loop-transfer.shards) (sym (made_from c.self.inside.shards c.make_targets.new.shards c.self.inside.trees.items c.in_ok-make_targets.ensures.made c.in_ok-make_targets.ensures.present c.args.self c.self.view_is).view) c.loop-transfer.invariant.moving in
    let all = all_moved limits (holdings_in s t) s ts c.loop-transfer.transfer-index c.loop-transfer.shards c.loop-transfer-test.false so_far in
    let renamed = subst (λ (now : List Shape). AreRenamed (λ p. last_target (links_of s ts) p None) (links_of s ts) now c.rename_all.new.trees) c.deref_mut.ensures.value c.in_ok-counts.ensures.renamed in
    let count : length c.rename_all.new.trees ≡ c.self.inside.trees.len = omega (arith, c.rename_all.auto.trees, ap length c.deref_mut.ensures.value, c.self.inside.trees.ok.0) in
    let same = with_items_is c.self.inside.trees c.rename_all.new.trees count in
    let left = all_left s t (sound_stays c.self.inside.shards c.make_targets.new.shards c.self.inside.trees.items (made_says c.self.inside.shards c.make_targets.new.shards c.in_ok-make_targets.ensures.made c.in_ok-make_targets.ensures.present) c.self.invariant) ts planned c.requires.all_go free c.loop-transfer.shards c.rename_all.new.trees (links_of s ts) refl renamed all.0 in
    let kept = same_limits s t (sound_stays c.self.inside.shards c.make_targets.new.shards c.self.inside.trees.items (made_says c.self.inside.shards c.make_targets.new.shards c.in_ok-make_targets.ensures.made c.in_ok-make_targets.ensures.present) c.self.invariant) ts planned c.requires.all_go free c.loop-transfer.shards c.rename_all.new.trees (links_of s ts) refl renamed all.0 in
    subst (λ (now : List Shape). AreMoved c.args.self ts (contents_of c.loop-transfer.shards now, c.in_ok-counts.counts)) (sym same)
    (moved_from c.args.self s t (made_from c.self.inside.shards c.make_targets.new.shards c.self.inside.trees.items c.in_ok-make_targets.ensures.made c.in_ok-make_targets.ensures.present c.args.self c.self.view_is) ts (contents_of c.loop-transfer.shards c.rename_all.new.trees, c.in_ok-counts.counts) (record {
      left = λ i. record { limits = kept i; holdings = left i; layout = layout_in c.loop-transfer.shards };
      grows = same_grows (layout_in s) (layout_in c.loop-transfer.shards) all.1;
      counted = c.in_ok-counts.ensures.counts ∙ counted_by_words s t ts planned.within;
    }))

pub note_transfers-requires-clause-ready : goal.note_transfers-requires-clause-ready
note_transfers-requires-clause-ready g c = ready_to_move c.args.self.holdings c.args.transfers.now c.requires.all_go c.requires.free

pub returns-then-not-is_small-clause-noted : goal.returns-then-not-is_small-clause-noted
returns-then-not-is_small-clause-noted g c =
    let old = c.args.self in
    IfOk-weaker c.rename_in_pieces.result (AreMoved old c.args.transfers.now) (λ r. NotesFollow old.holdings r.0.holdings c.args.notes.now c.note_transfers.new.notes)
    (λ r is. moved_follow old c.args.transfers.now r c.args.notes.now c.note_transfers.new.notes c.in_ok-note_transfers.ensures is) c.rename_in_pieces.ensures.moved

pub rename_all-requires-clause-places : goal.rename_all-requires-clause-places
rename_all-requires-clause-places g c = λ k d less. (made_there c.self.inside.shards c.make_targets.new.shards c.self.inside.trees.items c.in_ok-make_targets.ensures.made c.args.self c.self.view_is c.args.transfers.now c.requires.planned.within c.in_ok-make_targets.ensures.there k d less).0

pub move_page-requires-clause-there : goal.move_page-requires-clause-there
move_page-requires-clause-there g c = c.loop-transfer.invariant.there c.loop-transfer.transfer-index no_transfer c.loop-transfer-test.true

pub returns-clause-noted : goal.returns-clause-noted
returns-clause-noted g c = moved_follow c.args.self c.args.transfers.now _ c.args.notes.now c.note_transfers.new.notes c.in_ok-note_transfers.ensures (returns-clause-moved g c)
