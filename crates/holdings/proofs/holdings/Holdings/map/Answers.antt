-- The trees first, and then word by word. What is noted are the targets of the transfers that are not lost.
use Rattle.std.proofs.Common.{◌≡◌, ◌+◌, List, length, sym, ap, ◌∙◌, subst, arith}
use Rattle.std.specs.Vec.{with_items}
use Rattle.std.proofs.lemmas.List.{with_items_is}
use Rattle.maptree.specs.Origins.{Shape}
use Rattle.holdings.specs.Contents.{AreMapped, Contents}
use Rattle.holdings.specs.Inner.Links.{AreLinkable, AreLinked, links_of}
use Rattle.holdings.specs.Sending.{ArePlanned, AreReady, counts_after_flush}
use Rattle.holdings.specs.Inner.Held.{layout_in, limits_in, holdings_in}
use Rattle.holdings.proofs.Maps.MapWords.{AreAhead, linkable, none_ahead, one_page, all_left, all_sound, all_limits}
use Rattle.std.proofs.Common.{Option, Some, None, refl}
use Rattle.fpage.specs.declared.rights.Rights.{Rights}
use Rattle.space.specs.declared.place.Place.{Place}
use Rattle.space.specs.declared.place.Entry.{Entry}
use Rattle.space.specs.declared.shards.Shards.{Shards}
use Rattle.space.specs.Shards.{HasWord, entry_at}
use Rattle.holdings.specs.declared.transfer.Transfer.{Transfer}
use Rattle.holdings.specs.Inner.Links.{IsPageMapped}
use Rattle.holdings.proofs.Contents.Layouts.{same_grows}
use Rattle.holdings.proofs.Contents.WordChanges.{word_kept}
use Rattle.holdings.proofs.Contents.SameEntries.{made_from, made_says, made_there, sound_stays}
use Rattle.holdings.proofs.Links.LinkedTrees.{no_transfer}
use Rattle.holdings.proofs.Phases.Counted.{counted_by_words}
use Rattle.holdings.proofs.NotedTransfers.{mapped_follow, ready_to_map}
use Rattle.std.proofs.lemmas.Result.{IfOk-weaker}
use Rattle.holdings.specs.Noting.{NotesFollow}
use Rattle.holdings.proofs.holdings.Holdings.map.Goals as goal

-- shards that are there stay
words_stay : (old new : Shards) (rights : Rights) (t : Transfer) → (entry_at old t.source ≡ None → new ≡ old) → ((e : Entry) → entry_at old t.source ≡ Some e → IsPageMapped old new rights t e)
    → (p : Place) → HasWord old p → HasWord new p
words_stay old new rights t lost mapped p has = by (entry_at old t.source) refl
  where
    by : (o : Option Entry) → entry_at old t.source ≡ o → HasWord new p
    by None is = subst (λ s. HasWord s p) (sym (lost is)) has
    by (Some e) is = word_kept old new (mapped e is).layout p has

pub link_all-requires-clause-linkable : goal.link_all-requires-clause-linkable
link_all-requires-clause-linkable g c =
    let s = c.make_targets.new.shards in
    let t = c.self.inside.trees.items in
    let planned = subst (λ (h : Contents). ArePlanned h.limits c.args.transfers.now) (sym (made_from c.self.inside.shards c.make_targets.new.shards c.self.inside.trees.items c.in_ok-make_targets.ensures.made c.in_ok-make_targets.ensures.present c.args.self c.self.view_is).view) c.requires.planned in
    let ready = subst (λ (h : Contents). AreReady h.holdings c.args.rights c.args.transfers.now) (sym (made_from c.self.inside.shards c.make_targets.new.shards c.self.inside.trees.items c.in_ok-make_targets.ensures.made c.in_ok-make_targets.ensures.present c.args.self c.self.view_is).view) c.requires.ready in
    subst (λ (ts : List Shape). AreLinkable ts (links_of s c.args.transfers.now)) (sym c.deref_mut.ensures.value) (linkable s t (sound_stays c.self.inside.shards c.make_targets.new.shards c.self.inside.trees.items (made_says c.self.inside.shards c.make_targets.new.shards c.in_ok-make_targets.ensures.made c.in_ok-make_targets.ensures.present) c.self.invariant) c.args.rights c.args.transfers.now planned ready)

pub loop-transfer-init : goal.loop-transfer-init
loop-transfer-init g c =
    let s = c.make_targets.new.shards in
    let t = c.self.inside.trees.items in
    let planned = subst (λ (h : Contents). ArePlanned h.limits c.args.transfers.now) (sym (made_from c.self.inside.shards c.make_targets.new.shards c.self.inside.trees.items c.in_ok-make_targets.ensures.made c.in_ok-make_targets.ensures.present c.args.self c.self.view_is).view) c.requires.planned in
    let ready = subst (λ (h : Contents). AreReady h.holdings c.args.rights c.args.transfers.now) (sym (made_from c.self.inside.shards c.make_targets.new.shards c.self.inside.trees.items c.in_ok-make_targets.ensures.made c.in_ok-make_targets.ensures.present c.args.self c.self.view_is).view) c.requires.ready in
    let linked : AreLinked (links_of s c.args.transfers.now) t c.link_all.new.trees =
    subst (λ (ts : List Shape). AreLinked (links_of s c.args.transfers.now) ts c.link_all.new.trees) c.deref_mut.ensures.value c.in_ok-counts.ensures.linked in
    let count : length c.link_all.new.trees ≡ c.self.inside.trees.len = omega (arith, c.link_all.auto.trees, ap length c.deref_mut.ensures.value, c.self.inside.trees.ok.0) in
    record {
      ahead =
          subst (λ (h : Contents). AreAhead s h.limits h.holdings c.args.rights c.args.transfers.now 0 s (with_items c.self.inside.trees c.link_all.new.trees).items) (made_from c.self.inside.shards c.make_targets.new.shards c.self.inside.trees.items c.in_ok-make_targets.ensures.made c.in_ok-make_targets.ensures.present c.args.self c.self.view_is).view
          (subst (λ ts. AreAhead s (limits_in s t) (holdings_in s t) c.args.rights c.args.transfers.now 0 s ts) (sym (with_items_is c.self.inside.trees c.link_all.new.trees count))
          (none_ahead s t (sound_stays c.self.inside.shards c.make_targets.new.shards c.self.inside.trees.items (made_says c.self.inside.shards c.make_targets.new.shards c.in_ok-make_targets.ensures.made c.in_ok-make_targets.ensures.present) c.self.invariant) c.args.rights c.args.transfers.now planned ready c.link_all.new.trees linked));
      there = c.in_ok-make_targets.ensures.there;
    }

pub loop-transfer-preserved : goal.loop-transfer-preserved
loop-transfer-preserved g c =
    let s = c.make_targets.new.shards in
    let t = c.self.inside.trees.items in
    let planned = subst (λ (h : Contents). ArePlanned h.limits c.args.transfers.now) (sym (made_from c.self.inside.shards c.make_targets.new.shards c.self.inside.trees.items c.in_ok-make_targets.ensures.made c.in_ok-make_targets.ensures.present c.args.self c.self.view_is).view) c.requires.planned in
    let ready = subst (λ (h : Contents). AreReady h.holdings c.args.rights c.args.transfers.now) (sym (made_from c.self.inside.shards c.make_targets.new.shards c.self.inside.trees.items c.in_ok-make_targets.ensures.made c.in_ok-make_targets.ensures.present c.args.self c.self.view_is).view) c.requires.ready in
    let after = (with_items c.self.inside.trees c.link_all.new.trees).items in
    let so_far = subst (λ (h : Contents). AreAhead s h.limits h.holdings c.args.rights c.args.transfers.now c.loop-transfer.transfer-index c.loop-transfer.shards after) (sym (made_from c.self.inside.shards c.make_targets.new.shards c.self.inside.trees.items c.in_ok-make_targets.ensures.made c.in_ok-make_targets.ensures.present c.args.self c.self.view_is).view) c.loop-transfer.invariant.ahead in
    record {
      ahead =
          subst (λ (h : Contents). AreAhead s h.limits h.holdings c.args.rights c.args.transfers.now (c.loop-transfer.transfer-index + 1) c.map_page.new.shards after) (made_from c.self.inside.shards c.make_targets.new.shards c.self.inside.trees.items c.in_ok-make_targets.ensures.made c.in_ok-make_targets.ensures.present c.args.self c.self.view_is).view
          (one_page s t c.args.rights c.args.transfers.now c.loop-transfer.transfer-index c.loop-transfer-test.true c.loop-transfer.shards after
          planned ready so_far c.map_page.new.shards c.map_page.ensures.lost c.map_page.ensures.mapped);
      there = λ k d less. words_stay c.loop-transfer.shards c.map_page.new.shards _ _ c.map_page.ensures.lost c.map_page.ensures.mapped _ (c.loop-transfer.invariant.there k d less);
    }

pub invariant_of-result : goal.invariant_of-result
invariant_of-result g c = all_sound _ _ _ _ _ _ _ _ c.loop-transfer-test.false c.loop-transfer.invariant.ahead

pub returns-clause-mapped : goal.returns-clause-mapped
returns-clause-mapped g c =
    let left = all_left _ _ _ _ _ _ _ _ c.loop-transfer-test.false c.loop-transfer.invariant.ahead in
    let limits = all_limits _ _ _ _ _ _ _ _ c.loop-transfer-test.false c.loop-transfer.invariant.ahead in
    let layout = c.loop-transfer.invariant.ahead.layout in
    let made = (made_from c.self.inside.shards c.make_targets.new.shards c.self.inside.trees.items c.in_ok-make_targets.ensures.made c.in_ok-make_targets.ensures.present c.args.self c.self.view_is) in
    record {
      left = λ i. record { limits = limits i; holdings = left i; layout = layout_in c.loop-transfer.shards };
      grows = λ p i is. same_grows _ _ layout p i (made.grows p i is);
      counted = c.in_ok-counts.ensures.counts ∙ counted_by_words c.make_targets.new.shards c.self.inside.trees.items c.args.transfers.now (subst (λ (h : Contents). ArePlanned h.limits c.args.transfers.now) (sym made.view) c.requires.planned).within
          ∙ ap (λ (h : Contents). counts_after_flush h.holdings c.args.transfers.now) made.view;
    }

pub note_transfers-requires-clause-ready : goal.note_transfers-requires-clause-ready
note_transfers-requires-clause-ready g c = ready_to_map c.args.self.holdings c.args.rights c.args.transfers.now c.requires.ready

pub returns-then-not-is_small-clause-noted : goal.returns-then-not-is_small-clause-noted
returns-then-not-is_small-clause-noted g c =
    let old = c.args.self in
    IfOk-weaker c.map_in_pieces.result (AreMapped old c.args.transfers.now c.args.rights) (λ r. NotesFollow old.holdings r.0.holdings c.args.notes.now c.note_transfers.new.notes)
    (λ r is. mapped_follow old c.args.transfers.now c.args.rights r c.args.notes.now c.note_transfers.new.notes c.in_ok-note_transfers.ensures is) c.map_in_pieces.ensures.mapped

pub link_all-requires-clause-places : goal.link_all-requires-clause-places
link_all-requires-clause-places g c = λ k d less. (made_there c.self.inside.shards c.make_targets.new.shards c.self.inside.trees.items c.in_ok-make_targets.ensures.made c.args.self c.self.view_is c.args.transfers.now c.requires.planned.within c.in_ok-make_targets.ensures.there k d less).0

pub map_page-requires-clause-there : goal.map_page-requires-clause-there
map_page-requires-clause-there g c = c.loop-transfer.invariant.there c.loop-transfer.transfer-index no_transfer c.loop-transfer-test.true

pub returns-clause-noted : goal.returns-clause-noted
returns-clause-noted g c = mapped_follow c.args.self c.args.transfers.now c.args.rights _ c.args.notes.now c.note_transfers.new.notes c.in_ok-note_transfers.ensures (returns-clause-mapped g c)
