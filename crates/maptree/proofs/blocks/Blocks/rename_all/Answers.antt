-- Each block has its new places.
use Rattle.std.proofs.Common.{◌≡◌, length, map, ap, sym, subst, ◌∙◌, arith, rules, drop}
use Rattle.std.proofs.lemmas.List.{length-map, with_items_is}
use Rattle.maptree.specs.PlaceMaps.{place_for}
use Rattle.maptree.specs.Renamings.{nodes_renamed}
use Rattle.maptree.specs.Blocks.{nodes_in, is_least, is_most}
use Rattle.maptree.specs.Blocks.{AreMinDepths, AreStarts}
use Rattle.maptree.proofs.BlockChanges.{renamed_in}
use Rattle.maptree.proofs.Starts.{starts_same, renamed_before}
use Rattle.maptree.proofs.MinDepths.{min_depths_renamed}
use Rattle.maptree.proofs.Depths.{behind_renamed}
use Rattle.maptree.proofs.Deepest.{most_renamed}
use Rattle.maptree.proofs.blocks.Blocks.rename_all.Goals as goal

pub invariant_of-self : goal.invariant_of-self
invariant_of-self c =
    let items = c.self.inside.blocks.items in
    let new = c.rename_blocks.new.blocks in
    let is : new ≡ map (nodes_renamed (place_for c.args.new.now)) items = c.rename_blocks.ensures ∙ ap (map (nodes_renamed (place_for c.args.new.now))) c.deref_mut.ensures.value in
    let size : length new ≡ length items = ap length is ∙ length-map items (nodes_renamed (place_for c.args.new.now)) in
    let same : length new ≡ c.self.inside.blocks.len = search (rules, arith, size) in
    let now = with_items_is c.self.inside.blocks new same in
    let count = ap length now in
    let all = ap (λ l. length (nodes_in l)) (now ∙ is) ∙ ap length (renamed_in (place_for c.args.new.now) items) in
    let kept : length (nodes_renamed (place_for c.args.new.now) (nodes_in items)) ≡ length (nodes_in items) = length-map (nodes_in items) _ in
    let inv = c.self.invariant in
    let starts = starts_same items (map (nodes_renamed (place_for c.args.new.now)) items) c.self.inside.starts inv.5 (length-map items _) (renamed_before (place_for c.args.new.now) items) in (
      search (rules, arith, inv.0, all, kept),
      search (rules, arith, inv.1, count, size),
      inv.2,
      search (rules, arith, inv.3, count, size),
      inv.4,
      subst (λ l. AreStarts l c.self.inside.starts) (sym (now ∙ is)) starts,
      search (rules, arith, inv.6, count, size),
      subst (λ l. AreMinDepths l c.self.inside.min_depths.min_depths) (sym (now ∙ is)) (min_depths_renamed (place_for c.args.new.now) items c.self.inside.min_depths.min_depths inv.7),
      search (rules, arith, inv.8, count, size),
      ap (λ ns. is_least c.self.inside.behind (drop 1 ns)) (ap nodes_in (now ∙ is) ∙ renamed_in (place_for c.args.new.now) items) ∙ behind_renamed (place_for c.args.new.now) c.self.inside.behind (nodes_in items) ∙ inv.9,
      ap (is_most c.self.inside.deepest) (ap nodes_in (now ∙ is) ∙ renamed_in (place_for c.args.new.now) items) ∙ most_renamed (place_for c.args.new.now) c.self.inside.deepest (nodes_in items) ∙ inv.10,
    )

pub returns-clause-nodes : goal.returns-clause-nodes
returns-clause-nodes c =
    let items = c.self.inside.blocks.items in
    let new = c.rename_blocks.new.blocks in
    let is : new ≡ map (nodes_renamed (place_for c.args.new.now)) items = c.rename_blocks.ensures ∙ ap (map (nodes_renamed (place_for c.args.new.now))) c.deref_mut.ensures.value in
    let size : length new ≡ length items = ap length is ∙ length-map items (nodes_renamed (place_for c.args.new.now)) in
    let same : length new ≡ c.self.inside.blocks.len = search (rules, arith, size) in
    ap nodes_in (with_items_is c.self.inside.blocks new same ∙ is) ∙ renamed_in (place_for c.args.new.now) items
    ∙ ap (λ v. nodes_renamed (place_for c.args.new.now) (nodes_in v.blocks)) c.self.view_is
