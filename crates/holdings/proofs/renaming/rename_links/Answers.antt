-- The targets are told, the links are sorted, and the trees are renamed by parts.
use Rattle.std.proofs.Common.{◌≡◌, List, sym, subst, Result, Ok, Err}
use Rattle.std.specs.Result.{OnOk}
use Rattle.std.specs.List.Sorted.{IsPermutation}
use Rattle.maptree.specs.PlaceMaps.{place_for}
use Rattle.holdings.specs.declared.link.Link.{Link}
use Rattle.holdings.specs.Inner.Links.{AreTargets}
use Rattle.holdings.proofs.Renamings.MovingTrees.{can_be_renamed, frames_within, in_any_order}
use Rattle.holdings.proofs.renaming.rename_links.Goals as goal

-- in another order, as the trees read them
in_order : (ls sorted read : List Link) → IsPermutation ls sorted → read ≡ sorted → IsPermutation ls read
in_order ls sorted read order is = subst (IsPermutation ls) (sym is) order

told_of : (ls read : List Link) (new : _) → read ≡ ls → AreTargets read new → AreTargets ls new
told_of ls read new is are = subst (λ xs. AreTargets xs new) is are

-- what is so of the trees where the call succeeds
on_ok : {E : Type 0} (P Q : Type 0) → (P → Q) → (r : Result (Unit {0}) E) → OnOk r P → OnOk r Q
on_ok P Q so (Ok tt) p = so p
on_ok P Q so (Err e) p = tt

pub rename_parts-requires-clause-can : goal.rename_parts-requires-clause-can
rename_parts-requires-clause-can g c =
    let ls = c.args.links.items in
    let new = place_for c.in_ok-targets.targets in
    can_be_renamed new c.args.trees.now ls c.requires (told_of ls c.deref-2.result.now new c.deref-2.ensures.value c.in_ok-targets.ensures)

pub rename_parts-requires-clause-frames : goal.rename_parts-requires-clause-frames
rename_parts-requires-clause-frames g c =
    let ls = c.args.links.items in
    let new = place_for c.in_ok-targets.targets in
    frames_within new c.args.trees.now ls c.requires (told_of ls c.deref-2.result.now new c.deref-2.ensures.value c.in_ok-targets.ensures) c.deref-4.result.now
    (in_order ls c.sort_unstable_by_key.new.self.items c.deref-4.result.now c.sort_unstable_by_key.ensures.permutation c.deref-4.ensures.value)

pub returns : goal.returns
returns g c =
    let ls = c.args.links.items in
    let new = place_for c.in_ok-targets.targets in
    on_ok _ _
    (in_any_order new c.args.trees.now ls c.requires (told_of ls c.deref-2.result.now new c.deref-2.ensures.value c.in_ok-targets.ensures) c.deref-4.result.now
    (in_order ls c.sort_unstable_by_key.new.self.items c.deref-4.result.now c.sort_unstable_by_key.ensures.permutation c.deref-4.ensures.value) c.rename_parts.new.trees)
    c.rename_parts.result c.rename_parts.ensures
