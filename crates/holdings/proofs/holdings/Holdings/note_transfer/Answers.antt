-- The ends are noted as they are held.
use Rattle.std.proofs.Common.{◌≡◌, true, ◌&&◌, ◌||◌, sym, ap, ◌∙◌}
use Rattle.fpage.specs.declared.item.ItemKind.TheVariants.{Map, Grant}
use Rattle.space.specs.Place.{same_place}
use Rattle.holdings.specs.Inner.Notes.{has_ends, is_end}
use Rattle.holdings.proofs.NotedPages.{added_more, added_same, page_added}
use Rattle.holdings.proofs.NotedTransfers.{lost_noted}
use Rattle.holdings.proofs.Trees.Pruning.{on_ok}
use Rattle.holdings.proofs.holdings.Holdings.note_transfer.Goals as goal

pub returns-then-not-has_ends : goal.returns-then-not-has_ends
returns-then-not-has_ends c =
    let h = c.args.self.now.holdings in
    let t = c.args.transfer.now in
    lost_noted h c.args.kind t (sym c.has_ends.ensures ∙ c.if-not-has_ends.true) c.args.list.now.items

pub returns-in-Map : goal.returns-in-Map
returns-in-Map c =
    let h = c.args.self.now.holdings in
    let t = c.args.transfer.now in
    let noted : has_ends h Map t ≡ true = sym (ap (λ k. has_ends h k t) c.in-Map.is) ∙ sym c.has_ends.ensures ∙ c.if-not-has_ends.false in
    added_same h (λ q. same_place q t.target) (λ q. is_end h c.args.kind q t) c.args.list.now.items c.add_note.new.list.items
    (λ q. sym (ap (λ k. is_end h k q t) c.in-Map.is ∙ ap (λ b. b && same_place q t.target) noted))
    (page_added h t.target t.extends (sym (c.requires.ready Map noted)) c.args.list.now.items c.add_note.new.list.items c.in_ok-add_note.ensures)

pub returns-in-Grant : goal.returns-in-Grant
returns-in-Grant c =
    let h = c.args.self.now.holdings in
    let t = c.args.transfer.now in
    let old = c.args.list.now.items in
    let now = c.add_note.new.list.items in
    let new = c.add_note-in-Grant.new.list.items in
    let noted : has_ends h Grant t ≡ true = sym (ap (λ k. has_ends h k t) c.in-Grant.is) ∙ sym c.has_ends.ensures ∙ c.if-not-has_ends.false in
    on_ok c.add_note-in-Grant.result c.add_note-in-Grant.ensures
    (λ more. added_same h (λ q. same_place q t.target || same_place q t.source) (λ q. is_end h c.args.kind q t) old new
    (λ q. sym (ap (λ k. is_end h k q t) c.in-Grant.is ∙ ap (λ b. b && (same_place q t.target || same_place q t.source)) noted))
    (added_more h (λ q. same_place q t.target) (λ q. same_place q t.source) old now new
    (page_added h t.target t.extends (sym (c.requires.ready Grant noted)) old now c.in_ok-add_note.ensures)
    (page_added h t.source true (sym noted) now new more)))
