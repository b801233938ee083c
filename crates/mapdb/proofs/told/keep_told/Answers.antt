-- Each page is to be told, or the others are taken out.
use Rattle.std.proofs.Common.{◌≡◌, Some, filter, sym, ap, ◌∙◌, subst, Bool, true, false, Option, None, refl}
use Rattle.std.specs.List.{list_all}
use Rattle.std.specs.BTreeMap.{get}
use Rattle.space.specs.Place.{place_cmp}
use Rattle.model.specs.Definitions.Holdings.{is_held}
use Rattle.holdings.specs.Noting.{first_note}
use Rattle.mapdb.specs.Noted.{is_told, unless_held, Tells}
use Rattle.mapdb.proofs.ToldNotes.{told_as_is, told_filtered}
use Rattle.mapdb.proofs.told.keep_told.Goals as goal

pub returns-then-are_told-clause-told : goal.returns-then-are_told-clause-told
returns-then-are_told-clause-told c =
    told_as_is c.args.held.now.holdings c.args.notes.now.list.items (ap (list_all (λ n. is_told (Some n.was_held) (is_held c.args.held.now.holdings n.place))) (sym c.deref.ensures.value) ∙ sym c.are_told.ensures ∙ c.if-are_told.true)

-- of a page that is held no note matters
same : (o : Option Bool) (b : Bool) → is_told (unless_held b o) b ≡ is_told o b
same None true = refl
same (Some true) true = refl
same (Some false) true = refl
same o false = refl

pub returns-clause-told : goal.returns-clause-told
returns-clause-told c =
    let now = c.args.held.now.holdings in
    let list = c.args.notes.now.list.items in
    subst (Tells now list)
    (ap (λ f. filter f list) (λ i n. (sym (same (first_note list n.place) (is_held now n.place))
    ∙ ap (λ o. is_told o (is_held now n.place)) (sym (c.in_ok-firsts.ensures n.place ∙ ap (λ ns. unless_held (is_held now n.place) (first_note ns n.place)) c.deref-2.ensures.value))) i)
    ∙ sym (c.in_ok-notes.ensures ∙ ap (filter (λ n. is_told (get place_cmp c.in_ok-firsts.firsts n.place) (is_held now n.place))) c.deref-3.ensures.value))
    (told_filtered now list)
