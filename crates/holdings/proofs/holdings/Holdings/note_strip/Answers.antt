-- One page more, with all that derives from it.
use Rattle.std.proofs.Common.{◌≡◌, ◌+◌, true, ℕ, List, take, get_or, refl, sym, ap, ◌∙◌, subst, arith}
use Rattle.std.specs.List.{All}
use Rattle.space.proofs.Lists.{take_all}
use Rattle.space.specs.Shards.{IsPlace}
use Rattle.space.specs.declared.place.Place.{Place}
use Rattle.maptree.specs.Origins.{Origins}
use Rattle.model.specs.Definitions.Strip.{strip}
use Rattle.holdings.specs.Contents.{Contents}
use Rattle.holdings.specs.Inner.Derivation.{stands_in}
use Rattle.holdings.specs.Inner.Held.{holdings_in}
use Rattle.holdings.specs.Inner.Notes.{IsRunNoted, IsStripNoted}
use Rattle.holdings.specs.Noting.{NotesFollow}
use Rattle.holdings.specs.Places.{IsWithin, any_of}
use Rattle.holdings.specs.declared.notes.Notes.{Notes}
use Rattle.holdings.proofs.Contents.Holders.{links_read}
use Rattle.holdings.proofs.NotedPages.{absent_noted, lawful, none_noted, one_noted, places_there, run_noted, strip_follow}
use Rattle.holdings.proofs.holdings.Holdings.note_strip.Goals.{in-Some+in_ok-note_place, in_default}
use Rattle.holdings.proofs.holdings.Holdings.note_strip.Goals as goal

-- the page that is noted next
abbrev here : List Place → ℕ → Place
here places i = get_or places i (record { space = 0; page = 0 })

pub returns-then-not-notes : goal.returns-then-not-notes
returns-then-not-notes c = record { asked = refl; noted = λ is start noted. absurd (cc (c.if-not-notes.true, is)) }

pub loop-place-init : goal.loop-place-init
loop-place-init c = record {
  asked = refl;
  noted = none_noted (holdings_in c.self.inside.shards c.self.inside.trees.items) (lawful c.self.inside.shards c.self.inside.trees.items c.self.invariant) c.args.revoked c.args.flush c.args.places.now c.args.notes.now.list.items;
}

pub note_place-requires-clause-present : goal.note_place-requires-clause-present
note_place-requires-clause-present c = c.self.invariant.kept.fits.present

pub note_place-requires-clause-places : goal.note_place-requires-clause-places
note_place-requires-clause-places c =
    let trees = c.self.inside.trees.items in
    let p = here c.args.places.now c.loop-place.place-index in
    let named = subst (λ (h : Contents). All (IsWithin h.limits) c.args.places.now) (sym c.self.view_is) c.requires in
    let within = named c.loop-place.place-index (record { space = 0; page = 0 }) c.loop-place-test.true in
    let is = sym c.get.ensures ∙ c.in-Some.is in
    subst (λ (os : Origins). All (λ o. IsPlace c.self.inside.shards o.0) os)
    (links_read trees c.in-Some.entry.frame c.index-tree.result.now (omega (arith, c.self.invariant.kept.fits.frame p c.in-Some.entry within is, c.self.invariant.kept.fits.count)) c.index-tree.ensures)
    (places_there c.self.inside.shards trees c.self.invariant c.in-Some.entry.frame)

pub note_place-requires-clause-stands : goal.note_place-requires-clause-stands
note_place-requires-clause-stands c =
    let trees = c.self.inside.trees.items in
    let p = here c.args.places.now c.loop-place.place-index in
    let named = subst (λ (h : Contents). All (IsWithin h.limits) c.args.places.now) (sym c.self.view_is) c.requires in
    let within = named c.loop-place.place-index (record { space = 0; page = 0 }) c.loop-place-test.true in
    let is = sym c.get.ensures ∙ c.in-Some.is in
    subst (λ (os : Origins). stands_in os p ≡ true)
    (links_read trees c.in-Some.entry.frame c.index-tree.result.now (omega (arith, c.self.invariant.kept.fits.frame p c.in-Some.entry within is, c.self.invariant.kept.fits.count)) c.index-tree.ensures)
    (c.self.invariant.kept.fits.listed p c.in-Some.entry within is)

pub loop-place-preserved : goal.loop-place-preserved
loop-place-preserved c =
    let s = c.self.inside.shards in
    let trees = c.self.inside.trees.items in
    let h = holdings_in s trees in
    let law = lawful s trees c.self.invariant in
    let d : Place = record { space = 0; page = 0 } in
    let i = c.loop-place.place-index in
    let p = here c.args.places.now i in
    let old = c.args.notes.now.list.items in
    let now = c.loop-place.notes.list.items in
    let named = subst (λ (h : Contents). All (IsWithin h.limits) c.args.places.now) (sym c.self.view_is) c.requires in
    let within = named i d c.loop-place-test.true in
    elim c.match-get.branch [
      | in-Some+in_ok-note_place w ↦
          let frame = w.in-Some.entry.frame in
          let read = links_read trees frame w.index-tree.result.now (omega (arith, c.self.invariant.kept.fits.frame p w.in-Some.entry within (sym c.get.ensures ∙ w.in-Some.is), c.self.invariant.kept.fits.count)) w.index-tree.ensures in
          let new = w.note_place.new.list.items in
          record {
            asked = ap (λ (n : Notes). n.asked) w.notes-is ∙ c.loop-place.invariant.asked;
            noted = subst (λ (n : Notes). IsStripNoted h (any_of (take (i + 1) c.args.places.now)) c.args.revoked c.args.flush old n.list.items) (sym w.notes-is)
                (one_noted h law c.args.revoked c.args.flush c.args.places.now i d c.loop-place-test.true old now new c.loop-place.invariant.noted
                (run_noted s trees c.self.invariant c.args.revoked c.args.flush p frame now new (subst (λ (os : Origins). IsRunNoted s os p c.args.revoked c.args.flush now new) (sym read) w.in_ok-note_place.ensures)));
          }
      | in_default w ↦
          record {
            asked = ap (λ (n : Notes). n.asked) w.notes-is ∙ c.loop-place.invariant.asked;
            noted = subst (λ (n : Notes). IsStripNoted h (any_of (take (i + 1) c.args.places.now)) c.args.revoked c.args.flush old n.list.items) (sym w.notes-is)
                (one_noted h law c.args.revoked c.args.flush c.args.places.now i d c.loop-place-test.true old now now c.loop-place.invariant.noted
                (absent_noted s trees c.self.invariant c.args.revoked c.args.flush p within (sym c.get.ensures ∙ w.in_default.is) now));
          }
    ]

pub returns : goal.returns
returns c =
    let s = c.self.inside.shards in
    let trees = c.self.inside.trees.items in
    let set = any_of c.args.places.now in
    let all = take_all c.loop-place.place-index c.args.places.now c.loop-place-test.false in
    subst (λ (h : Contents). NotesFollow h.holdings (strip h.holdings set c.args.revoked c.args.flush) c.args.notes.now c.loop-place.notes) c.self.view_is
    (strip_follow (holdings_in s trees) (lawful s trees c.self.invariant) set c.args.revoked c.args.flush c.args.notes.now c.loop-place.notes
    (record {
      asked = c.loop-place.invariant.asked;
      added = λ is. subst (λ (ps : List Place). IsStripNoted (holdings_in s trees) (any_of ps) c.args.revoked c.args.flush c.args.notes.now.list.items c.loop-place.notes.list.items) all c.loop-place.invariant.noted;
    }))
