-- One place more.
use Rattle.std.proofs.Common.{◌≡◌, ◌<◌, true, ℕ, ◌+◌, List, length, get_or, Option, option_map, sym, ap, ◌∙◌, subst, arith}
use Rattle.std.specs.Prelude.{IfSome}
use Rattle.std.specs.List.{All}
use Rattle.std.proofs.lemmas.List.{with_items_is}
use Rattle.space.specs.declared.place.Place.{Place}
use Rattle.space.specs.declared.place.Entry.{Entry}
use Rattle.space.specs.Shards.{index_of}
use Rattle.maptree.specs.Origins.{Shape}
use Rattle.model.specs.Definitions.Calls.{Limits}
use Rattle.model.specs.Definitions.Holdings.{Holdings, only}
use Rattle.model.specs.Definitions.Strip.{strip, strip_word}
use Rattle.holdings.specs.Contents.{Contents, IsStripped}
use Rattle.holdings.specs.Inner.Held.{contents_of, is_listed, limits_in, holdings_in}
use Rattle.holdings.specs.Places.{IsWithin, any_of}
use Rattle.holdings.specs.Inner.Sound.{AreSound}
use Rattle.holdings.specs.Noting.{NotesFollow}
use Rattle.holdings.proofs.NotedPages.{follow_same, follow_both}
use Rattle.holdings.proofs.Contents.Layouts.{same_layout}
use Rattle.holdings.proofs.Recursions.PlaceByPlace.{AreVisitedUpTo, none_visited, one_visited, none_there, all_visited}
use Rattle.holdings.proofs.holdings.Holdings.strip_one_by_one.Goals as goal

-- the place that is visited next
abbrev here : List Place → ℕ → Place
here places i = get_or places i (record { space = 0; page = 0 })

pub loop-place-init : goal.loop-place-init
loop-place-init c = record {
  visited = subst (AreVisitedUpTo c.self.inside.shards c.self.inside.trees.items c.args.places.now 0 c.args.revoked c.args.flush c.self.inside.shards c.self.inside.trees.items) (sym c.none-status.ensures)
      (none_visited c.self.inside.shards c.self.inside.trees.items c.self.invariant c.args.places.now c.args.revoked c.args.flush);
  noted = follow_same (holdings_in c.self.inside.shards c.self.inside.trees.items) c.args.notes.now c.make_room.new.self c.make_room.ensures.asked c.make_room.ensures.list;
}

pub get_with_index-requires-clause-place : goal.get_with_index-requires-clause-place
get_with_index-requires-clause-place c =
    let named = subst (λ (h : Contents). All (IsWithin h.limits) c.args.places.now) (sym c.self.view_is) c.requires in
    let within = subst (λ (l : Limits). IsWithin l (here c.args.places.now c.loop-place.place-index)) (sym c.loop-place.invariant.visited.limits) (named c.loop-place.place-index (record { space = 0; page = 0 }) c.loop-place-test.true) in
    record { space = within.space; page = within.page }

pub get_with_index-requires-clause-present : goal.get_with_index-requires-clause-present
get_with_index-requires-clause-present c = c.loop-place.invariant.visited.sound.kept.fits.present

pub loop-place-preserved-in_default : goal.loop-place-preserved-in_default
loop-place-preserved-in_default c =
    let named = subst (λ (h : Contents). All (IsWithin h.limits) c.args.places.now) (sym c.self.view_is) c.requires in
    let within = subst (λ (l : Limits). IsWithin l (here c.args.places.now c.loop-place.place-index)) (sym c.loop-place.invariant.visited.limits) (named c.loop-place.place-index (record { space = 0; page = 0 }) c.loop-place-test.true) in
    record {
      visited = none_there c.self.inside.shards c.self.inside.trees.items c.self.invariant c.args.places.now c.args.revoked c.args.flush c.loop-place.place-index (record { space = 0; page = 0 }) c.loop-place-test.true
          c.loop-place.shards c.loop-place.trees.items c.loop-place.status c.loop-place.invariant.visited within (sym c.get_with_index.ensures.entry ∙ ap (option_map (λ (r : Entry × ℕ). r.0)) c.in_default.is);
      noted = c.loop-place.invariant.noted;
    }

pub strip_place-requires-clause-index : goal.strip_place-requires-clause-index
strip_place-requires-clause-index c =
    subst (λ (o : Option (Entry × ℕ)). IfSome o (λ r. r.1 ≡ index_of c.loop-place.shards (here c.args.places.now c.loop-place.place-index))) c.in-Some.is c.get_with_index.ensures.index

pub strip_place-requires-clause-sound : goal.strip_place-requires-clause-sound
strip_place-requires-clause-sound c = subst (AreSound c.loop-place.shards) (sym c.deref_mut.ensures.value) c.loop-place.invariant.visited.sound

pub strip_place-requires-clause-frame : goal.strip_place-requires-clause-frame
strip_place-requires-clause-frame c =
    let named = subst (λ (h : Contents). All (IsWithin h.limits) c.args.places.now) (sym c.self.view_is) c.requires in
    let within = subst (λ (l : Limits). IsWithin l (here c.args.places.now c.loop-place.place-index)) (sym c.loop-place.invariant.visited.limits) (named c.loop-place.place-index (record { space = 0; page = 0 }) c.loop-place-test.true) in
    subst (λ (ts : List Shape). c.in-Some.entry.frame < length ts) (sym c.deref_mut.ensures.value)
    (c.loop-place.invariant.visited.sound.kept.fits.frame (here c.args.places.now c.loop-place.place-index) c.in-Some.entry within (sym c.get_with_index.ensures.entry ∙ ap (option_map (λ (r : Entry × ℕ). r.0)) c.in-Some.is))

pub strip_place-requires-clause-listed : goal.strip_place-requires-clause-listed
strip_place-requires-clause-listed c =
    let named = subst (λ (h : Contents). All (IsWithin h.limits) c.args.places.now) (sym c.self.view_is) c.requires in
    let within = subst (λ (l : Limits). IsWithin l (here c.args.places.now c.loop-place.place-index)) (sym c.loop-place.invariant.visited.limits) (named c.loop-place.place-index (record { space = 0; page = 0 }) c.loop-place-test.true) in
    subst (λ (ts : List Shape). is_listed ts c.in-Some.entry.frame (here c.args.places.now c.loop-place.place-index) ≡ true) (sym c.deref_mut.ensures.value)
    (c.loop-place.invariant.visited.sound.kept.fits.listed (here c.args.places.now c.loop-place.place-index) c.in-Some.entry within (sym c.get_with_index.ensures.entry ∙ ap (option_map (λ (r : Entry × ℕ). r.0)) c.in-Some.is))

pub loop-place-preserved : goal.loop-place-preserved
loop-place-preserved c =
    let s = c.self.inside.shards in
    let t = c.self.inside.trees.items in
    let p = here c.args.places.now c.loop-place.place-index in
    let was = ap (holdings_in c.loop-place.shards) c.deref_mut.ensures.value in
    let count : length c.strip_place.new.trees ≡ c.loop-place.trees.len = omega (arith, c.strip_place.auto.trees, ap length c.deref_mut.ensures.value, c.loop-place.trees.ok.0) in
    let next = one_visited s t c.self.invariant c.args.places.now c.args.revoked c.args.flush c.loop-place.place-index (record { space = 0; page = 0 }) c.loop-place-test.true
    c.loop-place.shards c.loop-place.trees.items c.loop-place.status c.loop-place.invariant.visited c.strip_place.new.shards c.strip_place.new.trees c.in_ok-gained.gained
    (c.in_ok-gained.ensures.status ∙ ap (λ h. strip_word h (only p)) was) (c.in_ok-gained.ensures.left ∙ ap (λ h. strip h (only p) c.args.revoked c.args.flush) was)
    c.in_ok-gained.ensures.sound (c.in_ok-gained.ensures.limits ∙ ap (limits_in c.loop-place.shards) c.deref_mut.ensures.value)
    (same_layout c.loop-place.shards c.strip_place.new.shards c.in_ok-gained.ensures.layout) in
    record {
      visited = subst (λ ts. AreVisitedUpTo s t c.args.places.now (c.loop-place.place-index + 1) c.args.revoked c.args.flush c.strip_place.new.shards ts c.join-status.result) (sym (with_items_is c.loop-place.trees c.strip_place.new.trees count))
          (subst (AreVisitedUpTo s t c.args.places.now (c.loop-place.place-index + 1) c.args.revoked c.args.flush c.strip_place.new.shards c.strip_place.new.trees) (sym c.join-status.ensures) next);
      noted = subst (λ ts. NotesFollow (holdings_in s t) (holdings_in c.strip_place.new.shards ts) c.args.notes.now c.strip_place.new.notes) (sym (with_items_is c.loop-place.trees c.strip_place.new.trees count))
          (follow_both (holdings_in s t) (holdings_in c.loop-place.shards c.loop-place.trees.items) (holdings_in c.strip_place.new.shards c.strip_place.new.trees) c.args.notes.now c.loop-place.notes c.strip_place.new.notes c.loop-place.invariant.noted
          (subst (λ (h : Holdings). NotesFollow h (holdings_in c.strip_place.new.shards c.strip_place.new.trees) c.loop-place.notes c.strip_place.new.notes) was c.in_ok-gained.ensures.noted));
    }

pub invariant_of-result : goal.invariant_of-result
invariant_of-result c = c.loop-place.invariant.visited.sound

pub returns-clause-stripped : goal.returns-clause-stripped
returns-clause-stripped c =
    let all = all_visited c.self.inside.shards c.self.inside.trees.items c.self.invariant c.args.places.now c.args.revoked c.args.flush c.loop-place.place-index c.loop-place.shards c.loop-place.trees.items c.loop-place.status c.loop-place-test.false c.loop-place.invariant.visited in
    subst (λ (old : Contents). IsStripped old (any_of c.args.places.now) c.args.revoked c.args.flush (contents_of c.loop-place.shards c.loop-place.trees.items, c.loop-place.status)) c.self.view_is
    (record { left = λ i. record { limits = c.loop-place.invariant.visited.limits i; holdings = all.1 i; layout = c.loop-place.invariant.visited.layout i }; status = all.0 })

pub returns-clause-noted : goal.returns-clause-noted
returns-clause-noted c =
    subst (λ (old : Contents). NotesFollow old.holdings (holdings_in c.loop-place.shards c.loop-place.trees.items) c.args.notes.now c.loop-place.notes) c.self.view_is c.loop-place.invariant.noted
