-- Each page of the run is taken once, by its position, and the origin gains.
use Rattle.std.proofs.Common.{List, ◌≡◌, ℕ, ◌<◌, ◌≤◌, ◌+◌, ◌-◌, ◌||◌, ◌&&◌, false, true, Bool, not, length, slice_index, Some, None, option_map, refl, sym, ap, ◌∙◌, subst, arith}
use Rattle.std.proofs.Math.Bool.{or-false}
use Rattle.std.proofs.lemmas.Bool.{false_from_ne_true}
use Rattle.fpage.proofs.RightSets.{empty_has, has-none, same_rights}
use Rattle.fpage.specs.Rights.{is_empty, no_rights}
use Rattle.fpage.specs.declared.rights.Rights.{Rights}
use Rattle.space.specs.declared.place.Place.{Place}
use Rattle.space.specs.declared.shards.Shards.{Shards}
use Rattle.space.specs.Place.{same_place}
use Rattle.space.specs.Entries.{has_any}
use Rattle.space.specs.Shards.{HasWord, IsLaidOutAs, IsPlace, entry_at, index_of}
use Rattle.space.proofs.Places.{same_is, same_self}
use Rattle.maptree.specs.Origins.{Shape, origin_in, place_at, are_once}
use Rattle.maptree.proofs.Listed.{listed_at}
use Rattle.holdings.specs.Inner.Held.{links_in}
use Rattle.holdings.specs.Inner.Sound.{AreLoose}
use Rattle.holdings.specs.Inner.Stripping.{with_next}
use Rattle.holdings.specs.Inner.Notes.{AreLosersNoted, NotesAdd, IsNotedIf, loses_in, losing_from}
use Rattle.holdings.specs.Inner.Words.{IsThere}
use Rattle.holdings.proofs.Contents.Holders.{links_read}
use Rattle.holdings.proofs.NotedPages.{run_first, run_more}
use Rattle.holdings.proofs.Stripping.Walks.{IsWalked, IsStripped, walk_begins, walk_goes, place_any, listed_place, run_without_origin, run_without_status, run_with_origin, stands_at, stands_once, standing_there, not_among, walked}
use Rattle.holdings.proofs.Stripping.LeftOfRuns.{IsSeen, places_now, seen_more, seen_kept, run_left, none_seen}
use Rattle.holdings.proofs.one_by_one.strip_run.Goals.{After-add_status, In_default-origin_of, Then-is_empty, then-flush, else-flush, then-not-is_short, else-not-is_short, then-is_short, else-is_short}
use Rattle.holdings.proofs.Contents.WordChanges.{place_kept, word_kept}
use Rattle.holdings.proofs.one_by_one.strip_run.Goals as goal

-- a walk that has come to an end, and what it gathered under another name
walk_ends : (s : Shards) (trees : List Shape) (frame start : ℕ) (a : Rights) (f : Bool) (i j : ℕ) (now : Shards) (status word : Rights) (p q : Place) → p ≡ q → i ≡ j → status ≡ word
    → IsWalked s trees frame start p a f i now status → IsWalked s trees frame start q a f j now word
walk_ends s trees frame start a f i j now status word p q here end is walked =
    subst (λ r. IsWalked s trees frame start q a f j now r) is
    (subst (λ k. IsWalked s trees frame start q a f k now status) end (subst (λ x. IsWalked s trees frame start x a f i now status) here walked))

pub loop-from-init : goal.loop-from-init
loop-from-init c =
    let s = c.args.shards.now in
    let trees = c.args.trees.now in
    let frame = c.args.frame in
    let start = c.args.run.now.start in
    let links = links_in trees frame in
    let read = links_read trees frame c.index-trees-frame.result c.requires.frame c.index-trees-frame.is in
    let nodes = read ∙ sym c.nodes-nodes.ensures in
    let within : start < length links = omega (arith, c.requires.some, c.requires.within) in
    let once : are_once links ≡ true = subst (λ os. are_once os ≡ true) (sym read) c.learn_places_are_distinct.ensures in
    let d : Place = record { space = 0; page = 0 } in
    let q = stands_at trees frame start in
    let there : (e : Place) → place_at links start e ≡ q = λ e. place_any links start e d within in
    let only_there : (j : ℕ) (e : Place) → j < length links → place_at links j e ≡ q → j ≡ start = λ j e within_j is. stands_once links once start j e within within_j (is ∙ sym (there e)) in
    let loses : c.args.flush ≡ (c.args.flush || not (same_place q q)) = sym (ap (λ b. c.args.flush || not b) (same_self q) ∙ or-false c.args.flush) in
    let places = places_now s trees frame c.requires.loose s (record { spaces = refl; bits = refl; count = refl; index = λ p. refl }) in
    let place : IsPlace s q = places start d within in
    let found : index_of s q ≡ c.args.index = ap (index_of s) (sym (there d)) ∙ sym (c.requires.index d) in
    let narrowed = c.narrow_at-narrowed in
    let lost : c.if-flush.note_lost ≡ (c.args.flush && loses_in s c.args.revoked q) =
    elim c.if-flush.branch [
      | then-flush w ↦ w.note_lost-is ∙ narrowed.ensures.lost q found ∙ sym (ap (λ b. b && loses_in s c.args.revoked q) w.if-flush.true)
      | else-flush w ↦ w.note_lost-is ∙ w.if-flush.false ∙ sym (ap (λ b. b && loses_in s c.args.revoked q) w.if-flush.false)
    ] in
    let note = c.in_ok-note_lost.ensures in
    let old = c.args.notes.now.list.items in
    let new = c.note_lost.new.notes.list.items in
    let same : place_at c.nodes-nodes.result start d ≡ q = ap (λ os. place_at os start d) (sym nodes) ∙ there d in
    record {
      nodes = note.same ∙ c.nodes-nodes.ensures ∙ sym read;
      behind = omega arith;
      upto = omega (arith, c.requires.some);
      walked =
          walk_goes s trees c.requires.loose frame start q c.args.revoked c.args.flush start s narrowed.new.self no_rights narrowed.result.status q c.args.flush
          (walk_begins s trees c.requires.loose frame start q c.args.revoked c.args.flush)
          (omega arith) within there only_there loses (narrowed.ensures.status q found) (narrowed.ensures.set q place found) narrowed.ensures.present narrowed.ensures.layout;
      seen = subst (λ l. IsSeen l narrowed.new.self links start (start + 1)) (sym (c.with_next-left.ensures))
          (subst (λ l. IsSeen (with_next l start narrowed.result.held) narrowed.new.self links start (start + 1)) (sym c.of_none.ensures)
          (seen_more links start start s narrowed.new.self q _ (narrowed.ensures.set q place found) places within there only_there (record { held_to = start; rest_gone = true }) narrowed.result.held (narrowed.ensures.held q place found) (none_seen s links start)));
      noted = record {
        asked = (note.noted d).asked;
        added = λ asked.
            run_first links (loses_in s c.args.revoked) c.args.flush start q d within (sym (there d)) old new
            (subst (λ p. IsNotedIf (c.args.flush && loses_in s c.args.revoked q) p old new) same (subst (λ b. IsNotedIf b (place_at c.nodes-nodes.result start d) old new) lost ((note.noted d).added asked)));
      };
    }

pub find_words-requires-clause-within : goal.find_words-requires-clause-within
find_words-requires-clause-within c =
    let upto = c.loop-from.invariant.upto in
    let within : c.loop-from.from + c.min.result ≤ length (links_in c.args.trees.now c.args.frame) = omega (arith, c.min.ensures, upto, c.requires.within) in
    subst (λ os. c.loop-from.from + c.min.result ≤ length os) (sym c.loop-from.invariant.nodes) within

-- a place of the run has its word, however far the walk has come
word_there : (s : Shards) (trees : List Shape) (loose : AreLoose s trees) (frame : ℕ) (now : Shards) → IsLaidOutAs s now → (i : ℕ) (d : Place) → i < length (links_in trees frame) → IsThere now (place_at (links_in trees frame) i d)
word_there s trees loose frame now layout i d within =
    let p = place_at (links_in trees frame) i d in
    let there = standing_there s trees frame loose p (listed_at (links_in trees frame) i d within) in
    record { place = place_kept s now layout p there.place; word = word_kept s now layout p there.word }

pub find_words-requires-clause-words : goal.find_words-requires-clause-words
find_words-requires-clause-words c j d within =
    let trees = c.args.trees.now in
    let frame = c.args.frame in
    let nodes = c.loop-from.invariant.nodes in
    let inside : j < length (links_in trees frame) = subst (λ os. j < length os) nodes within in
    subst (IsThere c.loop-from.shards) (ap (λ os. place_at os j d) (sym nodes))
    (word_there c.args.shards.now trees c.requires.loose frame c.loop-from.shards c.loop-from.invariant.walked.layout j d inside)

pub index-index-requires-clause-place : goal.index-index-requires-clause-place
index-index-requires-clause-place c =
    let trees = c.args.trees.now in
    let frame = c.args.frame in
    let i = c.loop-i.i in
    let d : Place = record { space = 0; page = 0 } in
    let upto = c.loop-from.invariant.upto in
    let within : i < length (links_in trees frame) = omega (arith, c.loop-i-test.true, c.min.ensures, upto, c.requires.within) in
    let there = word_there c.args.shards.now trees c.requires.loose frame c.loop-i.shards c.loop-i.invariant.walked.layout i d within in
    subst (IsPlace c.loop-i.shards) (ap (λ os. place_at os i d) (sym c.loop-i.invariant.nodes) ∙ sym (c.at.ensures.place d)) there.place

pub index-index-requires-clause-has : goal.index-index-requires-clause-has
index-index-requires-clause-has c =
    let trees = c.args.trees.now in
    let frame = c.args.frame in
    let i = c.loop-i.i in
    let d : Place = record { space = 0; page = 0 } in
    let upto = c.loop-from.invariant.upto in
    let within : i < length (links_in trees frame) = omega (arith, c.loop-i-test.true, c.min.ensures, upto, c.requires.within) in
    let there = word_there c.args.shards.now trees c.requires.loose frame c.loop-i.shards c.loop-i.invariant.walked.layout i d within in
    subst (HasWord c.loop-i.shards) (ap (λ os. place_at os i d) (sym c.loop-i.invariant.nodes) ∙ sym (c.at.ensures.place d)) there.word

-- a place behind the first one is another
apart : (trees : List Shape) (frame : ℕ) → are_once (links_in trees frame) ≡ true → (start i : ℕ) → start < i → i < length (links_in trees frame) → same_place (stands_at trees frame i) (stands_at trees frame start) ≡ false
apart trees frame once start i behind within =
    let d : Place = record { space = 0; page = 0 } in
    false_from_ne_true _ (λ same. absurd (omega (arith, behind, stands_once (links_in trees frame) once i start d within (omega (arith, behind, within)) (sym (same_is (stands_at trees frame i) (stands_at trees frame start) same)))))

-- the places of a run that lose rights begin before one behind the first
losing_upto : (f : Bool) (start i : ℕ) → start < i → losing_from f start ≤ i
losing_upto true start i behind = omega (arith, behind)
losing_upto false start i behind = omega (arith, behind)

or_true : (b : Bool) → (b || true) ≡ true
or_true true = refl
or_true false = refl

pub loop-i-preserved : goal.loop-i-preserved
loop-i-preserved c =
    let s = c.args.shards.now in
    let trees = c.args.trees.now in
    let frame = c.args.frame in
    let start = c.args.run.now.start in
    let from = c.loop-from.from in
    let i = c.loop-i.i in
    let d : Place = record { space = 0; page = 0 } in
    let links = links_in trees frame in
    let now = c.loop-i.shards in
    let narrowed = c.narrow_at-narrowed-in-loop-i in
    let upto = c.loop-from.invariant.upto in
    let begun = c.loop-from.invariant.behind in
    let least : from ≤ i = omega (arith, c.loop-i.auto.i) in
    let behind : start < i = omega (arith, begun, least) in
    let within : i < length links = omega (arith, c.loop-i-test.true, c.min.ensures, upto, c.requires.within) in
    let read = links_read trees frame c.index-trees-frame.result c.requires.frame c.index-trees-frame.is in
    let once : are_once links ≡ true = subst (λ os. are_once os ≡ true) (sym read) c.learn_places_are_distinct.ensures in
    let q = stands_at trees frame i in
    let there : (e : Place) → place_at links i e ≡ q = λ e. place_any links i e d within in
    let only_there : (j : ℕ) (e : Place) → j < length links → place_at links j e ≡ q → j ≡ i = λ j e within_j is. stands_once links once i j e within within_j (is ∙ sym (there e)) in
    let loses : true ≡ (c.args.flush || not (same_place q (stands_at trees frame start))) = sym (ap (λ b. c.args.flush || not b) (apart trees frame once start i behind within) ∙ or_true c.args.flush) in
    let places = places_now s trees frame c.requires.loose now c.loop-i.invariant.walked.layout in
    let place : IsPlace now q = places i d within in
    let same_nodes : c.if-is_short.nodes ≡ c.loop-i.nodes =
    elim c.if-is_short.branch [
      | then-is_short w ↦ w.nodes-is ∙ w.at.ensures.same
      | else-is_short w ↦ w.nodes-is
    ] in
    let found : index_of now q ≡ c.if-is_short.index =
    elim c.if-is_short.branch as (λ _. index_of now q ≡ c.if-is_short.index) [
      | then-is_short w ↦ ap (index_of now) (ap (λ os. place_at os i d) (sym c.loop-i.invariant.nodes) ∙ sym (w.at.ensures.place d)) ∙ sym w.index-index.ensures.index ∙ sym w.index-is
      | else-is_short w ↦
          elim c.if-not-is_short.branch as (λ _. index_of now q ≡ c.if-is_short.index) [
            | else-not-is_short v ↦ absurd (omega (arith, v.if-not-is_short.false, w.if-is_short.false))
            | then-not-is_short v ↦
                c.loop-i.invariant.walked.layout.index q ∙ sym (c.loop-from.invariant.walked.layout.index q)
                ∙ sym (v.find_words.ensures.found i d least c.loop-i-test.true ∙ ap (λ os. index_of c.loop-from.shards (place_at os i d)) c.loop-from.invariant.nodes)
                ∙ ap (λ xs. slice_index xs (i - from)) (sym v.found-is) ∙ sym w.index-is
          ]
    ] in
    let stood : entry_at now q ≡ entry_at s q =
    c.loop-i.invariant.walked.entries q (listed_place s trees frame c.requires.loose i q within there)
    ∙ ap (λ b. walked b (c.args.flush || not (same_place q (stands_at trees frame start))) c.args.revoked (entry_at s q)) (not_among links start i q only_there) in
    let lost : narrowed.result.lost ≡ loses_in s c.args.revoked q = narrowed.ensures.lost q found ∙ ap (has_any c.args.revoked) stood in
    let note = c.in_ok-note_lost-2.ensures in
    let old = c.loop-i.notes.list.items in
    let new = c.note_lost-in-loop-i.new.notes.list.items in
    record {
      walked =
          subst (IsWalked s trees frame start (stands_at trees frame start) c.args.revoked c.args.flush (i + 1) narrowed.new.self) (sym c.join-status.ensures)
          (walk_goes s trees c.requires.loose frame start (stands_at trees frame start) c.args.revoked c.args.flush i now narrowed.new.self c.loop-i.status narrowed.result.status q true c.loop-i.invariant.walked
          (omega (arith, behind)) within there only_there loses (narrowed.ensures.status q found) (narrowed.ensures.set q place found) narrowed.ensures.present narrowed.ensures.layout);
      seen = subst (λ l. IsSeen l narrowed.new.self links start (i + 1)) (sym c.with_next-left-in-loop-i.ensures)
          (seen_more links start i now narrowed.new.self q _ (narrowed.ensures.set q place found) places within there only_there c.loop-i.left narrowed.result.held (narrowed.ensures.held q place found) c.loop-i.invariant.seen);
      nodes = note.same ∙ same_nodes ∙ c.loop-i.invariant.nodes;
      noted = record {
        asked = (note.noted d).asked ∙ c.loop-i.invariant.noted.asked;
        added = λ asked.
            run_more links (loses_in s c.args.revoked) (losing_from c.args.flush start) i q d (losing_upto c.args.flush start i behind) within (sym (there d)) c.args.notes.now.list.items old new
            (subst (λ p. IsNotedIf (loses_in s c.args.revoked q) p old new) (ap (λ os. place_at os i d) (same_nodes ∙ c.loop-i.invariant.nodes))
            (subst (λ b. IsNotedIf b (place_at c.if-is_short.nodes i d) old new) lost ((note.noted d).added (c.loop-i.invariant.noted.asked ∙ asked))))
            (c.loop-i.invariant.noted.added asked);
      };
    }

pub loop-from-preserved : goal.loop-from-preserved
loop-from-preserved c =
    let s = c.args.shards.now in
    let trees = c.args.trees.now in
    let frame = c.args.frame in
    let start = c.args.run.now.start in
    let upto = c.loop-from.invariant.upto in
    let begun = c.loop-from.invariant.behind in
    let end : c.loop-i.i ≡ c.loop-from.from + c.min.result = omega (arith, c.loop-i-test.false, c.loop-i.auto.i, c.loop-i.auto.i-end) in
    record {
      nodes = c.loop-i.invariant.nodes;
      behind = omega (arith, begun);
      upto = omega (arith, c.min.ensures, upto);
      walked = subst (λ i. IsWalked s trees frame start (stands_at trees frame start) c.args.revoked c.args.flush i c.loop-i.shards c.loop-i.status) end c.loop-i.invariant.walked;
      seen = subst (IsSeen c.loop-i.left c.loop-i.shards (links_in trees frame) start) end c.loop-i.invariant.seen;
      noted = subst (λ i. NotesAdd (AreLosersNoted s (links_in trees frame) (losing_from c.args.flush start) i c.args.revoked) c.args.notes.now c.loop-i.notes) end c.loop-i.invariant.noted;
    }

pub origin_of-requires : goal.origin_of-requires
origin_of-requires c =
    let links = links_read c.args.trees.now c.args.frame c.index-trees-frame.result c.requires.frame c.index-trees-frame.is in
    let within : c.args.run.now.start < length (links_in c.args.trees.now c.args.frame) = omega (arith, c.requires.some, c.requires.within) in
    subst (λ os. c.args.run.now.start < length os) links within

pub at-requires-in-Some : goal.at-requires-in-Some
at-requires-in-Some c =
    let less = c.in-Some.ensures.before in
    let within : c.in-Some.origin < length (links_in c.args.trees.now c.args.frame) = omega (arith, less, c.requires.some, c.requires.within) in
    subst (λ os. c.in-Some.origin < length os) (sym c.loop-from.invariant.nodes) within

pub add_status-requires-clause-place : goal.add_status-requires-clause-place
add_status-requires-clause-place c =
    let links = links_read c.args.trees.now c.args.frame c.index-trees-frame.result c.requires.frame c.index-trees-frame.is in
    let less = c.in-Some.ensures.before in
    place_kept c.args.shards.now c.loop-from.shards c.loop-from.invariant.walked.layout c.at-in-Some.result.place
    (listed_place c.args.shards.now c.args.trees.now c.args.frame c.requires.loose c.in-Some.origin c.at-in-Some.result.place (omega (arith, less, c.requires.some, c.requires.within))
    (λ e. ap (λ os. place_at os c.in-Some.origin e) (sym c.loop-from.invariant.nodes) ∙ sym (c.at-in-Some.ensures.place e)))

-- the walk has come to the end of the run
walked_some : (c : After-add_status) (d : Place) → IsWalked c.args.shards.now c.args.trees.now c.args.frame c.args.run.now.start (place_at (links_in c.args.trees.now c.args.frame) c.args.run.now.start d) c.args.revoked c.args.flush c.args.run.now.end c.loop-from.shards c.rights-status.result
walked_some c d =
    let s = c.args.shards.now in
    let trees = c.args.trees.now in
    let start = c.args.run.now.start in
    let within : start < length (links_in trees c.args.frame) = omega (arith, c.requires.some, c.requires.within) in
    let here : stands_at trees c.args.frame start ≡ place_at (links_in trees c.args.frame) start d = place_any (links_in trees c.args.frame) start (record { space = 0; page = 0 }) d within in
    let upto = c.loop-from.invariant.upto in
    let end : c.loop-from.from ≡ c.args.run.now.end = omega (arith, c.loop-from-test.false, upto) in
    walk_ends s trees c.args.frame start c.args.revoked c.args.flush c.loop-from.from c.args.run.now.end c.loop-from.shards c.loop-from.status c.rights-status.result _ _ here end (sym c.rights-status.ensures) c.loop-from.invariant.walked

walked_none : (c : In_default-origin_of) (d : Place) → IsWalked c.args.shards.now c.args.trees.now c.args.frame c.args.run.now.start (place_at (links_in c.args.trees.now c.args.frame) c.args.run.now.start d) c.args.revoked c.args.flush c.args.run.now.end c.loop-from.shards c.rights-status.result
walked_none c d =
    let s = c.args.shards.now in
    let trees = c.args.trees.now in
    let start = c.args.run.now.start in
    let within : start < length (links_in trees c.args.frame) = omega (arith, c.requires.some, c.requires.within) in
    let here : stands_at trees c.args.frame start ≡ place_at (links_in trees c.args.frame) start d = place_any (links_in trees c.args.frame) start (record { space = 0; page = 0 }) d within in
    let upto = c.loop-from.invariant.upto in
    let end : c.loop-from.from ≡ c.args.run.now.end = omega (arith, c.loop-from-test.false, upto) in
    walk_ends s trees c.args.frame start c.args.revoked c.args.flush c.loop-from.from c.args.run.now.end c.loop-from.shards c.loop-from.status c.rights-status.result _ _ here end (sym c.rights-status.ensures) c.loop-from.invariant.walked

with_origin : (c : After-add_status) (d : Place) → IsStripped c.args.shards.now c.args.trees.now (place_at (links_in c.args.trees.now c.args.frame) c.args.run.now.start d) c.args.revoked c.args.flush c.add_status.new.self c.rights-status.result
with_origin c d =
    let links = links_read c.args.trees.now c.args.frame c.index-trees-frame.result c.requires.frame c.index-trees-frame.is in
    let p = place_at (links_in c.args.trees.now c.args.frame) c.args.run.now.start d in
    let within : c.args.run.now.start < length (links_in c.args.trees.now c.args.frame) = omega (arith, c.requires.some, c.requires.within) in
    let first : (e : Place) → place_at (links_in c.args.trees.now c.args.frame) c.args.run.now.start e ≡ p = λ e. place_any (links_in c.args.trees.now c.args.frame) c.args.run.now.start e d within in
    let origin : origin_in (links_in c.args.trees.now c.args.frame) p ≡ Some c.at-in-Some.result.place =
    ap (λ os. origin_in os (place_at os c.args.run.now.start d)) links ∙ c.origin_of.ensures.origin d ∙ ap (option_map (λ r. place_at c.index-trees-frame.result.links r d)) c.in-Some.is
    ∙ ap Some (ap (λ os. place_at os c.in-Some.origin d) (sym links ∙ sym c.loop-from.invariant.nodes) ∙ sym (c.at-in-Some.ensures.place d)) in
    let less = c.in-Some.ensures.before in
    let place = place_kept c.args.shards.now c.loop-from.shards c.loop-from.invariant.walked.layout c.at-in-Some.result.place
    (listed_place c.args.shards.now c.args.trees.now c.args.frame c.requires.loose c.in-Some.origin c.at-in-Some.result.place (omega (arith, less, c.requires.some, c.requires.within))
    (λ e. ap (λ os. place_at os c.in-Some.origin e) (sym c.loop-from.invariant.nodes) ∙ sym (c.at-in-Some.ensures.place e))) in
    run_with_origin c.args.shards.now c.args.trees.now c.requires.loose c.args.frame c.args.run.now c.requires.run c.requires.some c.requires.within p first c.args.revoked c.args.flush c.loop-from.shards c.rights-status.result (walked_some c d)
    c.at-in-Some.result.place c.add_status.new.self origin place c.add_status.ensures.set c.add_status.ensures.present c.add_status.ensures.layout

without_origin : (c : In_default-origin_of) (d : Place) → IsStripped c.args.shards.now c.args.trees.now (place_at (links_in c.args.trees.now c.args.frame) c.args.run.now.start d) c.args.revoked c.args.flush c.loop-from.shards c.rights-status.result
without_origin c d =
    let links = links_read c.args.trees.now c.args.frame c.index-trees-frame.result c.requires.frame c.index-trees-frame.is in
    let p = place_at (links_in c.args.trees.now c.args.frame) c.args.run.now.start d in
    let within : c.args.run.now.start < length (links_in c.args.trees.now c.args.frame) = omega (arith, c.requires.some, c.requires.within) in
    let first : (e : Place) → place_at (links_in c.args.trees.now c.args.frame) c.args.run.now.start e ≡ p = λ e. place_any (links_in c.args.trees.now c.args.frame) c.args.run.now.start e d within in
    let origin : origin_in (links_in c.args.trees.now c.args.frame) p ≡ None =
    ap (λ os. origin_in os (place_at os c.args.run.now.start d)) links ∙ c.origin_of.ensures.origin d ∙ ap (option_map (λ r. place_at c.index-trees-frame.result.links r d)) c.in_default-origin_of.is in
    run_without_origin c.args.shards.now c.args.trees.now c.requires.loose c.args.frame c.args.run.now c.requires.run c.requires.some c.requires.within p first c.args.revoked c.args.flush c.loop-from.shards c.rights-status.result (walked_none c d) origin

-- no rights are none
nothing_is : (r : Rights) → is_empty r ≡ true → r ≡ no_rights
nothing_is r empty = same_rights r no_rights (λ a. empty_has r a empty ∙ sym (has-none a))

walked_then : (c : Then-is_empty) (d : Place) → IsWalked c.args.shards.now c.args.trees.now c.args.frame c.args.run.now.start (place_at (links_in c.args.trees.now c.args.frame) c.args.run.now.start d) c.args.revoked c.args.flush c.args.run.now.end c.loop-from.shards c.rights-status.result
walked_then c d =
    let s = c.args.shards.now in
    let trees = c.args.trees.now in
    let start = c.args.run.now.start in
    let within : start < length (links_in trees c.args.frame) = omega (arith, c.requires.some, c.requires.within) in
    let here : stands_at trees c.args.frame start ≡ place_at (links_in trees c.args.frame) start d = place_any (links_in trees c.args.frame) start (record { space = 0; page = 0 }) d within in
    let upto = c.loop-from.invariant.upto in
    let end : c.loop-from.from ≡ c.args.run.now.end = omega (arith, c.loop-from-test.false, upto) in
    walk_ends s trees c.args.frame start c.args.revoked c.args.flush c.loop-from.from c.args.run.now.end c.loop-from.shards c.loop-from.status c.rights-status.result _ _ here end (sym c.rights-status.ensures) c.loop-from.invariant.walked

without_status : (c : Then-is_empty) (d : Place) → IsStripped c.args.shards.now c.args.trees.now (place_at (links_in c.args.trees.now c.args.frame) c.args.run.now.start d) c.args.revoked c.args.flush c.loop-from.shards c.rights-status.result
without_status c d =
    let p = place_at (links_in c.args.trees.now c.args.frame) c.args.run.now.start d in
    let within : c.args.run.now.start < length (links_in c.args.trees.now c.args.frame) = omega (arith, c.requires.some, c.requires.within) in
    let first : (e : Place) → place_at (links_in c.args.trees.now c.args.frame) c.args.run.now.start e ≡ p = λ e. place_any (links_in c.args.trees.now c.args.frame) c.args.run.now.start e d within in
    run_without_status c.args.shards.now c.args.trees.now c.requires.loose c.args.frame c.args.run.now c.requires.run c.requires.some c.requires.within p first c.args.revoked c.args.flush c.loop-from.shards c.rights-status.result (walked_then c d)
    (nothing_is c.rights-status.result (sym c.is_empty.ensures ∙ c.if-is_empty.true))

pub returns-then-is_empty-clause-status : goal.returns-then-is_empty-clause-status
returns-then-is_empty-clause-status c = λ d. (without_status c d).word

pub returns-then-is_empty-clause-left : goal.returns-then-is_empty-clause-left
returns-then-is_empty-clause-left c = λ d. (without_status c d).left

pub returns-then-is_empty-clause-loose : goal.returns-then-is_empty-clause-loose
returns-then-is_empty-clause-loose c = (without_status c (record { space = 0; page = 0 })).loose

pub returns-then-is_empty-clause-layout : goal.returns-then-is_empty-clause-layout
returns-then-is_empty-clause-layout c = (without_status c (record { space = 0; page = 0 })).layout

pub returns-then-is_empty-clause-run_left : goal.returns-then-is_empty-clause-run_left
returns-then-is_empty-clause-run_left c =
    let links = links_in c.args.trees.now c.args.frame in
    let end : c.loop-from.from ≡ c.args.run.now.end = omega (arith, c.loop-from-test.false, c.loop-from.invariant.upto) in
    run_left c.loop-from.shards links c.args.run.now c.loop-from.left (subst (IsSeen c.loop-from.left c.loop-from.shards links c.args.run.now.start) end c.loop-from.invariant.seen)

pub returns-then-is_empty-clause-noted : goal.returns-then-is_empty-clause-noted
returns-then-is_empty-clause-noted c =
    let upto = c.loop-from.invariant.upto in
    let end : c.loop-from.from ≡ c.args.run.now.end = omega (arith, c.loop-from-test.false, upto) in
    subst (λ i. NotesAdd (AreLosersNoted c.args.shards.now (links_in c.args.trees.now c.args.frame) (losing_from c.args.flush c.args.run.now.start) i c.args.revoked) c.args.notes.now c.loop-from.notes) end
    c.loop-from.invariant.noted

pub returns-in-Some-clause-status : goal.returns-in-Some-clause-status
returns-in-Some-clause-status c = λ d. (with_origin c d).word

pub returns-in-Some-clause-left : goal.returns-in-Some-clause-left
returns-in-Some-clause-left c = λ d. (with_origin c d).left

pub returns-in-Some-clause-loose : goal.returns-in-Some-clause-loose
returns-in-Some-clause-loose c = (with_origin c (record { space = 0; page = 0 })).loose

pub returns-in-Some-clause-layout : goal.returns-in-Some-clause-layout
returns-in-Some-clause-layout c = (with_origin c (record { space = 0; page = 0 })).layout

pub returns-in_default-origin_of-clause-status : goal.returns-in_default-origin_of-clause-status
returns-in_default-origin_of-clause-status c = λ d. (without_origin c d).word

pub returns-in_default-origin_of-clause-left : goal.returns-in_default-origin_of-clause-left
returns-in_default-origin_of-clause-left c = λ d. (without_origin c d).left

pub returns-in_default-origin_of-clause-loose : goal.returns-in_default-origin_of-clause-loose
returns-in_default-origin_of-clause-loose c = (without_origin c (record { space = 0; page = 0 })).loose

pub returns-in_default-origin_of-clause-layout : goal.returns-in_default-origin_of-clause-layout
returns-in_default-origin_of-clause-layout c = (without_origin c (record { space = 0; page = 0 })).layout

pub returns-in-Some-clause-run_left : goal.returns-in-Some-clause-run_left
returns-in-Some-clause-run_left c =
    let links = links_in c.args.trees.now c.args.frame in
    let end : c.loop-from.from ≡ c.args.run.now.end = omega (arith, c.loop-from-test.false, c.loop-from.invariant.upto) in
    let places = places_now c.args.shards.now c.args.trees.now c.args.frame c.requires.loose c.loop-from.shards c.loop-from.invariant.walked.layout in
    run_left c.add_status.new.self links c.args.run.now c.loop-from.left
    (seen_kept c.loop-from.shards c.add_status.new.self c.at-in-Some.result.place c.rights-status.result c.add_status.ensures.set c.loop-from.left links c.args.run.now.start c.args.run.now.end places c.requires.within
    (subst (IsSeen c.loop-from.left c.loop-from.shards links c.args.run.now.start) end c.loop-from.invariant.seen))

pub returns-in_default-origin_of-clause-run_left : goal.returns-in_default-origin_of-clause-run_left
returns-in_default-origin_of-clause-run_left c =
    let links = links_in c.args.trees.now c.args.frame in
    let end : c.loop-from.from ≡ c.args.run.now.end = omega (arith, c.loop-from-test.false, c.loop-from.invariant.upto) in
    run_left c.loop-from.shards links c.args.run.now c.loop-from.left (subst (IsSeen c.loop-from.left c.loop-from.shards links c.args.run.now.start) end c.loop-from.invariant.seen)

pub returns-in-Some-clause-noted : goal.returns-in-Some-clause-noted
returns-in-Some-clause-noted c =
    let upto = c.loop-from.invariant.upto in
    let end : c.loop-from.from ≡ c.args.run.now.end = omega (arith, c.loop-from-test.false, upto) in
    subst (λ i. NotesAdd (AreLosersNoted c.args.shards.now (links_in c.args.trees.now c.args.frame) (losing_from c.args.flush c.args.run.now.start) i c.args.revoked) c.args.notes.now c.loop-from.notes) end
    c.loop-from.invariant.noted

pub returns-in_default-origin_of-clause-noted : goal.returns-in_default-origin_of-clause-noted
returns-in_default-origin_of-clause-noted c =
    let upto = c.loop-from.invariant.upto in
    let end : c.loop-from.from ≡ c.args.run.now.end = omega (arith, c.loop-from-test.false, upto) in
    subst (λ i. NotesAdd (AreLosersNoted c.args.shards.now (links_in c.args.trees.now c.args.frame) (losing_from c.args.flush c.args.run.now.start) i c.args.revoked) c.args.notes.now c.loop-from.notes) end
    c.loop-from.invariant.noted
