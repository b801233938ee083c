-- The place's run is its tree's outermost run of that place alone.
use Rattle.std.proofs.Common.{◌≡◌, true, [], ◌∷◌, length, get_or, slice_set, subst, sym, ap, ◌∙◌}
use Rattle.std.specs.Prelude.{is_some}
use Rattle.std.specs.List.{All, list_all}
use Rattle.space.specs.Place.{same_place}
use Rattle.space.specs.Shards.{IsPlace, index_of}
use Rattle.maptree.specs.Origins.{Origins, Shape, IsRun, AreRising, AreOuterRuns}
use Rattle.maptree.specs.Cuts.{outside}
use Rattle.holdings.specs.Inner.Held.{links_in, has_entry, holdings_in}
use Rattle.holdings.specs.Inner.Derivation.{stands_in}
use Rattle.holdings.specs.Inner.Stripping.{AreOfFrame, firsts, pruned, OriginsHaveEntries, IsLeft}
use Rattle.model.specs.Definitions.Holdings.{Holdings, only}
use Rattle.model.proofs.LawfulParts.{lawful_parts}
use Rattle.holdings.specs.Noting.{NotesFollow}
use Rattle.holdings.proofs.NotedPages.{lawful, run_noted, strip_follow}
use Rattle.holdings.proofs.Contents.Holders.{links_read}
use Rattle.holdings.specs.Inner.Links.{IsTreeSet}
use Rattle.holdings.proofs.Links.NewMappings.{tree_set}
use Rattle.maptree.proofs.Found.{some_found}
use Rattle.holdings.proofs.Stripping.Sequences.{AreStripped}
use Rattle.holdings.proofs.Stripping.Frames.{loose_from, tree_places, outside_held, origins_stay, frame_left, frame_status, frame_sound}
use Rattle.maptree.proofs.OneRun.{IsRunOf, run_found, one_run}
use Rattle.holdings.proofs.Recursions.OnePlace.{one_of_frame, one_word, one_strip, one_first}
use Rattle.holdings.proofs.one_by_one.strip_place.Goals as goal

-- the tree as it is read
read : (c : goal.After-find) → links_in c.args.trees.now c.args.frame ≡ (get_or c.args.trees.now c.args.frame c.index-trees-frame.result).links
read c = links_read c.args.trees.now c.args.frame c.index-trees-frame.result c.requires.frame c.index-trees-frame.is ∙ ap (λ (t : Shape). t.links) c.index-trees-frame.is

pub unwrap-i-requires : goal.unwrap-i-requires
unwrap-i-requires c =
    let links = (get_or c.args.trees.now c.args.frame c.index-trees-frame.result).links in
    ap is_some c.find.ensures ∙ some_found (λ o. same_place c.args.place o.0) links (ap (λ (os : Origins). stands_in os c.args.place) (sym (read c)) ∙ c.requires.listed)

-- the run is the place's
run_begun : (c : goal.After-strip_run-arg-2-1) → IsRunOf (links_in c.args.trees.now c.args.frame) c.args.place c.run_of-run.result
run_begun c =
    let read = links_read c.args.trees.now c.args.frame c.index-trees-frame.result c.requires.frame c.index-trees-frame.is ∙ ap (λ (t : Shape). t.links) c.index-trees-frame.is in
    subst (λ os. IsRunOf os c.args.place c.run_of-run.result) (sym read)
    (run_found (get_or c.args.trees.now c.args.frame c.index-trees-frame.result).links c.args.place c.unwrap-i.result c.run_of-run.result (sym c.find.ensures ∙ c.unwrap-i.ensures) c.run_of-run.ensures.start c.run_of-run.ensures.end c.run_of-run.ensures.run)

pub strip_run-requires-clause-loose : goal.strip_run-requires-clause-loose
strip_run-requires-clause-loose c = loose_from c.args.shards.now c.args.trees.now c.requires.sound

pub strip_run-requires-clause-run : goal.strip_run-requires-clause-run
strip_run-requires-clause-run c = (run_begun c).whole

pub strip_run-requires-clause-some : goal.strip_run-requires-clause-some
strip_run-requires-clause-some c = (run_begun c).some

pub strip_run-requires-clause-within : goal.strip_run-requires-clause-within
strip_run-requires-clause-within c = (run_begun c).within

pub strip_run-requires-clause-index : goal.strip_run-requires-clause-index
strip_run-requires-clause-index c = λ d. c.requires.index ∙ ap (index_of c.args.shards.now) (sym ((run_begun c).first d))

-- what was visited, before the tree is pruned
outer : (c : goal.After-prune_run-arg-1) → AreOuterRuns (links_in c.args.trees.now c.args.frame) (c.args.place ∷ []) (c.run_of-run.result ∷ [])
outer c =
    let read = links_read c.args.trees.now c.args.frame c.index-trees-frame.result c.requires.frame c.index-trees-frame.is ∙ ap (λ (t : Shape). t.links) c.index-trees-frame.is in
    one_run (links_in c.args.trees.now c.args.frame) c.args.place c.run_of-run.result (subst (λ os. IsRunOf os c.args.place c.run_of-run.result) (sym read)
    (run_found (get_or c.args.trees.now c.args.frame c.index-trees-frame.result).links c.args.place c.unwrap-i.result c.run_of-run.result (sym c.find.ensures ∙ c.unwrap-i.ensures) c.run_of-run.ensures.start c.run_of-run.ensures.end c.run_of-run.ensures.run))

done : (c : goal.After-prune_run-arg-1) → AreStripped c.args.shards.now c.args.trees.now (firsts (links_in c.args.trees.now c.args.frame) (c.run_of-run.result ∷ [])) c.args.revoked c.args.flush c.strip_run.new.shards c.in_ok-stripped.stripped.status
done c =
    one_first c.args.shards.now c.args.trees.now (loose_from c.args.shards.now c.args.trees.now c.requires.sound) (links_in c.args.trees.now c.args.frame) c.run_of-run.result c.args.revoked c.args.flush c.strip_run.new.shards c.in_ok-stripped.stripped.status
    (c.in_ok-stripped.ensures.status (record { space = 0; page = 0 })) (c.in_ok-stripped.ensures.left (record { space = 0; page = 0 })) c.in_ok-stripped.ensures.loose c.in_ok-stripped.ensures.layout

tree_is : (c : goal.After-prune_run-arg-1) → links_in c.args.trees.now c.args.frame ≡ (get_or c.args.trees.now c.args.frame c.index-trees-frame-2.result).links
tree_is c = links_read c.args.trees.now c.args.frame c.index-trees-frame-2.result c.requires.frame c.index-trees-frame-2.is ∙ ap (λ (t : Shape). t.links) c.index-trees-frame-2.is

of_frame : (c : goal.After-prune_run-arg-1) → AreOfFrame c.args.shards.now c.args.trees.now c.args.frame (c.args.place ∷ [])
of_frame c = one_of_frame c.args.shards.now c.args.trees.now c.requires.sound c.args.frame c.args.place c.requires.listed

pub prune_run-requires-clause-places : goal.prune_run-requires-clause-places
prune_run-requires-clause-places c =
    subst (All (λ o. IsPlace c.strip_run.new.shards o.0)) (tree_is c)
    (tree_places c.args.shards.now c.args.trees.now c.requires.sound c.args.frame (c.args.place ∷ []) (of_frame c) (c.run_of-run.result ∷ []) (outer c) c.args.revoked c.args.flush c.strip_run.new.shards c.in_ok-stripped.stripped.status (done c))

pub prune_run-requires-clause-rising : goal.prune_run-requires-clause-rising
prune_run-requires-clause-rising c = subst (λ os. AreRising 0 (c.run_of-run.result ∷ []) (length os)) (tree_is c) (outer c).rising

pub prune_run-requires-clause-runs : goal.prune_run-requires-clause-runs
prune_run-requires-clause-runs c = subst (λ os. All (IsRun os) (c.run_of-run.result ∷ [])) (tree_is c) (outer c).whole

pub prune_run-requires-clause-outside : goal.prune_run-requires-clause-outside
prune_run-requires-clause-outside c =
    subst (λ os. list_all (λ o. has_entry c.strip_run.new.shards o.0) (outside 0 (c.run_of-run.result ∷ []) os) ≡ true) (tree_is c)
    (outside_held c.args.shards.now c.args.trees.now c.requires.sound c.args.frame (c.args.place ∷ []) (of_frame c) (c.run_of-run.result ∷ []) (outer c) c.args.revoked c.args.flush c.strip_run.new.shards c.in_ok-stripped.stripped.status (done c))

pub prune_run-requires-clause-origins : goal.prune_run-requires-clause-origins
prune_run-requires-clause-origins c =
    subst (OriginsHaveEntries c.strip_run.new.shards) (tree_is c)
    (origins_stay c.args.shards.now c.args.trees.now c.requires.sound c.args.frame (c.args.place ∷ []) (of_frame c) (c.run_of-run.result ∷ []) (outer c) c.args.revoked c.args.flush c.strip_run.new.shards c.in_ok-stripped.stripped.status (done c))

pub prune_run-requires-clause-left : goal.prune_run-requires-clause-left
prune_run-requires-clause-left c = subst (λ os. IsLeft c.strip_run.new.shards os c.run_of-run.result c.in_ok-stripped.stripped.left) (tree_is c) c.in_ok-stripped.ensures.run_left

-- and then
outer_last : (c : goal.After-result-1) → AreOuterRuns (links_in c.args.trees.now c.args.frame) (c.args.place ∷ []) (c.run_of-run.result ∷ [])
outer_last c =
    let read = links_read c.args.trees.now c.args.frame c.index-trees-frame.result c.requires.frame c.index-trees-frame.is ∙ ap (λ (t : Shape). t.links) c.index-trees-frame.is in
    one_run (links_in c.args.trees.now c.args.frame) c.args.place c.run_of-run.result (subst (λ os. IsRunOf os c.args.place c.run_of-run.result) (sym read)
    (run_found (get_or c.args.trees.now c.args.frame c.index-trees-frame.result).links c.args.place c.unwrap-i.result c.run_of-run.result (sym c.find.ensures ∙ c.unwrap-i.ensures) c.run_of-run.ensures.start c.run_of-run.ensures.end c.run_of-run.ensures.run))

done_last : (c : goal.After-result-1) → AreStripped c.args.shards.now c.args.trees.now (firsts (links_in c.args.trees.now c.args.frame) (c.run_of-run.result ∷ [])) c.args.revoked c.args.flush c.strip_run.new.shards c.in_ok-stripped.stripped.status
done_last c =
    one_first c.args.shards.now c.args.trees.now (loose_from c.args.shards.now c.args.trees.now c.requires.sound) (links_in c.args.trees.now c.args.frame) c.run_of-run.result c.args.revoked c.args.flush c.strip_run.new.shards c.in_ok-stripped.stripped.status
    (c.in_ok-stripped.ensures.status (record { space = 0; page = 0 })) (c.in_ok-stripped.ensures.left (record { space = 0; page = 0 })) c.in_ok-stripped.ensures.loose c.in_ok-stripped.ensures.layout

pruned_last : (c : goal.After-result-1) → IsTreeSet c.args.trees.now (slice_set c.args.trees.now c.args.frame c.prune_run.new.tree) c.args.frame (pruned c.strip_run.new.shards (links_in c.args.trees.now c.args.frame))
pruned_last c =
    let is : links_in c.args.trees.now c.args.frame ≡ (get_or c.args.trees.now c.args.frame c.index-trees-frame-2.result).links =
    links_read c.args.trees.now c.args.frame c.index-trees-frame-2.result c.requires.frame c.index-trees-frame-2.is ∙ ap (λ (t : Shape). t.links) c.index-trees-frame-2.is in
    subst (IsTreeSet c.args.trees.now (slice_set c.args.trees.now c.args.frame c.prune_run.new.tree) c.args.frame) (c.in_ok-prune_run.ensures ∙ ap (pruned c.strip_run.new.shards) (sym is))
    (tree_set c.args.trees.now c.args.frame c.prune_run.new.tree c.requires.frame)

framed : (c : goal.After-result-1) → AreOfFrame c.args.shards.now c.args.trees.now c.args.frame (c.args.place ∷ [])
framed c = one_of_frame c.args.shards.now c.args.trees.now c.requires.sound c.args.frame c.args.place c.requires.listed

pub returns-clause-status : goal.returns-clause-status
returns-clause-status c =
    frame_status c.args.shards.now c.args.trees.now c.requires.sound c.args.frame (c.args.place ∷ []) (framed c) (c.run_of-run.result ∷ []) (outer_last c) c.args.revoked c.args.flush c.strip_run.new.shards c.in_ok-stripped.stripped.status (done_last c)
    (slice_set c.args.trees.now c.args.frame c.prune_run.new.tree) (pruned_last c)
    ∙ one_word (holdings_in c.args.shards.now c.args.trees.now) (lawful_parts (holdings_in c.args.shards.now c.args.trees.now) c.requires.sound.kept.lawful) c.args.place

pub returns-clause-left : goal.returns-clause-left
returns-clause-left c =
    frame_left c.args.shards.now c.args.trees.now c.requires.sound c.args.frame (c.args.place ∷ []) (framed c) (c.run_of-run.result ∷ []) (outer_last c) c.args.revoked c.args.flush c.strip_run.new.shards c.in_ok-stripped.stripped.status (done_last c)
    (slice_set c.args.trees.now c.args.frame c.prune_run.new.tree) (pruned_last c)
    ∙ one_strip (holdings_in c.args.shards.now c.args.trees.now) (lawful_parts (holdings_in c.args.shards.now c.args.trees.now) c.requires.sound.kept.lawful) c.args.place c.args.revoked c.args.flush

pub returns-clause-sound : goal.returns-clause-sound
returns-clause-sound c =
    frame_sound c.args.shards.now c.args.trees.now c.requires.sound c.args.frame (c.args.place ∷ []) (framed c) (c.run_of-run.result ∷ []) (outer_last c) c.args.revoked c.args.flush c.strip_run.new.shards c.in_ok-stripped.stripped.status (done_last c)
    (slice_set c.args.trees.now c.args.frame c.prune_run.new.tree) (pruned_last c)

-- what was noted of the run follows the strip
pub returns-clause-noted : goal.returns-clause-noted
returns-clause-noted c =
    let s = c.args.shards.now in
    let t = c.args.trees.now in
    let read = links_read t c.args.frame c.index-trees-frame.result c.requires.frame c.index-trees-frame.is ∙ ap (λ (t : Shape). t.links) c.index-trees-frame.is in
    let run : IsRunOf (links_in t c.args.frame) c.args.place c.run_of-run.result =
    subst (λ os. IsRunOf os c.args.place c.run_of-run.result) (sym read)
    (run_found (get_or t c.args.frame c.index-trees-frame.result).links c.args.place c.unwrap-i.result c.run_of-run.result (sym c.find.ensures ∙ c.unwrap-i.ensures) c.run_of-run.ensures.start c.run_of-run.ensures.end c.run_of-run.ensures.run) in
    let old = c.args.notes.now in
    let new = c.strip_run.new.notes in
    let added = c.in_ok-stripped.ensures.noted in
    subst (λ (h : Holdings). NotesFollow (holdings_in s t) h old new) (sym (returns-clause-left c))
    (strip_follow (holdings_in s t) (lawful s t c.requires.sound) (only c.args.place) c.args.revoked c.args.flush old new
    (record {
      asked = added.asked;
      added = λ is.
          run_noted s t c.requires.sound c.args.revoked c.args.flush c.args.place c.args.frame old.list.items new.list.items
          (record {
            run = c.run_of-run.result;
            whole = run.whole;
            some = run.some;
            within = run.within;
            first = run.first;
            adds = added.added is;
          });
    }))
