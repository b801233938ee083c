-- A planned strip can be worked, and is the strip of the definition.
use Rattle.std.proofs.Common.{◌≡◌, ℕ, zero, suc, ◌<◌, nat_lt, true, false, Bool, ◌&&◌, ◌||◌, not, List, [], ◌∷◌, ◌++◌, length, map, Option, Some, None, get_or, refl, sym, ap, ◌∙◌, subst, arith, ◌⊎◌, inl, inr}
use Rattle.std.specs.Prelude.{is_some, ◌==◌}
use Rattle.std.specs.List.{All, list_any, list_all, flat_map, slice_range}
use Rattle.std.specs.Option.{option_to_list}
use Rattle.std.proofs.lemmas.Bool.{and_parts, and_from, or_cases, ne_eqb, lt-ltb}
use Rattle.std.proofs.lemmas.Grind.{flat_map-append}
use Rattle.std.proofs.lemmas.List.{map-append}
use Rattle.std.proofs.lemmas.List.Elements.{All-append}
use Rattle.std.proofs.lemmas.List.Folds.{list_all-append}
use Rattle.fpage.specs.declared.rights.Rights.{Rights}
use Rattle.space.specs.declared.place.Place.{Place}
use Rattle.space.specs.declared.shards.Shards.{Shards}
use Rattle.space.specs.Place.{same_place}
use Rattle.space.specs.Shards.{IsPlace, index_of, entry_at}
use Rattle.space.proofs.Places.{same_is, same_self}
use Rattle.space.proofs.ShardWords.{words_are_their_own}
use Rattle.space.specs.declared.node.Node.{Node}
use Rattle.maptree.specs.Origins.{Shape}
use Rattle.model.specs.Definitions.Holdings.{PlaceSet}
use Rattle.model.specs.Definitions.Lawful.{is_lawful}
use Rattle.model.specs.Definitions.Records.{are_limits}
use Rattle.model.specs.Definitions.Strip.{strip, strip_word}
use Rattle.std.specs.Option.{option_and_then}
use Rattle.space.specs.Shards.{spaces_of, bits_of}
use Rattle.space.specs.declared.place.Entry.{Entry}
use Rattle.maptree.specs.Origins.{origin_in}
use Rattle.model.proofs.LawfulParts.{lawful_parts}
use Rattle.pieces.specs.Contents.{StripContent}
use Rattle.pieces.specs.Distinct.{is_none_of, are_distinct}
use Rattle.pieces.specs.Phases.{CanBeWorked, IsPiece, changes, folds, held, named, is_touch, are_alike}
use Rattle.pieces.specs.Steps.{entry_in}
use Rattle.pieces.specs.Applied.{worked}
use Rattle.pieces.specs.Laws.{joined_strips}
use Rattle.pieces.specs.declared.piece.Piece.TheVariants as piece
use Rattle.maptree.proofs.Listed.{listed_at}
use Rattle.holdings.specs.Places.{any_of}
use Rattle.holdings.specs.Inner.Held.{links_in, is_listed, is_place, holdings_of, holdings_in, limits_in, has_frame, has_entry}
use Rattle.holdings.specs.Inner.Stripping.{pruned}
use Rattle.holdings.specs.Places.{IsWithin}
use Rattle.holdings.proofs.Contents.Holders.{same_origins}
use Rattle.std.proofs.lemmas.Bool.{eq-eqb}
use Rattle.holdings.specs.Inner.Planning.{strip_of, strips_of_run, all_places, RunPlan, IsRunPlan, strips_of_runs, first_of, places_of_runs, come_once, IsStripPlan}
use Rattle.holdings.specs.Inner.Sound.{AreSound}
use Rattle.holdings.proofs.Contents.WordChanges.{frame_from}
use Rattle.holdings.proofs.Trees.Chains.{among_at}
use Rattle.holdings.proofs.Stripping.Frames.{loose_from, listed_kept, find_kept, kept_listed}
use Rattle.holdings.proofs.Stripping.Outer.{outer_word, outer_strip}
use Rattle.holdings.proofs.Stripping.Sequences.{AreStripped}
use Rattle.holdings.proofs.Stripping.Walks.{standing_there}
use Rattle.holdings.specs.Inner.Words.{AreWordsOf, IsThere, IsWith}
use Rattle.holdings.proofs.Phases.StrippedRun.{slice_of_map, each_listed, whole_indexes}
use Rattle.holdings.proofs.Phases.StrippedRuns.{changes_of_strips, runs_stripped, status_found}

-- ---- indexes of places

-- distinct places have distinct indexes
module _ (s : Shards) where
  pub apart_index : (p : Place) (ps : List Place) → IsPlace s p → All (IsThere s) ps → any_of ps p ≡ false → is_none_of (map (index_of s) ps) (index_of s p) ≡ true
  apart_index p [] place places none = refl
  apart_index p (q ∷ ps) place places none = by (same_place p q) refl none (apart_index p ps place (λ k d less. places (suc k) d (omega (arith, less))))
    where
      by : (b : Bool) → same_place p q ≡ b → (b || any_of ps p) ≡ false → (any_of ps p ≡ false → is_none_of (map (index_of s) ps) (index_of s p) ≡ true)
          → (not (index_of s q == index_of s p) && is_none_of (map (index_of s) ps) (index_of s p)) ≡ true
      by true same none rest = absurd (cc none)
      by false apart none rest =
          rw (ne_eqb (index_of s q) (index_of s p) (λ same. cc (apart, ap (λ x. same_place x q) (sym (words_are_their_own s q p (places 0 q (omega arith)).place place (places 0 q (omega arith)).word same)), same_self q))) (rest none)

  pub distinct_indexes : (ps : List Place) → All (IsThere s) ps → come_once ps ≡ true → are_distinct (map (index_of s) ps) ≡ true
  distinct_indexes [] places once = refl
  distinct_indexes (p ∷ ps) places once =
      let parts = and_parts (list_all (λ q. not (same_place p q)) ps) (come_once ps) once in
      let others : All (IsThere s) ps = λ k d less. places (suc k) d (omega (arith, less)) in
      and_from _ _ (apart_index p ps (places 0 p (omega arith)).place others (none_of ps parts.0)) (distinct_indexes ps others parts.1)
    where
      none_of : (qs : List Place) → list_all (λ q. not (same_place p q)) qs ≡ true → any_of qs p ≡ false
      none_of [] all = refl
      none_of (q ∷ qs) all = let parts = and_parts (not (same_place p q)) (list_all (λ q. not (same_place p q)) qs) all in by (same_place p q) parts.0 (none_of qs parts.1)
        where
          by : (b : Bool) → not b ≡ true → any_of qs p ≡ false → (b || any_of qs p) ≡ false
          by true never rest = absurd (cc never)
          by false never rest = rest

-- ---- what strips of runs change and fold

module _ (s : Shards) (a : Rights) (f : Bool) where
  run_indexes : (origin : Option Place) (parts : List (List Node)) → flat_map (λ k. k.indexes) (strips_of_run s a f origin parts) ≡ map (index_of s) (all_places parts)
  run_indexes origin [] = refl
  run_indexes origin (part ∷ parts) = whole_indexes s a origin f part parts

  runs_indexes : (plans : List RunPlan) → flat_map (λ k. k.indexes) (strips_of_runs s a f plans) ≡ map (index_of s) (places_of_runs plans)
  runs_indexes [] = refl
  runs_indexes (plan ∷ plans) =
      flat_map-append (λ k. k.indexes) (strips_of_run s a f plan.origin plan.parts) (strips_of_runs s a f plans) ∙ ap (λ is. is ++ flat_map (λ k. k.indexes) (strips_of_runs s a f plans)) (run_indexes plan.origin plan.parts)
      ∙ ap (λ is. map (index_of s) (all_places plan.parts) ++ is) (runs_indexes plans) ∙ sym (map-append (index_of s) (all_places plan.parts) (places_of_runs plans))

  changes_are : (plans : List RunPlan) → flat_map changes (map piece.Strip (strips_of_runs s a f plans)) ≡ map (index_of s) (places_of_runs plans)
  changes_are plans = changes_of_strips (strips_of_runs s a f plans) ∙ runs_indexes plans

  -- what holds of the words of all origins holds of all fold words
  module _ (test : ℕ → Bool) where
    folds_of_rest : (origin : Option Place) → ((o : Place) → origin ≡ Some o → test (index_of s o) ≡ true) → (parts : List (List Node)) → list_all test (flat_map folds (map piece.Strip (map (strip_of s false a origin) parts))) ≡ true
    folds_of_rest origin holds [] = refl
    folds_of_rest None holds (part ∷ parts) = folds_of_rest None holds parts
    folds_of_rest (Some o) holds (part ∷ parts) = and_from _ _ (holds o refl) (folds_of_rest (Some o) holds parts)

    folds_of_run : (origin : Option Place) → ((o : Place) → origin ≡ Some o → test (index_of s o) ≡ true) → (parts : List (List Node)) → list_all test (flat_map folds (map piece.Strip (strips_of_run s a f origin parts))) ≡ true
    folds_of_run origin holds [] = refl
    folds_of_run None holds (part ∷ parts) = folds_of_rest None holds parts
    folds_of_run (Some o) holds (part ∷ parts) = and_from _ _ (holds o refl) (folds_of_rest (Some o) holds parts)

    folds_pass : (plans : List RunPlan) → All (λ plan. (o : Place) → plan.origin ≡ Some o → test (index_of s o) ≡ true) plans → list_all test (flat_map folds (map piece.Strip (strips_of_runs s a f plans))) ≡ true
    folds_pass [] holds = refl
    folds_pass (plan ∷ plans) holds =
        ap (λ ps. list_all test (flat_map folds ps)) (map-append piece.Strip (strips_of_run s a f plan.origin plan.parts) (strips_of_runs s a f plans))
        ∙ ap (list_all test) (flat_map-append folds (map piece.Strip (strips_of_run s a f plan.origin plan.parts)) (map piece.Strip (strips_of_runs s a f plans)))
        ∙ list_all-append test (flat_map folds (map piece.Strip (strips_of_run s a f plan.origin plan.parts))) (flat_map folds (map piece.Strip (strips_of_runs s a f plans)))
        ∙ and_from _ _ (folds_of_run plan.origin (holds 0 plan (omega arith)) plan.parts) (folds_pass plans (λ k d less. holds (suc k) d (omega (arith, less))))

-- strips name what they change and fold
named_pass : (test : ℕ → Bool) (ss : List StripContent) → list_all test (flat_map changes (map piece.Strip ss)) ≡ true → list_all test (flat_map folds (map piece.Strip ss)) ≡ true → list_all test (flat_map named (map piece.Strip ss)) ≡ true
named_pass test [] all fold = refl
named_pass test (k ∷ ss) all fold =
    let one = and_parts (list_all test k.indexes) (list_all test (flat_map changes (map piece.Strip ss))) (sym (list_all-append test k.indexes (flat_map changes (map piece.Strip ss))) ∙ all) in
    let two = and_parts (list_all test (option_to_list k.fold)) (list_all test (flat_map folds (map piece.Strip ss))) (sym (list_all-append test (option_to_list k.fold) (flat_map folds (map piece.Strip ss))) ∙ fold) in
    list_all-append test (k.indexes ++ option_to_list k.fold) (flat_map named (map piece.Strip ss))
    ∙ and_from _ _ (list_all-append test k.indexes (option_to_list k.fold) ∙ and_from _ _ one.0 two.0) (named_pass test ss one.1 two.1)

held_are_folds : (ss : List StripContent) → flat_map held (map piece.Strip ss) ≡ flat_map folds (map piece.Strip ss)
held_are_folds [] = refl
held_are_folds (k ∷ ss) = ap (λ is. option_to_list k.fold ++ is) (held_are_folds ss)

no_touches : (ss : List StripContent) → list_any is_touch (map piece.Strip ss) ≡ false
no_touches [] = refl
no_touches (k ∷ ss) = no_touches ss

are_strips : (ss : List StripContent) → are_alike (map piece.Strip ss) ≡ true
are_strips ss = ap (λ b. list_all is_touch (map piece.Strip ss) || not b) (no_touches ss) ∙ either (list_all is_touch (map piece.Strip ss))
  where
    either : (x : Bool) → (x || not false) ≡ true
    either x = grind arith

-- ---- a planned strip

module _ (s : Shards) (trees : List Shape) (sound : AreSound s trees) (set : PlaceSet) (plans : List RunPlan) (planned : IsStripPlan s trees set plans) (a : Rights) (f : Bool) (w : List ℕ) (are : AreWordsOf s w) where
  abbrev strips : List StripContent
  strips = strips_of_runs s a f plans

  -- each place of a run has a word
  run_places : (plan : RunPlan) → IsRunPlan trees plan → All (IsThere s) (all_places plan.parts)
  run_places plan is =
      let os = links_in trees plan.frame in
      subst (All (IsThere s)) (sym (is.places ∙ slice_of_map os plan.run.start plan.run.end)) (each_listed (IsThere s) (slice_range os plan.run.start plan.run.end) (λ p among.
      let at = among_at os plan.run.start plan.run.end p p among in
      standing_there s trees plan.frame (loose_from s trees sound) p (subst (λ q. is_listed trees plan.frame q ≡ true) at.4 (listed_at os at.0 p at.3))))

  places_have : (plans : List RunPlan) → All (IsRunPlan trees) plans → All (IsThere s) (places_of_runs plans)
  places_have [] runs = λ k d less. absurd (omega (arith, less))
  places_have (plan ∷ plans) runs = All-append (IsThere s) (all_places plan.parts) (places_of_runs plans) (run_places plan (runs 0 plan (omega arith))) (places_have plans (λ k d less. runs (suc k) d (omega (arith, less))))

  -- and so has the origin of a run, which is held
  origin_has : (plan : RunPlan) → IsRunPlan trees plan → (o : Place) → plan.origin ≡ Some o → IsThere s o × (is_some (entry_in w (index_of s o)) ≡ true)
  origin_has plan is o there =
      let listed = is.origin.stands o there in
      let there = standing_there s trees plan.frame (loose_from s trees sound) o listed in
      let e = frame_from plan.frame (entry_at s o) (sound.pruned.held plan.frame o listed) in
      (there, ap is_some (are.entries o there.place ∙ e.1))

  each_origin : (test : ℕ → Bool) → ((plan : RunPlan) (o : Place) → IsRunPlan trees plan → plan.origin ≡ Some o → any_of (places_of_runs plans) o ≡ false → test (index_of s o) ≡ true)
      → All (λ plan. (o : Place) → plan.origin ≡ Some o → test (index_of s o) ≡ true) plans
  each_origin test holds = λ k d less o is. holds (get_or plans k d) o (planned.runs k d less) is (planned.outer k d less o is)

  indexes_within : (ps : List Place) → All (IsThere s) ps → list_all (λ i. nat_lt i (length w)) (map (index_of s) ps) ≡ true
  indexes_within [] places = refl
  indexes_within (p ∷ ps) places =
      let has = (places 0 p (omega arith)).word in
      and_from _ _ (lt-ltb (index_of s p) (length w) (omega (arith, has, are.count))) (indexes_within ps (λ k d less. places (suc k) d (omega (arith, less))))

  -- the pieces can be worked beside one another
  pub plan_can_be_worked : CanBeWorked w (map piece.Strip strips)
  plan_can_be_worked =
      let places = places_have plans planned.runs in
      let where_changed = changes_are s a f plans in
      record {
        some = some_words;
        packs = are.packs;
        within = named_pass (λ i. nat_lt i (length w)) strips (ap (list_all (λ i. nat_lt i (length w))) where_changed ∙ indexes_within (places_of_runs plans) places)
            (folds_pass s a f (λ i. nat_lt i (length w)) plans (each_origin (λ i. nat_lt i (length w)) (λ plan o is there _.
            let has = (origin_has plan is o there).0.word in lt-ltb (index_of s o) (length w) (omega (arith, has, are.count)))));
        entries = ap (list_all (λ i. is_some (entry_in w i))) (held_are_folds strips) ∙ folds_pass s a f (λ i. is_some (entry_in w i)) plans (each_origin (λ i. is_some (entry_in w i)) (λ plan o is there _. (origin_has plan is o there).1));
        distinct = ap are_distinct where_changed ∙ distinct_indexes s (places_of_runs plans) places planned.once;
        apart = ap (λ is. list_all (is_none_of is) (flat_map folds (map piece.Strip strips))) where_changed
            ∙ folds_pass s a f (is_none_of (map (index_of s) (places_of_runs plans))) plans (each_origin (is_none_of (map (index_of s) (places_of_runs plans)))
            (λ plan o is there none. apart_index s o (places_of_runs plans) (origin_has plan is o there).0.place places none));
        alike = are_strips strips;
      }
    where
      some_words : 0 < length w
      some_words =
          omega (arith, sound.kept.fits.some, are.count)

  -- worked, they are the strip of the set
  module _ (each : All IsPiece (map piece.Strip strips)) (new : Shards) (with : IsWith s (worked w (map piece.Strip strips)) new) where
    pub stripped_runs : AreStripped s trees (map (first_of trees) plans) a f new (status_found w strips)
    stripped_runs = runs_stripped trees a f plans planned.runs s (loose_from s trees sound) w are each plan_can_be_worked new with

    firsts_named : (plans : List RunPlan) → All (λ plan. set (first_of trees plan) ≡ true) plans → (q : Place) → any_of (map (first_of trees) plans) q ≡ true → set q ≡ true
    firsts_named [] named q is = absurd (cc is)
    firsts_named (plan ∷ plans) named q is = by (or_cases (same_place q (first_of trees plan)) (any_of (map (first_of trees) plans) q) is) (firsts_named plans (λ k d less. named (suc k) d (omega (arith, less))) q)
      where
        by : (same_place q (first_of trees plan) ≡ true) ⊎ (any_of (map (first_of trees) plans) q ≡ true) → (any_of (map (first_of trees) plans) q ≡ true → set q ≡ true) → set q ≡ true
        by (inl same) rest = ap set (same_is q (first_of trees plan) same) ∙ named 0 plan (omega arith)
        by (inr there) rest = rest there

    pub set_left : holdings_in new trees ≡ strip (holdings_in s trees) set a f
    set_left =
        stripped_runs.left ∙ outer_strip (holdings_in s trees) (lawful_parts (holdings_in s trees) sound.kept.lawful) (any_of (map (first_of trees) plans)) set (firsts_named plans planned.named) planned.covers a f

    pub set_status : status_found w strips ≡ strip_word (holdings_in s trees) set
    set_status =
        stripped_runs.word ∙ outer_word (holdings_in s trees) (lawful_parts (holdings_in s trees) sound.kept.lawful) (any_of (map (first_of trees) plans)) set (firsts_named plans planned.named) planned.covers

    -- ---- trees without the pages that are gone

    module _ (left : List Shape) (count : length left ≡ length trees) (links : (g : ℕ) → links_in left g ≡ pruned new (links_in trees g)) where
      pub limits_left : limits_in new left ≡ limits_in new trees
      limits_left = ap (λ n. (record { spaces = spaces_of new; bits = bits_of new; frames = n })) count

      origins_left : (g : ℕ) (p : Place) → has_entry new p ≡ true → (is_listed left g p ≡ is_listed trees g p) × (origin_in (links_in left g) p ≡ origin_in (links_in trees g) p)
      origins_left g p has = (
        ap (λ os. list_any (λ o. same_place p o.0) os) (links g) ∙ listed_kept (has_entry new) (links_in trees g) p has,
        ap (λ os. origin_in os p) (links g) ∙ ap (option_and_then (λ o. o)) (find_kept (has_entry new) (links_in trees g) p has),
      )

      pub same_left : holdings_in new left ≡ holdings_in new trees
      same_left = ap (λ l. holdings_of l new left) limits_left ∙ same_origins (limits_in new trees) new trees left (λ p e within is. (origins_left e.frame p (ap is_some is)).1)

      was_listed : (g : ℕ) (p : Place) → is_listed left g p ≡ true → (is_listed trees g p ≡ true) × (has_frame g (entry_at new p) ≡ true)
      was_listed g p listed =
          let kept = kept_listed (has_entry new) (links_in trees g) p (sym (ap (λ os. list_any (λ o. same_place p o.0) os) (links g)) ∙ listed) in
          (kept.1, framed kept.1 (entry_at new p) refl kept.0)
        where
          framed : is_listed trees g p ≡ true → (k : Option Entry) → entry_at new p ≡ k → is_some k ≡ true → has_frame g k ≡ true
          framed listed None is has = absurd (cc has)
          framed listed (Some e) is has = eq-eqb e.frame g (stripped_runs.loose.frames g p e listed is)

      pub sound_left : AreSound new left
      sound_left = record {
        kept = record {
          fits = record {
            served = subst (λ l. are_limits l ≡ true) (sym limits_left) stripped_runs.loose.fits.served;
            spaces = refl;
            bits = refl;
            present = stripped_runs.loose.fits.present;
            some = stripped_runs.loose.fits.some;
            count = refl;
            frame = λ p e within is. subst (λ n. e.frame < n) (sym count) (stripped_runs.loose.fits.frame p e (subst (λ l. IsWithin l p) limits_left within) is);
            listed = λ p e within is. (origins_left e.frame p (ap is_some is)).0 ∙ stripped_runs.loose.fits.listed p e (subst (λ l. IsWithin l p) limits_left within) is;
          };
          lawful = ap is_lawful same_left ∙ stripped_runs.loose.lawful;
        };
        pruned = record {
          within = λ g p listed. subst (λ l. is_place l p ≡ true) (sym limits_left) (stripped_runs.loose.within g p (was_listed g p listed).0);
          held = λ g p listed. (was_listed g p listed).1;
        };
      }

-- ---- the nodes of planned strips

module _ (s : Shards) (a : Rights) (f : Bool) where
  rest_have : (origin : Option Place) (parts : List (List Node)) → All (λ k. k.indexes ≡ map (λ n. index_of s n.place) k.nodes) (map (strip_of s false a origin) parts)
  rest_have origin [] k d less = absurd (omega (arith, less))
  rest_have origin (part ∷ parts) zero d less = refl
  rest_have origin (part ∷ parts) (suc k) d less = rest_have origin parts k d (omega (arith, less))

  run_have : (origin : Option Place) (parts : List (List Node)) → All (λ k. k.indexes ≡ map (λ n. index_of s n.place) k.nodes) (strips_of_run s a f origin parts)
  run_have origin [] k d less = absurd (omega (arith, less))
  run_have origin (part ∷ parts) zero d less = refl
  run_have origin (part ∷ parts) (suc k) d less = rest_have origin parts k d (omega (arith, less))

  pub runs_have : (plans : List RunPlan) → All (λ k. k.indexes ≡ map (λ n. index_of s n.place) k.nodes) (strips_of_runs s a f plans)
  runs_have [] = λ k d less. absurd (omega (arith, less))
  runs_have (plan ∷ plans) = All-append (λ k. k.indexes ≡ map (λ n. index_of s n.place) k.nodes) (strips_of_run s a f plan.origin plan.parts) (strips_of_runs s a f plans) (run_have plan.origin plan.parts) (runs_have plans)

  rest_nodes : (origin : Option Place) (parts : List (List Node)) → map (λ n. n.place) (joined_strips (map (strip_of s false a origin) parts)).nodes ≡ all_places parts
  rest_nodes origin [] = refl
  rest_nodes origin (part ∷ parts) = map-append (λ n. n.place) part (joined_strips (map (strip_of s false a origin) parts)).nodes ∙ ap (λ ps. map (λ n. n.place) part ++ ps) (rest_nodes origin parts)

  run_nodes : (origin : Option Place) (parts : List (List Node)) → map (λ n. n.place) (joined_strips (strips_of_run s a f origin parts)).nodes ≡ all_places parts
  run_nodes origin [] = refl
  run_nodes origin (part ∷ parts) = map-append (λ n. n.place) part (joined_strips (map (strip_of s false a origin) parts)).nodes ∙ ap (λ ps. map (λ n. n.place) part ++ ps) (rest_nodes origin parts)

  runs_nodes : (plans : List RunPlan) → map (λ n. n.place) (joined_strips (strips_of_runs s a f plans)).nodes ≡ places_of_runs plans
  runs_nodes [] = refl
  runs_nodes (plan ∷ plans) =
      ap (map (λ n. n.place)) (flat_map-append (λ k. k.nodes) (strips_of_run s a f plan.origin plan.parts) (strips_of_runs s a f plans))
      ∙ map-append (λ n. n.place) (joined_strips (strips_of_run s a f plan.origin plan.parts)).nodes (joined_strips (strips_of_runs s a f plans)).nodes
      ∙ ap (λ ps. ps ++ map (λ n. n.place) (joined_strips (strips_of_runs s a f plans)).nodes) (run_nodes plan.origin plan.parts) ∙ ap (λ ps. all_places plan.parts ++ ps) (runs_nodes plans)

nodes_from_places : (P : Place → Type 0) (ns : List Node) → All P (map (λ n. n.place) ns) → All (λ n. P n.place) ns
nodes_from_places P [] all k d less = absurd (omega (arith, less))
nodes_from_places P (n ∷ ns) all zero d less = all 0 n.place (omega arith)
nodes_from_places P (n ∷ ns) all (suc k) d less = nodes_from_places P ns (λ j e l. all (suc j) e (omega (arith, l))) k d (omega (arith, less))

-- what is asked of the nodes of all strips of a plan
module _ (s : Shards) (trees : List Shape) (sound : AreSound s trees) (set : PlaceSet) (plans : List RunPlan) (planned : IsStripPlan s trees set plans) (a : Rights) (f : Bool) (w : List ℕ) (are : AreWordsOf s w) where
  pub nodes_have_words : All (λ n. IsThere s n.place) (joined_strips (strips_of_runs s a f plans)).nodes
  nodes_have_words = nodes_from_places (IsThere s) (joined_strips (strips_of_runs s a f plans)).nodes
      (subst (All (IsThere s)) (sym (runs_nodes s a f plans)) (places_have s trees sound set plans planned a f w are plans planned.runs))

  pub indexes_once : are_distinct (joined_strips (strips_of_runs s a f plans)).indexes ≡ true
  indexes_once = ap are_distinct (runs_indexes s a f plans) ∙ distinct_indexes s (places_of_runs plans) (places_have s trees sound set plans planned a f w are plans planned.runs) planned.once
