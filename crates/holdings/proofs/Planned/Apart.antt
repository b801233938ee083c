-- Planned runs are apart: no page is in two of them, and the origin of one is in none.
use Rattle.std.proofs.Common.{◌≡◌, ℕ, zero, suc, ◌<◌, ◌≤◌, true, false, Bool, ◌&&◌, ◌||◌, not, List, [], ◌∷◌, ◌++◌, length, drop, map, Some, get_or, refl, sym, ap, ◌∙◌, subst, arith, ◌⊎◌, inl, inr}
use Rattle.std.specs.List.{All, list_any, list_all, flat_map, slice_range}
use Rattle.std.specs.declared.ops.Range.{Range}
use Rattle.std.proofs.lemmas.Bool.{and_parts, and_from, or_cases, or_left, or_right, false_from_ne_true}
use Rattle.std.proofs.lemmas.List.Folds.{list_any-append, list_all-append}
use Rattle.space.specs.declared.place.Place.{Place}
use Rattle.space.specs.declared.place.Entry.{Entry}
use Rattle.space.specs.declared.shards.Shards.{Shards}
use Rattle.space.specs.Place.{same_place}
use Rattle.space.specs.Shards.{entry_at}
use Rattle.space.proofs.Places.{same_is, same_self}
use Rattle.maptree.specs.Origins.{Origins, Shape, AreRising, are_once, place_at, origin_in}
use Rattle.maptree.proofs.Cuttings.{split_at}
use Rattle.model.specs.Definitions.Holdings.{only, origin_at}
use Rattle.model.specs.Definitions.Derived.{is_below}
use Rattle.model.proofs.LawfulParts.{IsLawful, lawful_parts}
use Rattle.model.proofs.Chains.{under_from, under_self}
use Rattle.maptree.proofs.Listed.{listed_at}
use Rattle.holdings.specs.Places.{any_of}
use Rattle.holdings.specs.Inner.Held.{links_in, is_listed, limits_in, holdings_in}
use Rattle.holdings.specs.Inner.Planning.{RunPlan, IsRunPlan, all_places, come_once, first_of, places_of_runs}
use Rattle.holdings.specs.Inner.Sound.{AreSound, AreLoose}
use Rattle.holdings.specs.Inner.StripPlans.{AreRunPlans, HaveWords}
use Rattle.holdings.proofs.Contents.Holders.{origin_within}
use Rattle.holdings.proofs.Contents.Listing.{within_from_place}
use Rattle.holdings.proofs.Contents.WordChanges.{frame_from}
use Rattle.holdings.proofs.Trees.Chains.{is_among, among_at, below_among}
use Rattle.holdings.proofs.Stripping.Frames.{loose_from}
use Rattle.holdings.proofs.Stripping.Walks.{standing_there, place_any}
use Rattle.holdings.specs.Inner.Words.{IsThere}
use Rattle.holdings.proofs.Phases.StrippedRun.{slice_of_map, each_listed}
use Rattle.holdings.proofs.Planned.Parts.{once_parts}

-- ---- lists in which no place comes twice

once_in_tree : (os : Origins) → are_once os ≡ true → come_once (map (λ o. o.0) os) ≡ true
once_in_tree [] once = refl
once_in_tree (o ∷ os) once =
    let parts = and_parts (list_all (λ q. not (same_place o.0 q.0)) os) (are_once os) once in
    and_from _ _ (apart o.0 os ∙ parts.0) (once_in_tree os parts.1)
  where
    apart : (p : Place) (os : Origins) → list_all (λ q. not (same_place p q)) (map (λ o. o.0) os) ≡ list_all (λ q. not (same_place p q.0)) os
    apart p [] = refl
    apart p (o ∷ os) = ap (λ b. not (same_place p o.0) && b) (apart p os)

-- nothing that is in one list is in the other
pub joined_once : (xs ys : List Place) → come_once xs ≡ true → come_once ys ≡ true → ((q : Place) → any_of xs q ≡ true → any_of ys q ≡ true → ⊥) → come_once (xs ++ ys) ≡ true
joined_once [] ys one two apart = two
joined_once (x ∷ xs) ys one two apart =
    let parts = and_parts (list_all (λ q. not (same_place x q)) xs) (come_once xs) one in
    and_from _ _
    (list_all-append (λ q. not (same_place x q)) xs ys ∙ and_from _ _ parts.0 (none_of ys (λ q in_ys same. apart x (or_left _ _ (same_self x)) (subst (λ p. any_of ys p ≡ true) (sym (same_is x q same)) in_ys))))
    (joined_once xs ys parts.1 two (λ q in_xs. apart q (or_right _ _ in_xs)))
  where
    none_of : (zs : List Place) → ((q : Place) → any_of zs q ≡ true → same_place x q ≡ true → ⊥) → list_all (λ q. not (same_place x q)) zs ≡ true
    none_of [] apart = refl
    none_of (z ∷ zs) apart = and_from _ _ (ap not (false_from_ne_true _ (apart z (or_left _ _ (same_self z))))) (none_of zs (λ q there. apart q (or_right _ _ there)))

pub any_first : (xs ys : List Place) (q : Place) → any_of xs q ≡ true → any_of (xs ++ ys) q ≡ true
any_first xs ys q is = list_any-append (same_place q) xs ys ∙ or_left _ _ is

pub any_second : (xs ys : List Place) (q : Place) → any_of ys q ≡ true → any_of (xs ++ ys) q ≡ true
any_second xs ys q is = list_any-append (same_place q) xs ys ∙ or_right (any_of xs q) _ is

pub any_cases : (xs ys : List Place) (q : Place) → any_of (xs ++ ys) q ≡ true → (any_of xs q ≡ true) ⊎ (any_of ys q ≡ true)
any_cases xs ys q is = or_cases (any_of xs q) (any_of ys q) (sym (list_any-append (same_place q) xs ys) ∙ is)

-- two lists put together in which no place comes twice have none in common
apart_parts : (xs ys : List Place) → come_once (xs ++ ys) ≡ true → (q : Place) → any_of xs q ≡ true → any_of ys q ≡ true → ⊥
apart_parts [] ys once q one two = cc one
apart_parts (x ∷ xs) ys once q one two =
    let parts = and_parts (list_all (λ q. not (same_place x q)) (xs ++ ys)) (come_once (xs ++ ys)) once in
    by (or_cases (same_place q x) (any_of xs q) one) (apart_parts xs ys parts.1 q)
    (λ same. never (xs ++ ys) parts.0 (subst (λ p. any_of (xs ++ ys) p ≡ true) (same_is q x same) (any_second xs ys q two)))
  where
    never : (zs : List Place) → list_all (λ q. not (same_place x q)) zs ≡ true → any_of zs x ≡ true → ⊥
    never [] none is = cc is
    never (z ∷ zs) none is = let parts = and_parts (not (same_place x z)) (list_all (λ q. not (same_place x q)) zs) none in either (same_place x z) parts.0 (or_cases (same_place x z) (any_of zs x) is) (never zs parts.1)
      where
        either : (b : Bool) → not b ≡ true → (b ≡ true) ⊎ (any_of zs x ≡ true) → (any_of zs x ≡ true → ⊥) → ⊥
        either b differs (inl same) rest = cc (differs, ap not same)
        either b differs (inr there) rest = rest there

    by : (same_place q x ≡ true) ⊎ (any_of xs q ≡ true) → (any_of xs q ≡ true → any_of ys q ≡ true → ⊥) → (same_place q x ≡ true → ⊥) → ⊥
    by (inl same) rest here = here same
    by (inr there) rest here = rest there two

-- ---- rising ranges of one list

once_slice : (ps : List Place) (a b : ℕ) → a ≤ b → come_once (drop a ps) ≡ true → (come_once (slice_range ps a b) ≡ true) × (come_once (drop b ps) ≡ true) × ((q : Place) → any_of (slice_range ps a b) q ≡ true → any_of (drop b ps) q ≡ true → ⊥)
once_slice ps a b less once =
    let whole = subst (λ xs. come_once xs ≡ true) (split_at a b ps less) once in
    let parts = once_parts (slice_range ps a b) (drop b ps) whole in
    (parts.0, parts.1, apart_parts (slice_range ps a b) (drop b ps) whole)

once_drop : (ps : List Place) (a b : ℕ) → a ≤ b → come_once (drop a ps) ≡ true → come_once (drop b ps) ≡ true
once_drop ps a b less once = (once_slice ps a b less once).1

any_drop : (ps : List Place) (a b : ℕ) (q : Place) → a ≤ b → any_of (drop b ps) q ≡ true → any_of (drop a ps) q ≡ true
any_drop ps a b q less is = ap (λ xs. any_of xs q) (split_at a b ps less) ∙ any_second (slice_range ps a b) (drop b ps) q is

abbrev slices : List Place → List (Range ℕ) → List Place
slices ps rs = flat_map (λ r. slice_range ps r.start r.end) rs

in_drop : (ps : List Place) (from : ℕ) (rs : List (Range ℕ)) (most : ℕ) → AreRising from rs most → (q : Place) → any_of (slices ps rs) q ≡ true → any_of (drop from ps) q ≡ true
in_drop ps from [] most rise q is = absurd (cc is)
in_drop ps from (r ∷ rs) most rise q is =
    by (any_cases (slice_range ps r.start r.end) (slices ps rs) q is) (in_drop ps r.end rs most rise.2 q)
  where
    by : (any_of (slice_range ps r.start r.end) q ≡ true) ⊎ (any_of (slices ps rs) q ≡ true) → (any_of (slices ps rs) q ≡ true → any_of (drop r.end ps) q ≡ true) → any_of (drop from ps) q ≡ true
    by (inl here) rest = any_drop ps from r.start q rise.0 (ap (λ xs. any_of xs q) (split_at r.start r.end ps (omega (arith, rise.1))) ∙ any_first (slice_range ps r.start r.end) (drop r.end ps) q here)
    by (inr there) rest = any_drop ps from r.end q (omega (arith, rise.0, rise.1)) (rest there)

slices_once : (ps : List Place) (from : ℕ) (rs : List (Range ℕ)) (most : ℕ) → AreRising from rs most → come_once (drop from ps) ≡ true → come_once (slices ps rs) ≡ true
slices_once ps from [] most rise once = refl
slices_once ps from (r ∷ rs) most rise once =
    let one = once_slice ps r.start r.end (omega (arith, rise.1)) (once_drop ps from r.start rise.0 once) in
    joined_once (slice_range ps r.start r.end) (slices ps rs) one.0 (slices_once ps r.end rs most rise.2 one.1) (λ q here there. one.2 q here (in_drop ps r.end rs most rise.2 q there))

-- ranges that rise: one that starts within another starts with it
rising_later : (from : ℕ) (rs : List (Range ℕ)) (most : ℕ) → AreRising from rs most → (k : ℕ) (d : Range ℕ) → k < length rs → from ≤ (get_or rs k d).start
rising_later from [] most rise k d less = absurd (omega (arith, less))
rising_later from (r ∷ rs) most rise zero d less = rise.0
rising_later from (r ∷ rs) most rise (suc k) d less = let rest = rising_later r.end rs most rise.2 k d (omega (arith, less)) in omega (arith, rest, rise.0, rise.1)

-- of ranges, as each of them lies to each
abbrev pub StartWithin : Range ℕ → Range ℕ → Type 0
StartWithin a b = a.start ≤ b.start → b.start < a.end → a.start ≡ b.start

pub starts_apart : (from : ℕ) (rs : List (Range ℕ)) (most : ℕ) → AreRising from rs most → All (λ a. All (StartWithin a) rs) rs
starts_apart from [] most rise = λ k d less. absurd (omega (arith, less))
starts_apart from (r ∷ rs) most rise = by (starts_apart r.end rs most rise.2)
  where
    to_first : (j : ℕ) (e : Range ℕ) → j < length rs → StartWithin r (get_or rs j e)
    to_first j e less least within = let later = rising_later r.end rs most rise.2 j e less in absurd (omega (arith, later, within))

    from_later : (j : ℕ) (e : Range ℕ) → j < length rs → StartWithin (get_or rs j e) r
    from_later j e less least within = let later = rising_later r.end rs most rise.2 j e less in absurd (omega (arith, later, least, rise.1))

    by : All (λ a. All (StartWithin a) rs) rs → All (λ a. All (StartWithin a) (r ∷ rs)) (r ∷ rs)
    by rest zero d less zero e w = λ least within. refl
    by rest zero d less (suc j) e w = to_first j e (omega (arith, w))
    by rest (suc k) d less zero e w = from_later k d (omega (arith, less))
    by rest (suc k) d less (suc j) e w = rest k d (omega (arith, less)) j e (omega (arith, w))

-- ---- in the trees

module _ (s : Shards) (trees : List Shape) (sound : AreSound s trees) where
  loose : AreLoose s trees
  loose = loose_from s trees sound

  lawful : IsLawful (holdings_in s trees)
  lawful = lawful_parts (holdings_in s trees) sound.kept.lawful

  -- a place stands in one tree
  pub one_tree : (f g : ℕ) (q : Place) → is_listed trees f q ≡ true → is_listed trees g q ≡ true → f ≡ g
  one_tree f g q in_f in_g =
      let e = frame_from f (entry_at s q) (sound.pruned.held f q in_f) in
      let k = frame_from g (entry_at s q) (sound.pruned.held g q in_g) in
      by e.0 k.0 (sym e.1 ∙ k.1) e.2 k.2
    where
      by : (e k : Entry) → Some e ≡ Some k → e.frame ≡ f → k.frame ≡ g → f ≡ g
      by e k same one two = cc (same, one, two)

  -- what is in a run
  any_map : (os : Origins) (q : Place) → any_of (map (λ o. o.0) os) q ≡ list_any (λ o. same_place q o.0) os
  any_map [] q = refl
  any_map (o ∷ os) q = ap (λ b. same_place q o.0 || b) (any_map os q)

  pub run_among : (plan : RunPlan) → IsRunPlan trees plan → (q : Place) → any_of (all_places plan.parts) q ≡ is_among (links_in trees plan.frame) plan.run.start plan.run.end q
  run_among plan is q =
      let os = links_in trees plan.frame in
      ap (λ ps. any_of ps q) (is.places ∙ slice_of_map os plan.run.start plan.run.end) ∙ any_map (slice_range os plan.run.start plan.run.end) q

  pub run_listed : (plan : RunPlan) → IsRunPlan trees plan → (q : Place) → any_of (all_places plan.parts) q ≡ true → is_listed trees plan.frame q ≡ true
  run_listed plan is q within =
      let os = links_in trees plan.frame in
      let at = among_at os plan.run.start plan.run.end q q (sym (run_among plan is q) ∙ within) in
      subst (λ p. is_listed trees plan.frame p ≡ true) at.4 (listed_at os at.0 q at.3)

  -- the first page of a run stands where the run starts
  pub first_is : (plan : RunPlan) → IsRunPlan trees plan → (d : Place) → place_at (links_in trees plan.frame) plan.run.start d ≡ first_of trees plan
  first_is plan is d = place_any (links_in trees plan.frame) plan.run.start d (record { space = 0; page = 0 }) (omega (arith, is.some, is.within))

  pub first_listed : (plan : RunPlan) → IsRunPlan trees plan → is_listed trees plan.frame (first_of trees plan) ≡ true
  first_listed plan is = listed_at (links_in trees plan.frame) plan.run.start (record { space = 0; page = 0 }) (omega (arith, is.some, is.within))

  -- what stands in the tree is below the first page of a run exactly where it is in the run
  pub below_run : (plan : RunPlan) → IsRunPlan trees plan → (q : Place) → is_listed trees plan.frame q ≡ true → is_below (holdings_in s trees) (only (first_of trees plan)) q ≡ any_of (all_places plan.parts) q
  below_run plan is q listed =
      let e = frame_from plan.frame (entry_at s q) (sound.pruned.held plan.frame q listed) in
      let inside = within_from_place (limits_in s trees) q (sound.pruned.within plan.frame q listed) in
      below_among s trees loose plan.frame plan.run is.is_run is.some is.within (first_of trees plan) (first_is plan is) q e.0 inside e.1 ∙ sym (run_among plan is q)

  -- the origin of the first page
  pub first_origin : (plan : RunPlan) → IsRunPlan trees plan → (o : Place) → plan.origin ≡ Some o → origin_at (holdings_in s trees) (first_of trees plan) ≡ Some o
  first_origin plan is o there =
      let c = first_of trees plan in
      let listed = first_listed plan is in
      let e = frame_from plan.frame (entry_at s c) (sound.pruned.held plan.frame c listed) in
      let inside = within_from_place (limits_in s trees) c (sound.pruned.within plan.frame c listed) in
      origin_within (limits_in s trees) s trees c inside e.0 e.1 ∙ ap (λ f. origin_in (links_in trees f) c) e.2 ∙ is.origin.is (record { space = 0; page = 0 }) ∙ there

  -- it is not in the run
  pub origin_apart : (plan : RunPlan) → IsRunPlan trees plan → (o : Place) → plan.origin ≡ Some o → any_of (all_places plan.parts) o ≡ false
  origin_apart plan is o there = false_from_ne_true _ (λ within.
      let below = below_run plan is o (is.origin.stands o there) ∙ within in
      let under = under_from (holdings_in s trees) lawful (only (first_of trees plan)) (first_of trees plan) o (first_origin plan is o there) below in
      cc (under, under_self (holdings_in s trees) lawful (first_of trees plan)))

  -- each run has words of its own
  pub have_words : (plan : RunPlan) → IsRunPlan trees plan → are_once (links_in trees plan.frame) ≡ true → HaveWords s plan.origin (all_places plan.parts)
  have_words plan is once = record {
    places = subst (All (IsThere s)) (sym (is.places ∙ slice_of_map os plan.run.start plan.run.end)) (each_listed (IsThere s) (slice_range os plan.run.start plan.run.end) (λ p among.
        let at = among_at os plan.run.start plan.run.end p p among in
        standing_there s trees plan.frame loose p (subst (λ q. is_listed trees plan.frame q ≡ true) at.4 (listed_at os at.0 p at.3))));
    once = ap come_once is.places ∙ (once_slice (map (λ o. o.0) os) plan.run.start plan.run.end (omega (arith, is.some)) (once_drop (map (λ o. o.0) os) 0 plan.run.start (omega arith) (once_in_tree os once))).0;
    origin_stands = λ o there. standing_there s trees plan.frame loose o (is.origin.stands o there);
    apart = origin_apart plan is;
  }
    where
      os : Origins
      os = links_in trees plan.frame

  -- ---- the runs of one frame

  module _ (frame : ℕ) where
    all_slices : (plans : List RunPlan) → All (IsRunPlan trees) plans → All (λ plan. plan.frame ≡ frame) plans → places_of_runs plans ≡ slices (map (λ o. o.0) (links_in trees frame)) (map (λ plan. plan.run) plans)
    all_slices [] each same = refl
    all_slices (plan ∷ plans) each same =
        let is : IsRunPlan trees plan = each 0 plan (omega arith) in
        let here : all_places plan.parts ≡ slice_range (map (λ o. o.0) (links_in trees frame)) plan.run.start plan.run.end = is.places ∙ ap (λ f. slice_range (map (λ o. o.0) (links_in trees f)) plan.run.start plan.run.end) (same 0 plan (omega arith)) in
        ap (λ ps. ps ++ places_of_runs plans) here
        ∙ ap (λ ps. slice_range (map (λ o. o.0) (links_in trees frame)) plan.run.start plan.run.end ++ ps) (all_slices plans (λ k d less. each (suc k) d (omega (arith, less))) (λ k d less. same (suc k) d (omega (arith, less))))

    pub frame_once : (runs : List (Range ℕ)) (plans : List RunPlan) → AreRunPlans trees frame runs plans → AreRising 0 runs (length (links_in trees frame)) → come_once (places_of_runs plans) ≡ true
    frame_once runs [] are rise = refl
    frame_once runs (plan ∷ plans) are rise =
        let once : are_once (links_in trees frame) ≡ true = subst (λ f. are_once (links_in trees f) ≡ true) (are.frames 0 plan (omega arith)) (are.once 0 plan (omega arith)) in
        ap come_once (all_slices (plan ∷ plans) are.each are.frames ∙ ap (slices (map (λ o. o.0) (links_in trees frame))) are.runs_are)
        ∙ slices_once (map (λ o. o.0) (links_in trees frame)) 0 runs (length (links_in trees frame)) rise (once_in_tree (links_in trees frame) once)

  -- two runs of one frame, one of which starts within the other, start together
  abbrev pub Agree : RunPlan → RunPlan → Type 0
  Agree a b = a.frame ≡ b.frame → StartWithin a.run b.run

  pub map_pairs : (plans : List RunPlan) (rs : List (Range ℕ)) → map (λ plan. plan.run) plans ≡ rs → All (λ a. All (StartWithin a) rs) rs → All (λ a. All (Agree a) plans) plans
  map_pairs plans rs same apart k d less j e w = λ frames.
      let at_k = run_at plans k d less in
      let at_j = run_at plans j e w in
      let n = run_count plans in
      subst (λ r. StartWithin r (get_or plans j e).run) at_k (subst (StartWithin (get_or (map (λ plan. plan.run) plans) k d.run)) at_j
      (subst (λ qs. All (λ a. All (StartWithin a) qs) qs) (sym same) apart k d.run (omega (arith, less, n)) j e.run (omega (arith, w, n))))
    where
      run_at : (plans : List RunPlan) (k : ℕ) (d : RunPlan) → k < length plans → get_or (map (λ plan. plan.run) plans) k d.run ≡ (get_or plans k d).run
      run_at [] k d less = absurd (omega (arith, less))
      run_at (p ∷ ps) zero d less = refl
      run_at (p ∷ ps) (suc k) d less = run_at ps k d (omega (arith, less))

      run_count : (plans : List RunPlan) → length (map (λ plan. plan.run) plans) ≡ length plans
      run_count [] = refl
      run_count (p ∷ ps) = ap suc (run_count ps)
