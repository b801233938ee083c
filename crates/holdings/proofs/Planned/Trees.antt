-- The trees after a planned strip: they can lose the places that are held no more, and those of other frames have none.
use Rattle.std.proofs.Common.{◌≡◌, ℕ, zero, suc, ◌+◌, ◌<◌, ◌≤◌, ◌==◌, true, false, Bool, ◌||◌, List, [], ◌∷◌, ◌++◌, length, take, drop, map, filter, Option, Some, None, is_some, get_or, refl, sym, ap, ◌∙◌, subst, arith, ◌⊎◌, inl, inr, if◌then◌else◌}
use Rattle.std.specs.List.{All}
use Rattle.std.specs.declared.ops.Range.{Range}
use Rattle.std.proofs.lemmas.Bool.{or_cases, or_left, or_right, false_from_ne_true, eqb-true, eq-eqb}
use Rattle.std.proofs.lemmas.List.{take_more}
use Rattle.std.proofs.lemmas.List.Folds.{list_any-append}
use Rattle.fpage.specs.declared.rights.Rights.{Rights}
use Rattle.space.specs.declared.place.Place.{Place}
use Rattle.space.specs.declared.place.Entry.{Entry}
use Rattle.space.specs.declared.shards.Shards.{Shards}
use Rattle.space.specs.Shards.{IsPlace, entry_at}
use Rattle.maptree.specs.Origins.{Origins, Shape, place_at, are_once, LiesInOne}
use Rattle.model.specs.Definitions.Holdings.{at}
use Rattle.model.specs.Definitions.Derived.{is_below}
use Rattle.model.proofs.Derivations.{below_is_a_chain}
use Rattle.model.proofs.LawfulParts.{IsLawful, lawful_parts}
use Rattle.model.proofs.Lookups.{changed, at_each}
use Rattle.model.proofs.StripAt.{stripping}
use Rattle.model.proofs.Narrowings.{not_narrowed}
use Rattle.model.specs.Definitions.Holdings.{only}
use Rattle.space.proofs.Places.{same_is, same_self}
use Rattle.space.specs.Place.{same_place}
use Rattle.maptree.proofs.Listed.{listed_at}
use Rattle.holdings.specs.Places.{any_of}
use Rattle.holdings.specs.Inner.Held.{links_in, is_listed, limits_in, holdings_in, has_entry}
use Rattle.holdings.specs.Inner.Links.{IsTreeSet}
use Rattle.holdings.specs.Inner.Planning.{RunPlan, IsRunPlan, all_places, first_of, places_of_runs}
use Rattle.holdings.specs.Inner.Sound.{AreSound}
use Rattle.holdings.specs.Inner.Stripping.{pruned}
use Rattle.holdings.specs.Inner.StripPlans.{AreFrameRuns, AreRunPlans, AreFramePlans, HaveRuns, CanBePruned, AllCanBePruned, ArePruned, is_planned}
use Rattle.holdings.specs.declared.pages.HeldPage.{HeldPage}
use Rattle.pieces.specs.declared.runs.FrameRuns.{FrameRuns}
use Rattle.holdings.proofs.Contents.Holders.{present_within}
use Rattle.holdings.proofs.Contents.Listing.{within_from_place}
use Rattle.holdings.proofs.Contents.WordChanges.{frame_from}
use Rattle.holdings.proofs.Stripping.Frames.{loose_from, all_outside, entry_of_held, origins_with_places}
use Rattle.holdings.proofs.Stripping.Sequences.{AreStripped}
use Rattle.holdings.proofs.Stripping.Walks.{standing_place}
use Rattle.holdings.proofs.Trees.Chains.{among_at, chains_agree}
use Rattle.holdings.proofs.Trees.Pruning.{all_pass}
use Rattle.holdings.proofs.Planned.Apart.{any_cases, one_tree, run_among, run_listed, below_run, first_listed}
use Rattle.holdings.proofs.Planned.Plan.{frames_differ, have_runs, each_planned, plans_differ, in_plan, position_once}

-- ---- trees that lose places, frame after frame

-- a filter twice is a filter once
twice : (test : Place → Bool) (os : Origins) → filter (λ o. test o.0) (filter (λ o. test o.0) os) ≡ filter (λ o. test o.0) os
twice test [] = refl
twice test (o ∷ os) = by (test o.0) refl (twice test os)
  where
    by : (b : Bool) → test o.0 ≡ b → filter (λ o. test o.0) (filter (λ o. test o.0) os) ≡ filter (λ o. test o.0) os
        → filter (λ o. test o.0) (if b then o ∷ filter (λ o. test o.0) os else filter (λ o. test o.0) os) ≡ (if b then o ∷ filter (λ o. test o.0) os else filter (λ o. test o.0) os)
    by true is rest = rw is (ap (λ xs. o ∷ xs) rest)
    by false is rest = rest

-- what was done with the trees so far, and what can be done with the others
pub record ArePrunedUpTo (s : Shards) (fs : List FrameRuns) (old : List Shape) (n : ℕ) (now : List Shape) : Type 0 where
  pub done : ArePruned s (take n fs) old now
  pub rest : AllCanBePruned s now (drop n fs)

pub none_pruned : (s : Shards) (fs : List FrameRuns) (trees : List Shape) → AllCanBePruned s trees fs → ArePrunedUpTo s fs trees 0 trees
none_pruned s fs trees can = record { done = record { count = refl; there = λ g is. absurd (cc is); elsewhere = λ g is. refl }; rest = can }

pub drop_here : (n : ℕ) (fs : List FrameRuns) (d : FrameRuns) → n < length fs → drop n fs ≡ get_or fs n d ∷ drop (n + 1) fs
drop_here n [] d less = absurd (omega (arith, less))
drop_here zero (f ∷ fs) d less = refl
drop_here (suc n) (f ∷ fs) d less = let more : suc n + 1 ≡ suc (n + 1) = omega arith in drop_here n fs d (omega (arith, less)) ∙ ap (λ m. get_or fs n d ∷ drop m (f ∷ fs)) (sym more)

-- the next frame's tree
pub next_tree : (s : Shards) (fs : List FrameRuns) (old : List Shape) (n : ℕ) (now : List Shape) (d : FrameRuns) → ArePrunedUpTo s fs old n now → n < length fs
    → ((get_or fs n d).frame < length now) × CanBePruned s (links_in now (get_or fs n d).frame) (get_or fs n d).runs
next_tree s fs old n now d so_far less = let all = subst (AllCanBePruned s now) (drop_here n fs d less) so_far.rest in (all.0, all.1)

-- others can still lose places
still : (s : Shards) (fs : List FrameRuns) (now next : List Shape) (frame : ℕ) (links : Origins) → IsTreeSet now next frame links → All (λ f. f.frame ≡ frame → ⊥) fs → AllCanBePruned s now fs → AllCanBePruned s next fs
still s [] now next frame links set differ can = can
still s (f ∷ fs) now next frame links set differ can = (
  subst (λ n. f.frame < n) (sym set.count) can.0,
  subst (λ os. CanBePruned s os f.runs) (sym (set.elsewhere f.frame (differ 0 f (omega arith)))) can.1,
  can.2,
  still s fs now next frame links set (λ k d less. differ (suc k) d (omega (arith, less))) can.3,
)

pub one_pruned : (s : Shards) (fs : List FrameRuns) (old : List Shape) (n : ℕ) (now next : List Shape) (d : FrameRuns) → ArePrunedUpTo s fs old n now → n < length fs
    → IsTreeSet now next (get_or fs n d).frame (pruned s (links_in now (get_or fs n d).frame)) → ArePrunedUpTo s fs old (n + 1) next
one_pruned s fs old n now next d so_far less set =
    let f = get_or fs n d in
    let all = subst (AllCanBePruned s now) (drop_here n fs d less) so_far.rest in
    let grown = take_more fs n d less in
    record {
      done = subst (λ gs. ArePruned s gs old next) (sym grown) (record {
        count = set.count ∙ so_far.done.count;
        there = λ g is. there g (or_cases (f.frame == g) (is_planned (take n fs) g) (last f (take n fs) g ∙ is)) (is_planned (take n fs) g) refl;
        elsewhere = λ g none. let both = neither (f.frame == g) (is_planned (take n fs) g) (last f (take n fs) g ∙ none) in set.elsewhere g (λ same. cc (both.0, eq-eqb f.frame g (sym same))) ∙ so_far.done.elsewhere g both.1;
      });
      rest = still s (drop (n + 1) fs) now next f.frame _ set all.2 all.3;
    }
  where
    last : (f : FrameRuns) (gs : List FrameRuns) (g : ℕ) → ((f.frame == g) || is_planned gs g) ≡ is_planned (gs ++ f ∷ []) g
    last f [] g = refl
    last f (h ∷ gs) g = swap (f.frame == g) (h.frame == g) (is_planned gs g) ∙ ap (λ b. (h.frame == g) || b) (last f gs g)
      where
        swap : (a b c : Bool) → (a || (b || c)) ≡ (b || (a || c))
        swap a b c = grind arith

    neither : (a b : Bool) → (a || b) ≡ false → (a ≡ false) × (b ≡ false)
    neither true b none = absurd (cc none)
    neither false b none = (refl, none)

    links_now : (g : ℕ) → is_planned (take n fs) g ≡ true → pruned s (links_in now g) ≡ pruned s (links_in old g)
    links_now g was = ap (pruned s) (so_far.done.there g was) ∙ twice (has_entry s) (links_in old g)

    changed_now : (g : ℕ) → (b : Bool) → is_planned (take n fs) g ≡ b → pruned s (links_in now g) ≡ pruned s (links_in old g)
    changed_now g true was = links_now g was
    changed_now g false was = ap (pruned s) (so_far.done.elsewhere g was)

    there : (g : ℕ) → (((get_or fs n d).frame == g) ≡ true) ⊎ (is_planned (take n fs) g ≡ true) → (b : Bool) → is_planned (take n fs) g ≡ b → links_in next g ≡ pruned s (links_in old g)
    there g (inl here) b was =
        let same : (get_or fs n d).frame ≡ g = eqb-true (get_or fs n d).frame g here in
        ap (links_in next) (sym same) ∙ set.there ∙ ap (λ h. pruned s (links_in now h)) same ∙ changed_now g b was
    there g (inr before) b was = by (mathlib_or (get_or fs n d).frame g)
      where
        mathlib_or : (x y : ℕ) → (x ≡ y) ⊎ (x ≡ y → ⊥)
        mathlib_or x y = by_test (x == y) refl
          where
            by_test : (b : Bool) → (x == y) ≡ b → (x ≡ y) ⊎ (x ≡ y → ⊥)
            by_test true is = inl (eqb-true x y is)
            by_test false is = inr (λ same. cc (is, eq-eqb x y same))

        by : ((get_or fs n d).frame ≡ g) ⊎ ((get_or fs n d).frame ≡ g → ⊥) → links_in next g ≡ pruned s (links_in old g)
        by (inl same) = ap (links_in next) (sym same) ∙ set.there ∙ ap (λ h. pruned s (links_in now h)) same ∙ links_now g before
        by (inr apart) = set.elsewhere g (λ same. apart (sym same)) ∙ so_far.done.there g before

pub all_pruned : (s : Shards) (fs : List FrameRuns) (old : List Shape) (n : ℕ) (now : List Shape) → ArePrunedUpTo s fs old n now → length fs ≤ n → ArePruned s fs old now
all_pruned s fs old n now so_far end = subst (λ gs. ArePruned s gs old now) (all n fs end) so_far.done
  where
    all : (n : ℕ) (xs : List FrameRuns) → length xs ≤ n → take n xs ≡ xs
    all zero [] end = refl
    all (suc n) [] end = refl
    all zero (x ∷ xs) end = absurd (omega (arith, end))
    all (suc n) (x ∷ xs) end = ap (λ ys. x ∷ ys) (all n xs (omega (arith, end)))

-- ---- after a planned strip

module _ (s : Shards) (trees : List Shape) (sound : AreSound s trees) where
  lawful : IsLawful (holdings_in s trees)
  lawful = lawful_parts (holdings_in s trees) sound.kept.lawful

  -- what derives from first pages is in their runs
  below_in_runs : (plans : List RunPlan) → All (IsRunPlan trees) plans → (q : Place) (frame : ℕ) → is_listed trees frame q ≡ true → is_below (holdings_in s trees) (any_of (map (first_of trees) plans)) q ≡ true → any_of (places_of_runs plans) q ≡ true
  below_in_runs plans each q frame listed below =
      let chain = (below_is_a_chain (holdings_in s trees) sound.kept.lawful (any_of (map (first_of trees) plans)) q).0 below in
      in_run plans each chain.into chain.within (λ set is. (below_is_a_chain (holdings_in s trees) sound.kept.lawful set q).1 (record { origins = chain.origins; enough = omega arith; into = chain.into; leads = chain.leads; within = is })) same_tree
    where
      same_tree : (plan : RunPlan) → IsRunPlan trees plan → is_below (holdings_in s trees) (only (first_of trees plan)) q ≡ true → is_listed trees plan.frame q ≡ true
      same_tree plan is below_first =
          let e = frame_from frame (entry_at s q) (sound.pruned.held frame q listed) in
          let inside = within_from_place (limits_in s trees) q (sound.pruned.within frame q listed) in
          let chain = (below_is_a_chain (holdings_in s trees) sound.kept.lawful (only (first_of trees plan)) q).0 below_first in
          let agree = chains_agree s trees (loose_from s trees sound) chain.origins q e.0 inside e.1 in
          let last = agree.1 chain.into chain.leads in
          let into : chain.into ≡ first_of trees plan = sym (same_is (first_of trees plan) chain.into chain.within) in
          let first = frame_from plan.frame (entry_at s (first_of trees plan)) (sound.pruned.held plan.frame (first_of trees plan) (first_listed s trees sound plan is)) in
          let one : plan.frame ≡ frame = frames last.0 first.0 (sym last.1 ∙ ap (entry_at s) into ∙ first.1) last.2 first.2 ∙ e.2 in
          subst (λ f. is_listed trees f q ≡ true) (sym one) listed
        where
          frames : (a b : Entry) → Some a ≡ Some b → {x y : ℕ} → a.frame ≡ x → b.frame ≡ y → y ≡ x
          frames a b same one two = cc (same, one, two)

      in_run : (plans : List RunPlan) → All (IsRunPlan trees) plans → (c : Place) → any_of (map (first_of trees) plans) c ≡ true → ((set : Place → Bool) → set c ≡ true → is_below (holdings_in s trees) set q ≡ true)
          → ((plan : RunPlan) → IsRunPlan trees plan → is_below (holdings_in s trees) (only (first_of trees plan)) q ≡ true → is_listed trees plan.frame q ≡ true) → any_of (places_of_runs plans) q ≡ true
      in_run [] each c among leads tree = absurd (cc among)
      in_run (plan ∷ plans) each c among leads tree =
          by (or_cases (same_place c (first_of trees plan)) (any_of (map (first_of trees) plans) c) among) (λ there. in_run plans (λ k d less. each (suc k) d (omega (arith, less))) c there leads tree)
        where
          by : (same_place c (first_of trees plan) ≡ true) ⊎ (any_of (map (first_of trees) plans) c ≡ true) → (any_of (map (first_of trees) plans) c ≡ true → any_of (places_of_runs plans) q ≡ true) → any_of (all_places plan.parts ++ places_of_runs plans) q ≡ true
          by (inl here) rest =
              let is : IsRunPlan trees plan = each 0 plan (omega arith) in
              let below_first = leads (only (first_of trees plan)) (subst (λ x. same_place (first_of trees plan) x ≡ true) (sym (same_is c (first_of trees plan) here)) (same_self (first_of trees plan))) in
              list_any-append (same_place q) (all_places plan.parts) (places_of_runs plans) ∙ or_left _ _ (sym (below_run s trees sound plan is q (tree plan is below_first)) ∙ below_first)
          by (inr there) rest = list_any-append (same_place q) (all_places plan.parts) (places_of_runs plans) ∙ or_right (any_of (all_places plan.parts) q) _ (rest there)

  -- a page of a run that is listed in a frame's tree is in a run of that frame
  record IsInFrame (f : FrameRuns) (q : Place) : Type 0 where
    mine : List RunPlan
    are : AreRunPlans trees f.frame f.runs mine
    within : any_of (places_of_runs mine) q ≡ true

  in_frame : (pages : List HeldPage) (fs : List FrameRuns) (plans : List RunPlan) → AreFrameRuns trees pages fs → AreFramePlans trees fs plans → (q : Place) → any_of (places_of_runs plans) q ≡ true
      → All (λ f. is_listed trees f.frame q ≡ true → IsInFrame f q) fs
  in_frame pages [] plans groups planned q within = λ k d less. absurd (omega (arith, less))
  in_frame pages (f ∷ fs) plans (group, rest, whole, is, groups) (mine, others, joined, are, planned) q within = by (any_cases (places_of_runs mine) (places_of_runs others) q (sym (ap (λ ps. any_of ps q) split) ∙ within)) (λ there. in_frame rest fs others groups planned q there)
    where
      split : places_of_runs plans ≡ places_of_runs mine ++ places_of_runs others
      split = ap places_of_runs joined ∙ flat_append mine others
        where
          flat_append : (xs ys : List RunPlan) → places_of_runs (xs ++ ys) ≡ places_of_runs xs ++ places_of_runs ys
          flat_append [] ys = refl
          flat_append (x ∷ xs) ys = ap (λ ps. all_places x.parts ++ ps) (flat_append xs ys) ∙ sym (assoc (all_places x.parts) (places_of_runs xs) (places_of_runs ys))
            where
              assoc : (us vs ws : List Place) → (us ++ vs) ++ ws ≡ us ++ (vs ++ ws)
              assoc [] vs ws = refl
              assoc (u ∷ us) vs ws = ap (λ ps. u ∷ ps) (assoc us vs ws)

      d : RunPlan
      d = record { frame = 0; run = record { start = 0; end = 0 }; origin = None; parts = [] }

      in_mine : any_of (places_of_runs mine) q ≡ true → is_listed trees f.frame q ≡ true
      in_mine here = let at = in_plan trees mine q here in subst (λ g. is_listed trees g q ≡ true) (are.frames at.0 d at.1) (run_listed s trees sound (get_or mine at.0 d) (are.each at.0 d at.1) q (at.2 d))

      by : (any_of (places_of_runs mine) q ≡ true) ⊎ (any_of (places_of_runs others) q ≡ true) → (any_of (places_of_runs others) q ≡ true → All (λ f. is_listed trees f.frame q ≡ true → IsInFrame f q) fs)
          → All (λ f. is_listed trees f.frame q ≡ true → IsInFrame f q) (f ∷ fs)
      by (inl here) later zero e less = λ listed. record { mine = mine; are = are; within = here }
      by (inl here) later (suc k) e less = λ listed.
          absurd (frames_differ trees rest fs groups f.frame is.others k e (omega (arith, less)) (one_tree s trees sound (get_or fs k e).frame f.frame q listed (in_mine here)))
      by (inr there) later zero e less = λ listed.
          let at = in_plan trees others q there in
          let in_g = run_listed s trees sound (get_or others at.0 d) (each_planned trees fs others planned at.0 d at.1) q (at.2 d) in
          absurd (plans_differ trees fs others planned f.frame (frames_differ trees rest fs groups f.frame is.others) at.0 d at.1 (one_tree s trees sound (get_or others at.0 d).frame f.frame q in_g listed))
      by (inr there) later (suc k) e less = later there k e (omega (arith, less))

  -- and lies in it
  lies_in_frame : (f : FrameRuns) (j : ℕ) (d : Place) → j < length (links_in trees f.frame) → IsInFrame f (place_at (links_in trees f.frame) j d) → LiesInOne j f.runs
  lies_in_frame f j d less is =
      let e : RunPlan = record { frame = 0; run = record { start = 0; end = 0 }; origin = None; parts = [] } in
      let q = place_at (links_in trees f.frame) j d in
      let at = in_plan trees is.mine q is.within in
      let plan = get_or is.mine at.0 e in
      let of_frame : plan.frame ≡ f.frame = is.are.frames at.0 e at.1 in
      let among = sym (run_among s trees sound plan (is.are.each at.0 e at.1) q) ∙ at.2 e in
      let x = among_at (links_in trees plan.frame) plan.run.start plan.run.end q d among in
      let once : are_once (links_in trees f.frame) ≡ true = subst (λ g. are_once (links_in trees g) ≡ true) of_frame (is.are.once at.0 e at.1) in
      let x_less : x.0 < length (links_in trees f.frame) = subst (λ g. x.0 < length (links_in trees g)) of_frame x.3 in
      let there : place_at (links_in trees f.frame) x.0 d ≡ q = ap (λ g. place_at (links_in trees g) x.0 d) (sym of_frame) ∙ x.4 in
      let same : x.0 ≡ j = position_once s trees sound (links_in trees f.frame) once x.0 j d x_less less there in
      lies is.mine f.runs is.are.runs_are at.0 e at.1 (omega (arith, x.1, same)) (omega (arith, x.2, same))
    where
      lies : (plans : List RunPlan) (rs : List (Range ℕ)) → map (λ plan. plan.run) plans ≡ rs → (k : ℕ) (e : RunPlan) → k < length plans → (get_or plans k e).run.start ≤ j → j < (get_or plans k e).run.end → LiesInOne j rs
      lies [] rs same k e w a b = absurd (omega (arith, w))
      lies (p ∷ ps) [] same k e w a b = absurd (cc same)
      lies (p ∷ ps) (r ∷ rs) same zero e w a b = let run_is : p.run ≡ r = cc same in inl (subst (λ x. x.start ≤ j) run_is a, subst (λ x. j < x.end) run_is b)
      lies (p ∷ ps) (r ∷ rs) same (suc k) e w a b = inr (lies ps rs (cc same) k e (omega (arith, w)) a b)

  module _ (plans : List RunPlan) (a : Rights) (flush : Bool) (new : Shards) (status : Rights) (done : AreStripped s trees (map (first_of trees) plans) a flush new status) (each : All (IsRunPlan trees) plans) where
    -- a place that is in no run keeps its entry
    stays : (frame : ℕ) (q : Place) → is_listed trees frame q ≡ true → any_of (places_of_runs plans) q ≡ false → has_entry new q ≡ true
    stays frame q listed none =
        let h = holdings_in s trees in
        let set = any_of (map (first_of trees) plans) in
        let inside = within_from_place (limits_in s trees) q (sound.pruned.within frame q listed) in
        let e = frame_from frame (entry_at s q) (sound.pruned.held frame q listed) in
        let held = present_within (limits_in s trees) s trees q inside e.0 e.1 in
        let not_below : is_below h set q ≡ false = false_from_ne_true _ (λ below. cc (none, below_in_runs plans each q frame listed below)) in
        let left = at_each (stripping h set a flush) h q lawful.sorted in
        let kept = not_narrowed h set flush q not_below in
        entry_of_held new trees done.loose q (ap is_some (ap (λ k. at k q) done.left ∙ left ∙ ap (changed (stripping h set a flush) q) held) ∙ rw kept refl)

    module _ (pages : List HeldPage) (fs : List FrameRuns) (groups : AreFrameRuns trees pages fs) (planned : AreFramePlans trees fs plans) where
      one_can : (k : ℕ) (d : FrameRuns) → k < length fs → CanBePruned new (links_in trees (get_or fs k d).frame) (get_or fs k d).runs
      one_can k d less =
          let f = get_or fs k d in
          let os = links_in trees f.frame in
          let have : HaveRuns trees f = have_runs trees pages fs groups k d less in
          record {
            places = λ i o within. subst (IsPlace new) (read os i o within) (standing_place new trees f.frame done.loose (place_at os i (get_or os i o).0) (listed_at os i (get_or os i o).0 within));
            rising = have.rising;
            runs_are = have.whole;
            outside_stay = all_outside (has_entry new) os 0 f.runs have.rising (λ j e least within out.
                let q = place_at os j e in
                let listed = listed_at os j e within in
                stays f.frame q listed (false_from_ne_true _ (λ inside. out (lies_in_frame f j e within (in_frame pages fs plans groups planned q inside k d less listed)))));
            origins = origins_with_places new trees done.loose f.frame;
          }
        where
          read : (os : Origins) (k : ℕ) (d : Place × Option Place) → k < length os → place_at os k (get_or os k d).0 ≡ (get_or os k d).0
          read [] k d within = absurd (omega (arith, within))
          read (o ∷ os) zero d within = refl
          read (o ∷ os) (suc k) d within = read os k d (omega (arith, within))

      pub all_can : AllCanBePruned new trees fs
      all_can = by pages fs groups one_can
        where
          by : (pages : List HeldPage) (gs : List FrameRuns) → AreFrameRuns trees pages gs → ((k : ℕ) (d : FrameRuns) → k < length gs → CanBePruned new (links_in trees (get_or gs k d).frame) (get_or gs k d).runs) → AllCanBePruned new trees gs
          by pages [] groups can = _
          by pages (g ∷ gs) (group, rest, whole, is, groups) can =
              (is.frame, can 0 g (omega arith), frames_differ trees rest gs groups g.frame is.others, by rest gs groups (λ k d less. can (suc k) d (omega (arith, less))))

      -- the trees of other frames have lost no place
      untouched : (g : ℕ) → is_planned fs g ≡ false → links_in trees g ≡ pruned new (links_in trees g)
      untouched g none =
          sym (all_pass (λ o. has_entry new o.0) (links_in trees g) (all_outside (has_entry new) (links_in trees g) 0 [] (omega arith) (λ j e least within out.
          let q = place_at (links_in trees g) j e in
          let listed = listed_at (links_in trees g) j e within in
          stays g q listed (false_from_ne_true _ (λ inside.
          let d : RunPlan = record { frame = 0; run = record { start = 0; end = 0 }; origin = None; parts = [] } in
          let at = in_plan trees plans q inside in
          let in_f = run_listed s trees sound (get_or plans at.0 d) (each at.0 d at.1) q (at.2 d) in
          plans_differ trees fs plans planned g (differ fs none) at.0 d at.1 (one_tree s trees sound (get_or plans at.0 d).frame g q in_f listed))))))
        where
          differ : (fs : List FrameRuns) → is_planned fs g ≡ false → All (λ f. f.frame ≡ g → ⊥) fs
          differ [] none k d less same = absurd (omega (arith, less))
          differ (f ∷ fs) none zero d less same = absurd (cc (none, or_left (f.frame == g) (is_planned fs g) (eq-eqb f.frame g same)))
          differ (f ∷ fs) none (suc k) d less same = differ fs (rest (f.frame == g) none) k d (omega (arith, less)) same
            where
              rest : (b : Bool) → (b || is_planned fs g) ≡ false → is_planned fs g ≡ false
              rest true none = absurd (cc none)
              rest false none = none

      -- so all trees are as pruned ones
      pub trees_left : (left : List Shape) → ArePruned new fs trees left → (g : ℕ) → links_in left g ≡ pruned new (links_in trees g)
      trees_left left are g = by (is_planned fs g) refl
        where
          by : (b : Bool) → is_planned fs g ≡ b → links_in left g ≡ pruned new (links_in trees g)
          by true is = are.there g is
          by false is = are.elsewhere g is ∙ untouched g is
