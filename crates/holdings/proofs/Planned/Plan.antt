-- The runs of held pages, frame by frame, are the plan of a strip.
use Rattle.std.proofs.Common.{◌≡◌, ℕ, zero, suc, ◌<◌, ◌==◌, true, false, ◌||◌, not, List, [], ◌∷◌, ◌++◌, length, map, Option, Some, None, get_or, refl, sym, ap, ◌∙◌, subst, arith, ◌⊎◌, inl, inr}
use Rattle.std.specs.List.{All, list_all}
use Rattle.std.specs.declared.ops.Range.{Range}
use Rattle.std.proofs.lemmas.Bool.{and_parts, and_from, or_cases, or_left, or_right, false_from_ne_true, eqb-true}
use Rattle.std.proofs.lemmas.Grind.{flat_map-append}
use Rattle.std.proofs.lemmas.List.{map-append}
use Rattle.std.proofs.lemmas.List.Elements.{All-append}
use Rattle.std.proofs.lemmas.List.Folds.{list_any-append}
use Rattle.std.proofs.lemmas.Option.{same_Some}
use Rattle.space.specs.declared.place.Place.{Place}
use Rattle.space.specs.declared.place.Entry.{Entry}
use Rattle.space.specs.declared.shards.Shards.{Shards}
use Rattle.space.specs.Place.{same_place}
use Rattle.space.specs.Shards.{entry_at}
use Rattle.space.proofs.Places.{same_is, same_self}
use Rattle.maptree.specs.Origins.{Origins, Shape, are_once, place_at}
use Rattle.model.specs.Definitions.Holdings.{PlaceSet, only, is_held}
use Rattle.model.specs.Definitions.Derived.{is_below}
use Rattle.model.proofs.LawfulParts.{IsLawful, lawful_parts}
use Rattle.model.proofs.Chains.{below_from, below_within, in_below}
use Rattle.holdings.specs.Places.{any_of}
use Rattle.holdings.specs.Inner.Held.{links_in, is_place, is_listed, limits_in, holdings_in, has_entry}
use Rattle.holdings.specs.Inner.Planning.{RunPlan, IsRunPlan, IsStripPlan, all_places, come_once, first_of, places_of_runs}
use Rattle.holdings.specs.Inner.Sound.{AreSound}
use Rattle.holdings.specs.Inner.Stripping.{any_page, places_in, HasItsFrame, AreHeldPages, AreOfFrame, firsts}
use Rattle.holdings.specs.Inner.StripPlans.{AreFrameRuns, AreFramePlans, HaveRuns, HaveWords, pages_of, is_planned}
use Rattle.holdings.specs.declared.pages.HeldPage.{HeldPage}
use Rattle.pieces.specs.declared.runs.FrameRuns.{FrameRuns}
use Rattle.holdings.proofs.Contents.Listing.{within_from_place}
use Rattle.holdings.proofs.Contents.WordChanges.{frame_from}
use Rattle.holdings.proofs.Stripping.Frames.{covered, entry_of_held, loose_from}
use Rattle.holdings.proofs.Trees.Chains.{among_at}
use Rattle.holdings.proofs.Planned.Runs.{IsRunOf, one_part, one_part_planned, places_of_one}
use Rattle.holdings.proofs.Planned.Apart.{starts_apart, joined_once, any_cases, any_first, any_second, one_tree, run_among, run_listed, first_is, first_listed, below_run, first_origin, origin_apart, have_words, frame_once, Agree, map_pairs}

-- ---- lists

pub first_all : {A : Type 0} (P : A → Type 0) (xs ys : List A) → All P (xs ++ ys) → All P xs
first_all P [] ys all k d less = absurd (omega (arith, less))
first_all P (x ∷ xs) ys all zero d less = all 0 d (omega arith)
first_all P (x ∷ xs) ys all (suc k) d less = first_all P xs ys (λ j e l. all (suc j) e (omega (arith, l))) k d (omega (arith, less))

pub second_all : {A : Type 0} (P : A → Type 0) (xs ys : List A) → All P (xs ++ ys) → All P ys
second_all P [] ys all = all
second_all P (x ∷ xs) ys all = second_all P xs ys (λ j e l. all (suc j) e (omega (arith, l)))

-- what holds of each with each
pairs_joined : {A : Type 0} (R : A → A → Type 0) (xs ys : List A) → All (λ a. All (R a) xs) xs → All (λ a. All (R a) ys) xs → All (λ a. All (R a) xs) ys → All (λ a. All (R a) ys) ys → All (λ a. All (R a) (xs ++ ys)) (xs ++ ys)
pairs_joined R xs ys a b c d =
    All-append (λ a. All (R a) (xs ++ ys)) xs ys
    (λ k e less. All-append (R (get_or xs k e)) xs ys (a k e less) (b k e less))
    (λ k e less. All-append (R (get_or ys k e)) xs ys (c k e less) (d k e less))

-- where all of a list differ, one is not among them
planned_at : (fs : List FrameRuns) (g : ℕ) → is_planned fs g ≡ true → All (λ f. f.frame ≡ g → ⊥) fs → ⊥
planned_at [] g is differ = cc is
planned_at (f ∷ fs) g is differ = by (or_cases (f.frame == g) (is_planned fs g) is) (λ there. planned_at fs g there (λ k d less. differ (suc k) d (omega (arith, less))))
  where
    by : ((f.frame == g) ≡ true) ⊎ (is_planned fs g ≡ true) → (is_planned fs g ≡ true → ⊥) → ⊥
    by (inl here) rest = differ 0 f (omega arith) (eqb-true f.frame g here)
    by (inr there) rest = rest there

-- ---- the frames of groups

-- a frame that no page has is none of theirs
pub frames_differ : (trees : List Shape) (pages : List HeldPage) (fs : List FrameRuns) → AreFrameRuns trees pages fs → (x : ℕ) → All (λ h. h.frame ≡ x → ⊥) pages → All (λ f. f.frame ≡ x → ⊥) fs
frames_differ trees pages [] are x differ = λ k d less. absurd (omega (arith, less))
frames_differ trees pages (f ∷ fs) (group, rest, joined, is, are) x differ = by (frames_differ trees rest fs are x (second_all (λ h. h.frame ≡ x → ⊥) group rest both))
  where
    both : All (λ h. h.frame ≡ x → ⊥) (group ++ rest)
    both = subst (All (λ h. h.frame ≡ x → ⊥)) joined differ

    first_differs : f.frame ≡ x → ⊥
    first_differs same =
        let d : HeldPage = record { frame = 0; place = record { space = 0; page = 0 } } in
        first_all (λ h. h.frame ≡ x → ⊥) group rest both 0 d is.some (is.same 0 d is.some ∙ same)

    by : All (λ f. f.frame ≡ x → ⊥) fs → All (λ f. f.frame ≡ x → ⊥) (f ∷ fs)
    by later zero d less = first_differs
    by later (suc k) d less = later k d (omega (arith, less))

pub have_runs : (trees : List Shape) (pages : List HeldPage) (fs : List FrameRuns) → AreFrameRuns trees pages fs → All (HaveRuns trees) fs
have_runs trees pages [] are k d less = absurd (omega (arith, less))
have_runs trees pages (f ∷ fs) (group, rest, joined, is, are) zero d less = record { frame = is.frame; rising = is.runs.rising; whole = is.runs.whole }
have_runs trees pages (f ∷ fs) (group, rest, joined, is, are) (suc k) d less = have_runs trees rest fs are k d (omega (arith, less))

-- ---- the plans of frames

module _ (trees : List Shape) where
  -- each is planned
  pub each_planned : (fs : List FrameRuns) (plans : List RunPlan) → AreFramePlans trees fs plans → All (IsRunPlan trees) plans
  each_planned [] plans none = subst (All (IsRunPlan trees)) (sym none) (λ k d less. absurd (omega (arith, less)))
  each_planned (f ∷ fs) plans (mine, others, joined, are, rest) = subst (All (IsRunPlan trees)) (sym joined) (All-append (IsRunPlan trees) mine others are.each (each_planned fs others rest))

  pub each_once : (fs : List FrameRuns) (plans : List RunPlan) → AreFramePlans trees fs plans → All (λ plan. are_once (links_in trees plan.frame) ≡ true) plans
  each_once [] plans none = subst (All (λ plan. are_once (links_in trees plan.frame) ≡ true)) (sym none) (λ k d less. absurd (omega (arith, less)))
  each_once (f ∷ fs) plans (mine, others, joined, are, rest) =
      subst (All (λ plan. are_once (links_in trees plan.frame) ≡ true)) (sym joined) (All-append (λ plan. are_once (links_in trees plan.frame) ≡ true) mine others are.once (each_once fs others rest))

  -- no plan has a frame that no group has
  pub plans_differ : (fs : List FrameRuns) (plans : List RunPlan) → AreFramePlans trees fs plans → (x : ℕ) → All (λ f. f.frame ≡ x → ⊥) fs → All (λ plan. plan.frame ≡ x → ⊥) plans
  plans_differ [] plans none x differ = subst (All (λ plan. plan.frame ≡ x → ⊥)) (sym none) (λ k d less. absurd (omega (arith, less)))
  plans_differ (f ∷ fs) plans (mine, others, joined, are, rest) x differ =
      subst (All (λ plan. plan.frame ≡ x → ⊥)) (sym joined)
      (All-append (λ plan. plan.frame ≡ x → ⊥) mine others (λ k d less same. differ 0 f (omega arith) (sym (are.frames k d less) ∙ same))
      (plans_differ fs others rest x (λ k d less. differ (suc k) d (omega (arith, less)))))

  -- a page of a run is a page of one of the plans
  pub in_plan : (plans : List RunPlan) (q : Place) → any_of (places_of_runs plans) q ≡ true → (k : ℕ) × (k < length plans) × ((d : RunPlan) → any_of (all_places (get_or plans k d).parts) q ≡ true)
  in_plan [] q is = absurd (cc is)
  in_plan (plan ∷ plans) q is = by (any_cases (all_places plan.parts) (places_of_runs plans) q is) (in_plan plans q)
    where
      by : (any_of (all_places plan.parts) q ≡ true) ⊎ (any_of (places_of_runs plans) q ≡ true)
          → (any_of (places_of_runs plans) q ≡ true → (k : ℕ) × (k < length plans) × ((d : RunPlan) → any_of (all_places (get_or plans k d).parts) q ≡ true))
          → (k : ℕ) × (k < length (plan ∷ plans)) × ((d : RunPlan) → any_of (all_places (get_or (plan ∷ plans) k d).parts) q ≡ true)
      by (inl here) rest = (0, omega arith, λ d. here)
      by (inr there) rest = let later = rest there in (suc later.0, omega (arith, later.1), later.2)

module _ (s : Shards) (trees : List Shape) (sound : AreSound s trees) where
  lawful : IsLawful (holdings_in s trees)
  lawful = lawful_parts (holdings_in s trees) sound.kept.lawful

  -- ---- no page is in two runs

  once_all : (pages : List HeldPage) (fs : List FrameRuns) (plans : List RunPlan) → AreFrameRuns trees pages fs → AreFramePlans trees fs plans → come_once (places_of_runs plans) ≡ true
  once_all pages [] plans groups none = subst (λ ps. come_once (places_of_runs ps) ≡ true) (sym none) refl
  once_all pages (f ∷ fs) plans (group, rest, whole, is, groups) (mine, others, joined, are, planned) =
      ap (λ ps. come_once (places_of_runs ps)) joined ∙ ap come_once (flat_map-append (λ plan. all_places plan.parts) mine others)
      ∙ joined_once (places_of_runs mine) (places_of_runs others) (frame_once s trees sound f.frame f.runs mine are is.runs.rising) (once_all rest fs others groups planned) apart
    where
      apart : (q : Place) → any_of (places_of_runs mine) q ≡ true → any_of (places_of_runs others) q ≡ true → ⊥
      apart q one two =
          let d : RunPlan = record { frame = 0; run = record { start = 0; end = 0 }; origin = None; parts = [] } in
          let here = in_plan trees mine q one in
          let there = in_plan trees others q two in
          let in_f = run_listed s trees sound (get_or mine here.0 d) (are.each here.0 d here.1) q (here.2 d) in
          let in_g = run_listed s trees sound (get_or others there.0 d) (each_planned trees fs others planned there.0 d there.1) q (there.2 d) in
          let same = one_tree s trees sound (get_or mine here.0 d).frame (get_or others there.0 d).frame q in_f in_g in
          plans_differ trees fs others planned f.frame (frames_differ trees rest fs groups f.frame is.others) there.0 d there.1 (sym same ∙ are.frames here.0 d here.1)

  -- ---- runs of one frame that start within one another start together

  pairs_all : (pages : List HeldPage) (fs : List FrameRuns) (plans : List RunPlan) → AreFrameRuns trees pages fs → AreFramePlans trees fs plans → All (λ a. All (Agree s trees sound a) plans) plans
  pairs_all pages [] plans groups none = subst (λ ps. All (λ a. All (Agree s trees sound a) ps) ps) (sym none) (λ k d less. absurd (omega (arith, less)))
  pairs_all pages (f ∷ fs) plans (group, rest, whole, is, groups) (mine, others, joined, are, planned) =
      subst (λ ps. All (λ a. All (Agree s trees sound a) ps) ps) (sym joined)
      (pairs_joined (Agree s trees sound) mine others
      (map_pairs s trees sound mine f.runs are.runs_are (starts_apart 0 f.runs (length (links_in trees f.frame)) is.runs.rising))
      (λ k d less j e w frames. absurd (differ j e w (sym frames ∙ are.frames k d less)))
      (λ k d less j e w frames. absurd (differ k d less (frames ∙ are.frames j e w)))
      (pairs_all rest fs others groups planned))
    where
      differ : All (λ plan. plan.frame ≡ f.frame → ⊥) others
      differ = plans_differ trees fs others planned f.frame (frames_differ trees rest fs groups f.frame is.others)

  -- ---- the origin of a run is in none

  -- a place stands once
  pub position_once : (os : Origins) → are_once os ≡ true → (i j : ℕ) (d : Place) → i < length os → j < length os → place_at os i d ≡ place_at os j d → i ≡ j
  position_once [] once i j d less_i less_j same = absurd (omega (arith, less_i))
  position_once (o ∷ os) once zero zero d less_i less_j same = refl
  position_once (o ∷ os) once zero (suc j) d less_i less_j same = absurd (never os o.0 (and_parts (list_all (λ q. not (same_place o.0 q.0)) os) (are_once os) once).0 j d (omega (arith, less_j)) same)
    where
      never : (os : Origins) (p : Place) → list_all (λ q. not (same_place p q.0)) os ≡ true → (j : ℕ) (d : Place) → j < length os → p ≡ place_at os j d → ⊥
      never [] p none j d less is = omega (arith, less)
      never (x ∷ xs) p none zero d less is = let parts = and_parts (not (same_place p x.0)) (list_all (λ q. not (same_place p q.0)) xs) none in cc (parts.0, ap not (subst (λ q. same_place p q ≡ true) is (same_self p)))
      never (x ∷ xs) p none (suc j) d less is = never xs p (and_parts (not (same_place p x.0)) (list_all (λ q. not (same_place p q.0)) xs) none).1 j d (omega (arith, less)) is
  position_once (o ∷ os) once (suc i) zero d less_i less_j same = absurd (never os o.0 (and_parts (list_all (λ q. not (same_place o.0 q.0)) os) (are_once os) once).0 i d (omega (arith, less_i)) (sym same))
    where
      never : (os : Origins) (p : Place) → list_all (λ q. not (same_place p q.0)) os ≡ true → (j : ℕ) (d : Place) → j < length os → p ≡ place_at os j d → ⊥
      never [] p none j d less is = omega (arith, less)
      never (x ∷ xs) p none zero d less is = let parts = and_parts (not (same_place p x.0)) (list_all (λ q. not (same_place p q.0)) xs) none in cc (parts.0, ap not (subst (λ q. same_place p q ≡ true) is (same_self p)))
      never (x ∷ xs) p none (suc j) d less is = never xs p (and_parts (not (same_place p x.0)) (list_all (λ q. not (same_place p q.0)) xs) none).1 j d (omega (arith, less)) is
  position_once (o ∷ os) once (suc i) (suc j) d less_i less_j same = ap suc (position_once os (and_parts (list_all (λ q. not (same_place o.0 q.0)) os) (are_once os) once).1 i j d (omega (arith, less_i)) (omega (arith, less_j)) same)

  -- two runs, of which one has the origin of the other
  not_in_other : (a b : RunPlan) → IsRunPlan trees a → IsRunPlan trees b → are_once (links_in trees a.frame) ≡ true → Agree s trees sound a b → (o : Place) → b.origin ≡ Some o → any_of (all_places a.parts) o ≡ true → ⊥
  not_in_other a b is_a is_b once agree o there within =
      let h = holdings_in s trees in
      let in_a = run_listed s trees sound a is_a o within in
      let frames : a.frame ≡ b.frame = one_tree s trees sound a.frame b.frame o in_a (is_b.origin.stands o there) in
      let below_o : is_below h (only (first_of trees a)) o ≡ true = below_run s trees sound a is_a o in_a ∙ within in
      let below_first = below_from h lawful (only (first_of trees a)) (first_of trees b) o (first_origin s trees sound b is_b o there) below_o in
      let listed : is_listed trees a.frame (first_of trees b) ≡ true = subst (λ f. is_listed trees f (first_of trees b) ≡ true) (sym frames) (first_listed s trees sound b is_b) in
      let among = sym (run_among s trees sound a is_a (first_of trees b)) ∙ sym (below_run s trees sound a is_a (first_of trees b) listed) ∙ below_first in
      let x = among_at (links_in trees a.frame) a.run.start a.run.end (first_of trees b) (first_of trees b) among in
      let at_b : place_at (links_in trees a.frame) b.run.start (first_of trees b) ≡ first_of trees b = ap (λ f. place_at (links_in trees f) b.run.start (first_of trees b)) frames ∙ first_is s trees sound b is_b (first_of trees b) in
      let less_b : b.run.start < length (links_in trees a.frame) = subst (λ f. b.run.start < length (links_in trees f)) (sym frames) (omega (arith, is_b.some, is_b.within)) in
      let here : x.0 ≡ b.run.start = position_once (links_in trees a.frame) once x.0 b.run.start (first_of trees b) x.3 less_b (x.4 ∙ sym at_b) in
      let starts : a.run.start ≡ b.run.start = agree frames (omega (arith, x.1, here)) (omega (arith, x.2, here)) in
      let same_first : first_of trees a ≡ first_of trees b =
      ap (λ f. place_at (links_in trees f) a.run.start (record { space = 0; page = 0 })) frames ∙ ap (λ i. place_at (links_in trees b.frame) i (record { space = 0; page = 0 })) starts in
      let in_b = sym (below_run s trees sound b is_b o (is_b.origin.stands o there)) ∙ subst (λ c. is_below h (only c) o ≡ true) same_first below_o in
      cc (in_b, origin_apart s trees sound b is_b o there)

  outer_all : (pages : List HeldPage) (fs : List FrameRuns) (plans : List RunPlan) → AreFrameRuns trees pages fs → AreFramePlans trees fs plans
      → All (λ plan. (o : Place) → plan.origin ≡ Some o → any_of (places_of_runs plans) o ≡ false) plans
  outer_all pages fs plans groups planned k d less o there = false_from_ne_true _ (λ within.
      let at = in_plan trees plans o within in
      let each = each_planned trees fs plans planned in
      not_in_other (get_or plans at.0 d) (get_or plans k d) (each at.0 d at.1) (each k d less) (each_once trees fs plans planned at.0 d at.1) (pairs_all pages fs plans groups planned at.0 d at.1 k d less) o there (at.2 d))

  -- ---- the first pages stand for the set

  -- a page of a list of pages
  pub any_places : (pages : List HeldPage) (p : Place) → any_of (places_in pages) p ≡ any_page pages p
  any_places [] p = refl
  any_places (h ∷ pages) p = ap (λ b. same_place p h.place || b) (any_places pages p)

  named_all : (set : PlaceSet) (pages : List HeldPage) (fs : List FrameRuns) (plans : List RunPlan) → AreFrameRuns trees pages fs → AreFramePlans trees fs plans → ((q : Place) → any_page pages q ≡ true → set q ≡ true)
      → All (λ plan. set (first_of trees plan) ≡ true) plans
  named_all set pages [] plans groups none inside = subst (All (λ plan. set (first_of trees plan) ≡ true)) (sym none) (λ k d less. absurd (omega (arith, less)))
  named_all set pages (f ∷ fs) plans (group, rest, whole, is, groups) (mine, others, joined, are, planned) inside =
      subst (All (λ plan. set (first_of trees plan) ≡ true)) (sym joined) (All-append (λ plan. set (first_of trees plan) ≡ true) mine others (named mine f.runs are.frames are.runs_are is.runs.named)
      (named_all set rest fs others groups planned (λ q in_rest. inside q (ap (λ hs. any_page hs q) whole ∙ list_any-append (λ (h : HeldPage). same_place q h.place) group rest ∙ or_right (any_page group q) _ in_rest))))
    where
      in_group : (q : Place) → any_of (places_in group) q ≡ true → set q ≡ true
      in_group q is = inside q (ap (λ hs. any_page hs q) whole ∙ list_any-append (λ (h : HeldPage). same_place q h.place) group rest ∙ or_left _ (any_page rest q) (sym (any_places group q) ∙ is))

      named : (plans : List RunPlan) (rs : List (Range ℕ)) → All (λ plan. plan.frame ≡ f.frame) plans → map (λ plan. plan.run) plans ≡ rs
          → All (λ r. (d : Place) → any_of (places_in group) (place_at (links_in trees f.frame) r.start d) ≡ true) rs → All (λ plan. set (first_of trees plan) ≡ true) plans
      named [] rs frames same begin k d less = absurd (omega (arith, less))
      named (p ∷ ps) [] frames same begin k d less = absurd (cc same)
      named (p ∷ ps) (r ∷ rs) frames same begin zero d less =
          let of_frame : p.frame ≡ f.frame = frames 0 p (omega arith) in
          let run_is : p.run ≡ r = cc same in
          in_group (first_of trees p) (ap (λ g. any_of (places_in group) (place_at (links_in trees g) p.run.start (record { space = 0; page = 0 }))) of_frame
          ∙ ap (λ (x : Range ℕ). any_of (places_in group) (place_at (links_in trees f.frame) x.start (record { space = 0; page = 0 }))) run_is ∙ begin 0 r (omega arith) (record { space = 0; page = 0 }))
      named (p ∷ ps) (r ∷ rs) frames same begin (suc k) d less = named ps rs (λ j e w. frames (suc j) e (omega (arith, w))) (cc same) (λ j e w. begin (suc j) e (omega (arith, w))) k d (omega (arith, less))

  -- the first pages of a frame's plans
  firsts_are : (frame : ℕ) (plans : List RunPlan) → All (λ plan. plan.frame ≡ frame) plans → firsts (links_in trees frame) (map (λ plan. plan.run) plans) ≡ map (first_of trees) plans
  firsts_are frame [] same = refl
  firsts_are frame (p ∷ ps) same =
      let here : place_at (links_in trees frame) p.run.start (record { space = 0; page = 0 }) ≡ first_of trees p = ap (λ f. place_at (links_in trees f) p.run.start (record { space = 0; page = 0 })) (sym (same 0 p (omega arith))) in
      ap (λ q. q ∷ firsts (links_in trees frame) (map (λ plan. plan.run) ps)) here ∙ ap (λ qs. first_of trees p ∷ qs) (firsts_are frame ps (λ k d less. same (suc k) d (omega (arith, less))))

  -- the pages of a group are of its frame
  pub group_of_frame : (frame : ℕ) (group : List HeldPage) → All (λ h. h.frame ≡ frame) group → All (HasItsFrame s) group → AreOfFrame s trees frame (places_in group)
  group_of_frame frame [] same has p e named inside is = absurd (cc named)
  group_of_frame frame (h ∷ group) same has p e named inside is =
      by (or_cases (same_place p h.place) (any_of (places_in group) p) named) (λ there. group_of_frame frame group (λ k d less. same (suc k) d (omega (arith, less))) (λ k d less. has (suc k) d (omega (arith, less))) p e there inside is)
    where
      by : (same_place p h.place ≡ true) ⊎ (any_of (places_in group) p ≡ true) → (any_of (places_in group) p ≡ true → e.frame ≡ frame) → e.frame ≡ frame
      by (inl here) rest =
          let k = frame_from h.frame (entry_at s h.place) (has 0 h (omega arith)) in
          ap (λ (x : Entry). x.frame) (same_Some e k.0 (sym is ∙ ap (entry_at s) (same_is p h.place here) ∙ k.1)) ∙ k.2 ∙ same 0 h (omega arith)
      by (inr there) rest = rest there

  covers_all : (pages : List HeldPage) (fs : List FrameRuns) (plans : List RunPlan) → AreFrameRuns trees pages fs → AreFramePlans trees fs plans → All (HasItsFrame s) pages
      → (p : Place) → is_held (holdings_in s trees) p ≡ true → any_page pages p ≡ true → is_below (holdings_in s trees) (any_of (map (first_of trees) plans)) p ≡ true
  covers_all pages [] plans groups none has p held named = absurd (cc (named, ap (λ hs. any_page hs p) groups))
  covers_all pages (f ∷ fs) plans (group, rest, whole, is, groups) (mine, others, joined, are, planned) has p held named =
      by (or_cases (any_page group p) (any_page rest p) (sym (list_any-append (λ (h : HeldPage). same_place p h.place) group rest) ∙ sym (ap (λ hs. any_page hs p) whole) ∙ named))
      (covers_all rest fs others groups planned (second_all (HasItsFrame s) group rest both) p held)
    where
      both : All (HasItsFrame s) (group ++ rest)
      both = subst (All (HasItsFrame s)) whole has

      all_firsts : map (first_of trees) plans ≡ map (first_of trees) mine ++ map (first_of trees) others
      all_firsts = ap (map (first_of trees)) joined ∙ map-append (first_of trees) mine others

      wider : (xs : List Place) → ((q : Place) → any_of xs q ≡ true → any_of (map (first_of trees) plans) q ≡ true) → is_below (holdings_in s trees) (any_of xs) p ≡ true → is_below (holdings_in s trees) (any_of (map (first_of trees) plans)) p ≡ true
      wider xs inside below =
          below_within (holdings_in s trees) lawful (any_of xs) (any_of (map (first_of trees) plans))
          (λ q in_xs. in_below (holdings_in s trees) lawful (any_of (map (first_of trees) plans)) q (inside q in_xs)) p below

      by : (any_page group p ≡ true) ⊎ (any_page rest p ≡ true) → (any_page rest p ≡ true → is_below (holdings_in s trees) (any_of (map (first_of trees) others)) p ≡ true)
          → is_below (holdings_in s trees) (any_of (map (first_of trees) plans)) p ≡ true
      by (inl here) later =
          let of_frame = group_of_frame f.frame group is.same (first_all (HasItsFrame s) group rest both) in
          let below = covered s trees sound f.frame (places_in group) of_frame f.runs is.runs p held (any_places group p ∙ here) in
          let firsts_same : firsts (links_in trees f.frame) f.runs ≡ map (first_of trees) mine = ap (firsts (links_in trees f.frame)) (sym are.runs_are) ∙ firsts_are f.frame mine are.frames in
          wider (map (first_of trees) mine) (λ q in_mine. ap (λ ps. any_of ps q) all_firsts ∙ any_first (map (first_of trees) mine) (map (first_of trees) others) q in_mine)
          (subst (λ ps. is_below (holdings_in s trees) (any_of ps) p ≡ true) firsts_same below)
      by (inr there) later = wider (map (first_of trees) others) (λ q in_others. ap (λ ps. any_of ps q) all_firsts ∙ any_second (map (first_of trees) mine) (map (first_of trees) others) q in_others) (later there)

  -- all of this
  pub strip_planned : (set : PlaceSet) (pages : List HeldPage) (fs : List FrameRuns) (plans : List RunPlan) → AreHeldPages s set pages → AreFrameRuns trees pages fs → AreFramePlans trees fs plans → IsStripPlan s trees set plans
  strip_planned set pages fs plans held groups planned = record {
    runs = each_planned trees fs plans planned;
    named = named_all set pages fs plans groups planned (λ q is. (and_parts (set q) (has_entry s q) (sym (held.named q) ∙ is)).0);
    covers = λ p is_held is_set. covers_all pages fs plans groups planned held.frames p is_held (held.named p ∙ and_from (set p) (has_entry s p) is_set (entry_of_held s trees (loose_from s trees sound) p is_held));
    once = once_all pages fs plans groups planned;
    outer = outer_all pages fs plans groups planned;
  }

  -- the frames of held pages are frames
  pub page_frames : (set : PlaceSet) (pages : List HeldPage) → AreHeldPages s set pages → ((p : Place) → set p ≡ true → is_place (limits_in s trees) p ≡ true) → All (λ h. h.frame < length trees) pages
  page_frames set pages held within k d less =
      let h = get_or pages k d in
      let e = frame_from h.frame (entry_at s h.place) (held.frames k d less) in
      let in_set = (and_parts (set h.place) (has_entry s h.place) (sym (held.named h.place) ∙ any_at pages k d less)).0 in
      subst (λ n. n < length trees) e.2 (sound.kept.fits.frame h.place e.0 (within_from_place (limits_in s trees) h.place (within h.place in_set)) e.1)
    where
      any_at : (xs : List HeldPage) (i : ℕ) (d : HeldPage) → i < length xs → any_page xs (get_or xs i d).place ≡ true
      any_at [] i d within = absurd (omega (arith, within))
      any_at (x ∷ xs) zero d within = or_left _ _ (same_self x.place)
      any_at (x ∷ xs) (suc i) d within = or_right _ _ (any_at xs i d (omega (arith, within)))

  -- the pages of a run have words of their own
  pub run_has_words : (frame : ℕ) (run : Range ℕ) (origin : Option Place) → IsRunOf trees frame run origin → are_once (links_in trees frame) ≡ true → HaveWords s origin (pages_of (links_in trees frame) run.start run.end)
  run_has_words frame run origin is once =
      let ps = pages_of (links_in trees frame) run.start run.end in
      let have = have_words s trees sound (record { frame = frame; run = run; origin = origin; parts = one_part ps }) (one_part_planned trees frame run origin is) once in
      subst (HaveWords s origin) (places_of_one ps) have
