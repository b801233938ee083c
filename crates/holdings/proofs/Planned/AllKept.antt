-- A strip that keeps all nodes: no page is gone, and the trees stay as they are. And one that keeps none: the runs go.
use Rattle.std.proofs.Common.{◌≡◌, ℕ, zero, suc, ◌+◌, ◌-◌, ◌<◌, ◌≤◌, ◌==◌, true, false, Bool, ◌&&◌, ◌||◌, not, List, [], ◌∷◌, ◌++◌, length, take, drop, map, filter, Option, get_or, refl, sym, ap, ◌∙◌, subst, arith, if◌then◌else◌}
use Rattle.std.specs.List.{All, list_all, slice_range}
use Rattle.std.specs.declared.ops.Range.{Range}
use Rattle.std.proofs.lemmas.Bool.{and_parts, eqb-true}
use Rattle.std.proofs.lemmas.Grind.{flat_map-append}
use Rattle.std.proofs.lemmas.List.{map-append, length-append, length-take, length-drop, length-map}
use Rattle.std.proofs.lemmas.List.Folds.{list_all-append}
use Rattle.fpage.specs.declared.rights.Rights.{Rights}
use Rattle.space.specs.declared.place.Place.{Place}
use Rattle.space.specs.declared.shards.Shards.{Shards}
use Rattle.space.specs.declared.node.Node.{Node}
use Rattle.space.specs.declared.slice.Slice.{Slice}
use Rattle.maptree.specs.Origins.{Origins, Shape, AreRising}
use Rattle.space.specs.Slices.{nodes_of}
use Rattle.maptree.specs.Cuts.{kept_of, count_of, outside}
use Rattle.pieces.specs.Contents.{StripContent}
use Rattle.pieces.specs.declared.runs.FrameRuns.{FrameRuns}
use Rattle.holdings.specs.Inner.Held.{links_in, has_entry}
use Rattle.holdings.specs.Inner.Planning.{RunPlan, IsRunPlan, all_places, places_of_runs, strip_of, strips_of_run, strips_of_runs}
use Rattle.holdings.specs.Inner.Links.{IsTreeSet}
use Rattle.holdings.specs.Inner.Stripping.{pruned}
use Rattle.holdings.specs.Inner.StripPlans.{AreFramePlans, CanBePruned, AllCanBePruned, AreKeptNodes, ArePruned, in_runs, in_frames, count_in_runs, count_in_frames, is_planned}
use Rattle.holdings.proofs.Trees.Pruning.{none_gone, all_gone, all_pass}

-- ---- what the counts count

pub slices_more : (ss : List Slice) (k : ℕ) (s : Slice) → k < length ss → s ≡ get_or ss k s → count_of (nodes_of (take (k + 1) ss)) ≡ count_of (nodes_of (take k ss)) + length s.nodes.items
slices_more [] k s less is = absurd (omega (arith, less))
slices_more (x ∷ ss) zero s less is = ap (λ (t : Slice). length t.nodes.items + 0) (sym is) ∙ plus_none (length s.nodes.items)
  where
    plus_none : (n : ℕ) → n + 0 ≡ 0 + n
    plus_none n = omega arith
slices_more (x ∷ ss) (suc k) s less is =
    let next : suc k + 1 ≡ suc (k + 1) = omega arith in
    let rest = slices_more ss k s (omega (arith, less)) is in
    rw next (omega (arith, rest))

pub runs_more : (rs : List (Range ℕ)) (k : ℕ) (r : Range ℕ) → k < length rs → r ≡ get_or rs k r → count_in_runs (take (k + 1) rs) ≡ count_in_runs (take k rs) + (r.end - r.start)
runs_more [] k r less is = absurd (omega (arith, less))
runs_more (x ∷ rs) zero r less is = ap (λ (t : Range ℕ). (t.end - t.start) + 0) (sym is) ∙ plus_none (r.end - r.start)
  where
    plus_none : (n : ℕ) → n + 0 ≡ 0 + n
    plus_none n = omega arith
runs_more (x ∷ rs) (suc k) r less is =
    let next : suc k + 1 ≡ suc (k + 1) = omega arith in
    let rest = runs_more rs k r (omega (arith, less)) is in
    rw next (ap (λ n. (x.end - x.start) + n) rest ∙ assoc (x.end - x.start) (count_in_runs (take k rs)) (r.end - r.start))
  where
    assoc : (a b c : ℕ) → a + (b + c) ≡ (a + b) + c
    assoc a b c = omega arith

pub runs_at : (rs : List (Range ℕ)) (k : ℕ) (d : Range ℕ) → k < length rs → count_in_runs (take (k + 1) rs) ≡ count_in_runs (take k rs) + ((get_or rs k d).end - (get_or rs k d).start)
runs_at rs k d less = runs_more rs k (get_or rs k d) less (same rs k d less)
  where
    same : (rs : List (Range ℕ)) (k : ℕ) (d : Range ℕ) → k < length rs → get_or rs k d ≡ get_or rs k (get_or rs k d)
    same [] k d less = absurd (omega (arith, less))
    same (r ∷ rs) zero d less = refl
    same (r ∷ rs) (suc k) d less = same rs k d (omega (arith, less))

pub frames_more : (fs : List FrameRuns) (k : ℕ) (f : FrameRuns) → k < length fs → f ≡ get_or fs k f → count_in_frames (take (k + 1) fs) ≡ count_in_frames (take k fs) + count_in_runs f.runs
frames_more [] k f less is = absurd (omega (arith, less))
frames_more (x ∷ fs) zero f less is = ap (λ (t : FrameRuns). count_in_runs t.runs + 0) (sym is) ∙ plus_none (count_in_runs f.runs)
  where
    plus_none : (n : ℕ) → n + 0 ≡ 0 + n
    plus_none n = omega arith
frames_more (x ∷ fs) (suc k) f less is =
    let next : suc k + 1 ≡ suc (k + 1) = omega arith in
    let rest = frames_more fs k f (omega (arith, less)) is in
    rw next (ap (λ n. count_in_runs x.runs + n) rest ∙ assoc (count_in_runs x.runs) (count_in_frames (take k fs)) (count_in_runs f.runs))
  where
    assoc : (a b c : ℕ) → a + (b + c) ≡ (a + b) + c
    assoc a b c = omega arith

-- ---- as many kept as there are

module _ (test : Place → Bool) where
  few_kept : (ns : List Node) → length (filter (λ n. test n.place) ns) ≤ length ns
  few_kept [] = omega arith
  few_kept (n ∷ ns) = by (test n.place) (few_kept ns)
    where
      by : (b : Bool) → length (filter (λ n. test n.place) ns) ≤ length ns → length (if b then n ∷ filter (λ n. test n.place) ns else filter (λ n. test n.place) ns) ≤ suc (length ns)
      by true few = omega (arith, few)
      by false few = omega (arith, few)

  few_in_all : (parts : List (List Node)) → count_of (kept_of test parts) ≤ length (all_places parts)
  few_in_all [] = omega arith
  few_in_all (part ∷ parts) =
      let one = few_kept part in
      let others = few_in_all parts in
      let l = length-append (map (λ n. n.place) part) (all_places parts) in
      let m = length-map part (λ (n : Node). n.place) in
      omega (arith, one, others, l, m)

  all_in_one : (ns : List Node) → length (filter (λ n. test n.place) ns) ≡ length ns → list_all test (map (λ n. n.place) ns) ≡ true
  all_in_one [] same = refl
  all_in_one (n ∷ ns) same = by (test n.place) refl same (all_in_one ns)
    where
      by : (b : Bool) → test n.place ≡ b → length (if b then n ∷ filter (λ n. test n.place) ns else filter (λ n. test n.place) ns) ≡ suc (length ns)
          → (length (filter (λ n. test n.place) ns) ≡ length ns → list_all test (map (λ n. n.place) ns) ≡ true) → (test n.place && list_all test (map (λ n. n.place) ns)) ≡ true
      by true is same rest = rw is (rest (omega (arith, same)))
      by false is same rest = let few = few_kept ns in absurd (omega (arith, few, same))

  pub all_in_all : (parts : List (List Node)) → count_of (kept_of test parts) ≡ length (all_places parts) → list_all test (all_places parts) ≡ true
  all_in_all [] same = refl
  all_in_all (part ∷ parts) same =
      let one = few_kept part in
      let others = few_in_all parts in
      let l = length-append (map (λ n. n.place) part) (all_places parts) in
      let m = length-map part (λ (n : Node). n.place) in
      list_all-append test (map (λ n. n.place) part) (all_places parts)
      ∙ both (all_in_one part (omega (arith, same, one, others, l, m))) (all_in_all parts (omega (arith, same, one, others, l, m)))
    where
      both : {a b : Bool} → a ≡ true → b ≡ true → (a && b) ≡ true
      both {a} {b} p q = rw (p, q) refl

  none_in_one : (ns : List Node) → length (filter (λ n. test n.place) ns) ≡ 0 → list_all (λ p. not (test p)) (map (λ n. n.place) ns) ≡ true
  none_in_one [] none = refl
  none_in_one (n ∷ ns) none = by (test n.place) refl none (none_in_one ns)
    where
      by : (b : Bool) → test n.place ≡ b → length (if b then n ∷ filter (λ n. test n.place) ns else filter (λ n. test n.place) ns) ≡ 0
          → (length (filter (λ n. test n.place) ns) ≡ 0 → list_all (λ p. not (test p)) (map (λ n. n.place) ns) ≡ true) → (not (test n.place) && list_all (λ p. not (test p)) (map (λ n. n.place) ns)) ≡ true
      by true is none rest = absurd (omega (arith, none))
      by false is none rest = rw is (rest none)

  -- where none was kept, none passes
  pub none_in_all : (parts : List (List Node)) → count_of (kept_of test parts) ≡ 0 → list_all (λ p. not (test p)) (all_places parts) ≡ true
  none_in_all [] none = refl
  none_in_all (part ∷ parts) none =
      list_all-append (λ p. not (test p)) (map (λ n. n.place) part) (all_places parts) ∙ both (none_in_one part (omega (arith, none))) (none_in_all parts (omega (arith, none)))
    where
      both : {a b : Bool} → a ≡ true → b ≡ true → (a && b) ≡ true
      both {a} {b} p q = rw (p, q) refl

-- ---- the runs of a tree

slice_count : (ps : List Place) (a b : ℕ) → a ≤ b → b ≤ length ps → length (slice_range ps a b) ≡ b - a
slice_count ps a b less within = let d = length-drop a ps in let t = length-take (b - a) (drop a ps) in omega (arith, d, t, less, within)

module _ (os : Origins) where
  ps : List Place
  ps = map (λ o. o.0) os

  rise_from : (from : ℕ) (rs : List (Range ℕ)) → AreRising from rs (length os) → from ≤ length os
  rise_from from [] rise = rise
  rise_from from (r ∷ rs) rise = let later = rise_from r.end rs rise.2 in omega (arith, rise.0, rise.1, later)

  runs_count : (from : ℕ) (rs : List (Range ℕ)) → AreRising from rs (length os) → length (in_runs os rs) ≡ count_in_runs rs
  runs_count from [] rise = refl
  runs_count from (r ∷ rs) rise =
      let l = length-append (slice_range (map (λ o. o.0) os) r.start r.end) (in_runs os rs) in
      let m = length-map os (λ o. o.0) in
      let within = rise_from r.end rs rise.2 in
      let one = slice_count (map (λ o. o.0) os) r.start r.end (omega (arith, rise.1)) (omega (arith, within, m)) in
      let rest = runs_count r.end rs rise.2 in
      l ∙ ap (λ n. n + length (in_runs os rs)) one ∙ ap (λ n. (r.end - r.start) + n) rest

  all_of_map : (test : Place → Bool) (xs : Origins) → list_all test (map (λ o. o.0) xs) ≡ list_all (λ o. test o.0) xs
  all_of_map test [] = refl
  all_of_map test (x ∷ xs) = ap (λ b. test x.0 && b) (all_of_map test xs)

  drop_of_map : (n : ℕ) (xs : Origins) → drop n (map (λ o. o.0) xs) ≡ map (λ o. o.0) (drop n xs)
  drop_of_map zero xs = refl
  drop_of_map (suc n) [] = refl
  drop_of_map (suc n) (x ∷ xs) = drop_of_map n xs

  take_of_map : (n : ℕ) (xs : Origins) → take n (map (λ o. o.0) xs) ≡ map (λ o. o.0) (take n xs)
  take_of_map zero xs = refl
  take_of_map (suc n) [] = refl
  take_of_map (suc n) (x ∷ xs) = ap (λ ys. x.0 ∷ ys) (take_of_map n xs)

  pub all_in_runs : (test : Place → Bool) (rs : List (Range ℕ)) → list_all test (in_runs os rs) ≡ true → list_all (λ r. list_all (λ o. test o.0) (slice_range os r.start r.end)) rs ≡ true
  all_in_runs test [] all = refl
  all_in_runs test (r ∷ rs) all =
      let parts = and_parts _ _ (sym (list_all-append test (slice_range (map (λ o. o.0) os) r.start r.end) (in_runs os rs)) ∙ all) in
      let one =
      sym (ap (list_all test) (ap (take (r.end - r.start)) (drop_of_map r.start os) ∙ take_of_map (r.end - r.start) (drop r.start os)) ∙ all_of_map test (slice_range os r.start r.end)) ∙ parts.0 in
      both one (all_in_runs test rs parts.1)
    where
      both : {a b : Bool} → a ≡ true → b ≡ true → (a && b) ≡ true
      both {a} {b} p q = rw (p, q) refl

-- ---- the trees of frames

module _ (s : Shards) (trees : List Shape) where
  frames_count : (fs : List FrameRuns) → AllCanBePruned s trees fs → length (in_frames trees fs) ≡ count_in_frames fs
  frames_count [] can = refl
  frames_count (f ∷ fs) can =
      length-append (in_runs (links_in trees f.frame) f.runs) (in_frames trees fs) ∙ ap (λ n. n + length (in_frames trees fs)) (runs_count (links_in trees f.frame) 0 f.runs can.1.rising)
      ∙ ap (λ n. count_in_runs f.runs + n) (frames_count fs can.3)

  one_whole : (f : FrameRuns) → CanBePruned s (links_in trees f.frame) f.runs → list_all (has_entry s) (in_runs (links_in trees f.frame) f.runs) ≡ true → links_in trees f.frame ≡ pruned s (links_in trees f.frame)
  one_whole f can all =
      let os = links_in trees f.frame in
      sym (all_pass (λ o. has_entry s o.0) os (none_gone (has_entry s) os 0 f.runs can.rising (all_in_runs os (has_entry s) f.runs all) can.outside_stay))

  each_whole : (fs : List FrameRuns) → AllCanBePruned s trees fs → list_all (has_entry s) (in_frames trees fs) ≡ true → (g : ℕ) → is_planned fs g ≡ true → links_in trees g ≡ pruned s (links_in trees g)
  each_whole [] can all g is = absurd (cc is)
  each_whole (f ∷ fs) can all g is =
      let parts = and_parts _ _ (sym (list_all-append (has_entry s) (in_runs (links_in trees f.frame) f.runs) (in_frames trees fs)) ∙ all) in
      by (f.frame == g) refl is (one_whole f can.1 parts.0) (each_whole fs can.3 parts.1 g)
    where
      by : (b : Bool) → (f.frame == g) ≡ b → (b || is_planned fs g) ≡ true → links_in trees f.frame ≡ pruned s (links_in trees f.frame)
          → (is_planned fs g ≡ true → links_in trees g ≡ pruned s (links_in trees g)) → links_in trees g ≡ pruned s (links_in trees g)
      by true same is one others = subst (λ h. links_in trees h ≡ pruned s (links_in trees h)) (eqb-true f.frame g same) one
      by false same is one others = others is

  -- where as many nodes were kept as there are, all were, and no tree loses a place
  pub nothing_gone : (fs : List FrameRuns) (kept : List (List Node)) → AllCanBePruned s trees fs → AreKeptNodes s trees fs kept → count_of kept ≡ count_in_frames fs → ArePruned s fs trees trees
  nothing_gone fs kept can are same = record { count = refl; there = each_whole fs can all; elsewhere = λ g none. refl }
    where
      all : list_all (has_entry s) (in_frames trees fs) ≡ true
      all =
          sym (ap (list_all (has_entry s)) are.parts_are)
          ∙ all_in_all (has_entry s) are.parts (sym (ap count_of are.kept_are) ∙ same ∙ sym (frames_count fs can) ∙ sym (ap length are.parts_are))

  -- where none was kept, no place of the runs has an entry
  pub all_gone_in_runs : (fs : List FrameRuns) (kept : List (List Node)) → AreKeptNodes s trees fs kept → count_of kept ≡ 0 → list_all (λ p. not (has_entry s p)) (in_frames trees fs) ≡ true
  all_gone_in_runs fs kept are none = sym (ap (list_all (λ p. not (has_entry s p))) are.parts_are) ∙ none_in_all (has_entry s) are.parts (sym (ap count_of are.kept_are) ∙ none)

  -- and a tree loses them all
  pub one_gone : (links : Origins) (runs : List (Range ℕ)) → CanBePruned s links runs → list_all (λ p. not (has_entry s p)) (in_runs links runs) ≡ true → outside 0 runs links ≡ pruned s links
  one_gone links runs can none = sym (all_gone (has_entry s) links 0 runs can.rising (all_in_runs links (λ p. not (has_entry s p)) runs none) can.outside_stay)

-- the places of other frames stay where they are
pub others_stay : (now next : List Shape) (frame : ℕ) (links : Origins) (fs : List FrameRuns) → IsTreeSet now next frame links → All (λ f. f.frame ≡ frame → ⊥) fs → in_frames next fs ≡ in_frames now fs
others_stay now next frame links [] set differ = refl
others_stay now next frame links (f ∷ fs) set differ =
    ap (λ os. in_runs os f.runs ++ in_frames next fs) (set.elsewhere f.frame (differ 0 f (omega arith)))
    ∙ ap (λ ps. in_runs (links_in now f.frame) f.runs ++ ps) (others_stay now next frame links fs set (λ k d less. differ (suc k) d (omega (arith, less))))

-- no run ends before it starts
pub rising_runs : (s : Shards) (trees : List Shape) (fs : List FrameRuns) → AllCanBePruned s trees fs → All (λ f. All (λ r. r.start ≤ r.end) f.runs) fs
rising_runs s trees [] can k d less = absurd (omega (arith, less))
rising_runs s trees (f ∷ fs) can zero d less = rising 0 f.runs can.1.rising
  where
    rising : (from : ℕ) (rs : List (Range ℕ)) → AreRising from rs (length (links_in trees f.frame)) → All (λ r. r.start ≤ r.end) rs
    rising from [] rise k d less = absurd (omega (arith, less))
    rising from (r ∷ rs) rise zero d less = omega (arith, rise.1)
    rising from (r ∷ rs) rise (suc k) d less = rising r.end rs rise.2 k d (omega (arith, less))
rising_runs s trees (f ∷ fs) can (suc k) d less = rising_runs s trees fs can.3 k d (omega (arith, less))

-- ---- the nodes of a plan

module _ (trees : List Shape) where
  run_places : (frame : ℕ) (mine : List RunPlan) → All (IsRunPlan trees) mine → All (λ plan. plan.frame ≡ frame) mine → places_of_runs mine ≡ in_runs (links_in trees frame) (map (λ plan. plan.run) mine)
  run_places frame [] each same = refl
  run_places frame (p ∷ ps) each same =
      ap (λ qs. qs ++ places_of_runs ps) ((each 0 p (omega arith)).places ∙ ap (λ g. slice_range (map (λ o. o.0) (links_in trees g)) p.run.start p.run.end) (same 0 p (omega arith)))
      ∙ ap (λ qs. slice_range (map (λ o. o.0) (links_in trees frame)) p.run.start p.run.end ++ qs)
      (run_places frame ps (λ k d less. each (suc k) d (omega (arith, less))) (λ k d less. same (suc k) d (omega (arith, less))))

  pub plan_places : (fs : List FrameRuns) (plans : List RunPlan) → AreFramePlans trees fs plans → places_of_runs plans ≡ in_frames trees fs
  plan_places [] plans none = ap places_of_runs none
  plan_places (f ∷ fs) plans (mine, others, joined, are, rest) =
      ap places_of_runs joined ∙ flat_map-append (λ plan. all_places plan.parts) mine others
      ∙ ap (λ qs. qs ++ places_of_runs others) (run_places f.frame mine are.each are.frames ∙ ap (in_runs (links_in trees f.frame)) are.runs_are)
      ∙ ap (λ qs. in_runs (links_in trees f.frame) f.runs ++ qs) (plan_places fs others rest)

module _ (s : Shards) (a : Rights) (flush : Bool) where
  part_nodes : (origin : Option Place) (parts : List (List Node)) → map (λ k. k.nodes) (map (strip_of s false a origin) parts) ≡ parts
  part_nodes origin [] = refl
  part_nodes origin (p ∷ ps) = ap (λ qs. p ∷ qs) (part_nodes origin ps)

  run_nodes : (origin : Option Place) (parts : List (List Node)) → map (λ k. k.nodes) (strips_of_run s a flush origin parts) ≡ parts
  run_nodes origin [] = refl
  run_nodes origin (p ∷ ps) = ap (λ qs. p ∷ qs) (part_nodes origin ps)

  pub strip_places : (plans : List RunPlan) → all_places (map (λ k. k.nodes) (strips_of_runs s a flush plans)) ≡ places_of_runs plans
  strip_places [] = refl
  strip_places (p ∷ ps) =
      ap all_places (map-append (λ (k : StripContent). k.nodes) (strips_of_run s a flush p.origin p.parts) (strips_of_runs s a flush ps))
      ∙ flat_map-append (λ part. map (λ n. n.place) part) (map (λ (k : StripContent). k.nodes) (strips_of_run s a flush p.origin p.parts)) (map (λ (k : StripContent). k.nodes) (strips_of_runs s a flush ps))
      ∙ ap (λ ns. all_places ns ++ all_places (map (λ (k : StripContent). k.nodes) (strips_of_runs s a flush ps))) (run_nodes p.origin p.parts) ∙ ap (λ qs. all_places p.parts ++ qs) (strip_places ps)
