-- The runs of a frame, planned one after another.
use Rattle.std.proofs.Common.{◌≡◌, ℕ, zero, suc, ◌<◌, ◌≤◌, true, Bool, List, [], ◌∷◌, ◌++◌, length, map, Option, get_or, refl, sym, ap, ◌∙◌, subst, arith}
use Rattle.std.specs.List.{All}
use Rattle.std.specs.declared.ops.Range.{Range}
use Rattle.std.proofs.lemmas.List.{map-append}
use Rattle.std.proofs.lemmas.List.Elements.{All-append}
use Rattle.fpage.specs.declared.rights.Rights.{Rights}
use Rattle.space.specs.declared.place.Place.{Place}
use Rattle.space.specs.declared.shards.Shards.{Shards}
use Rattle.space.specs.declared.node.Node.{Node}
use Rattle.maptree.specs.Origins.{Shape, IsRun, are_once}
use Rattle.pieces.specs.declared.piece.Piece.{Piece}
use Rattle.pieces.specs.declared.piece.Piece.TheVariants as piece
use Rattle.pieces.specs.declared.runs.FrameRuns.{FrameRuns}
use Rattle.maptree.specs.Origins.{IsOriginAt}
use Rattle.holdings.specs.Inner.Held.{links_in}
use Rattle.holdings.specs.Inner.Planning.{RunPlan, IsRunPlan, all_places, strips_of_run, strips_of_runs}
use Rattle.holdings.specs.Inner.StripPlans.{AreRunPlans, AreFramePlans, AreAdded, ArePlannedStrips, IsRunAdded, pages_of}
use Rattle.holdings.proofs.Planned.Parts.{some_pages}

none_more : {A : Type 0} (xs : List A) → xs ++ [] ≡ xs
none_more [] = refl
none_more (x ∷ xs) = ap (λ ys. x ∷ ys) (none_more xs)

joined : {A : Type 0} (xs ys zs : List A) → (xs ++ ys) ++ zs ≡ xs ++ (ys ++ zs)
joined [] ys zs = refl
joined (x ∷ xs) ys zs = ap (λ qs. x ∷ qs) (joined xs ys zs)

-- ---- the parts of one run

-- the first part has a node
record BeginsWithNode (parts : List (List Node)) : Type 0 where
  first : Node
  first_part : List Node
  others : List (List Node)
  parts_are : parts ≡ (first ∷ first_part) ∷ others

begins : (parts : List (List Node)) → All (λ part. 0 < length part) parts → 0 < length (all_places parts) → BeginsWithNode parts
begins [] each some = absurd (omega (arith, some))
begins (part ∷ parts) each some = by part (each 0 part (omega arith))
  where
    by : (ns : List Node) → 0 < length ns → BeginsWithNode (ns ∷ parts)
    by [] more = absurd (omega (arith, more))
    by (n ∷ ns) more = record { first = n; first_part = ns; others = parts; parts_are = refl }

-- what is known of a run and its origin
pub record IsRunOf (trees : List Shape) (frame : ℕ) (run : Range ℕ) (origin : Option Place) : Type 0 where
  pub is_run : IsRun (links_in trees frame) run
  pub some : run.start < run.end
  pub within : run.end ≤ length (links_in trees frame)
  pub is_origin : IsOriginAt (links_in trees frame) run.start origin

-- a run with its origin and its parts is planned
pub run_planned : (trees : List Shape) (frame : ℕ) (run : Range ℕ) (origin : Option Place) → IsRunOf trees frame run origin → (parts : List (List Node)) → All (λ part. 0 < length part) parts
    → all_places parts ≡ pages_of (links_in trees frame) run.start run.end → IsRunPlan trees (record { frame = frame; run = run; origin = origin; parts = parts })
run_planned trees frame run origin is parts each places =
    let more = some_pages (links_in trees frame) run.start run.end is.some is.within in
    let start = begins parts each (subst (λ ps. 0 < length ps) (sym places) more) in
    record {
      is_run = is.is_run;
      some = is.some;
      within = is.within;
      origin = is.is_origin;
      places = places;
      first = start.first;
      first_part = start.first_part;
      others = start.others;
      parts = start.parts_are;
    }

-- a node of each page
abbrev node_at : Place → Node
node_at p = record { place = p; depth = 0 }

-- its pages, as one part
abbrev pub one_part : List Place → List (List Node)
one_part ps = map node_at ps ∷ []

pub places_of_one : (ps : List Place) → all_places (one_part ps) ≡ ps
places_of_one ps = none_more (map (λ (n : Node). n.place) (map node_at ps)) ∙ same ps
  where
    same : (qs : List Place) → map (λ (n : Node). n.place) (map node_at qs) ≡ qs
    same [] = refl
    same (q ∷ qs) = ap (λ rs. q ∷ rs) (same qs)

pub one_part_planned : (trees : List Shape) (frame : ℕ) (run : Range ℕ) (origin : Option Place) → IsRunOf trees frame run origin
    → IsRunPlan trees (record { frame = frame; run = run; origin = origin; parts = one_part (pages_of (links_in trees frame) run.start run.end) })
one_part_planned trees frame run origin is =
    let ps = pages_of (links_in trees frame) run.start run.end in
    let more = some_pages (links_in trees frame) run.start run.end is.some is.within in
    run_planned trees frame run origin is (one_part ps) (λ k d less. one ps k d (omega (arith, less)) more) (places_of_one ps)
  where
    one : (ps : List Place) (k : ℕ) (d : List Node) → k ≤ 0 → 0 < length ps → 0 < length (get_or (one_part ps) k d)
    one [] k d least more = absurd (omega (arith, more))
    one (p ∷ ps) zero d least more = omega arith
    one (p ∷ ps) (suc k) d least more = absurd (omega (arith, least))

-- ---- the runs of a frame, one more after another

snoc_all : {A : Type 0} (P : A → Type 0) (xs : List A) (x : A) → All P xs → P x → All P (xs ++ x ∷ [])
snoc_all P xs x all one = All-append P xs (x ∷ []) all (λ k d less. by k d (omega (arith, less)))
  where
    by : (k : ℕ) (d : _) → k ≤ 0 → P (get_or (x ∷ []) k d)
    by zero d least = one
    by (suc k) d least = absurd (omega (arith, least))

module _ (s : Shards) (trees : List Shape) (a : Rights) (flush : Bool) where
  strips_joined : (ps qs : List RunPlan) → strips_of_runs s a flush (ps ++ qs) ≡ strips_of_runs s a flush ps ++ strips_of_runs s a flush qs
  strips_joined [] qs = refl
  strips_joined (p ∷ ps) qs = ap (λ ks. strips_of_run s a flush p.origin p.parts ++ ks) (strips_joined ps qs) ∙ sym (joined (strips_of_run s a flush p.origin p.parts) (strips_of_runs s a flush ps) (strips_of_runs s a flush qs))

  -- what was added, and then more
  more_strips : (old now new : List Piece) (ps qs : List RunPlan) → now ≡ old ++ map piece.Strip (strips_of_runs s a flush ps) → new ≡ now ++ map piece.Strip (strips_of_runs s a flush qs) → new ≡ old ++ map piece.Strip (strips_of_runs s a flush (ps ++ qs))
  more_strips old now new ps qs first second =
      second ∙ ap (λ ks. ks ++ map piece.Strip (strips_of_runs s a flush qs)) first ∙ joined old (map piece.Strip (strips_of_runs s a flush ps)) (map piece.Strip (strips_of_runs s a flush qs))
      ∙ ap (λ ks. old ++ ks) (sym (ap (map piece.Strip) (strips_joined ps qs) ∙ map-append piece.Strip (strips_of_runs s a flush ps) (strips_of_runs s a flush qs)))

  module _ (frame : ℕ) where
    pub none_added : (old : List Piece) → AreAdded s trees a flush frame [] old old
    none_added old = record {
      plans = [];
      planned = record { each = λ k d less. absurd (omega (arith, less)); frames = λ k d less. absurd (omega (arith, less)); runs_are = refl; once = λ k d less. absurd (omega (arith, less)) };
      items = sym (none_more old);
    }

    pub one_added : (runs : List (Range ℕ)) (old now new : List Piece) → AreAdded s trees a flush frame runs old now → (run : Range ℕ) (origin : Option Place) → IsRunOf trees frame run origin → are_once (links_in trees frame) ≡ true
        → IsRunAdded s a flush origin (pages_of (links_in trees frame) run.start run.end) now new → AreAdded s trees a flush frame (runs ++ run ∷ []) old new
    one_added runs old now new so_far run origin is once added =
        let plan : RunPlan = record { frame = frame; run = run; origin = origin; parts = added.parts } in
        record {
          plans = so_far.plans ++ plan ∷ [];
          planned = record {
            each = snoc_all (IsRunPlan trees) so_far.plans plan so_far.planned.each (run_planned trees frame run origin is added.parts added.each added.places);
            frames = snoc_all (λ plan. plan.frame ≡ frame) so_far.plans plan so_far.planned.frames refl;
            runs_are = map-append (λ plan. plan.run) so_far.plans (plan ∷ []) ∙ ap (λ rs. rs ++ run ∷ []) so_far.planned.runs_are;
            once = snoc_all (λ plan. are_once (links_in trees plan.frame) ≡ true) so_far.plans plan so_far.planned.once once;
          };
          items = more_strips old now new so_far.plans (plan ∷ []) so_far.items (added.items ∙ ap (λ ks. now ++ map piece.Strip ks) (sym (none_more (strips_of_run s a flush origin added.parts))));
        }

  -- ---- frame after frame

  pub no_frame : ArePlannedStrips s trees a flush [] []
  no_frame = record { plans = []; planned = refl; items = refl }

  -- frames with their plans, and others with theirs
  frames_joined : (fs gs : List FrameRuns) (plans others : List RunPlan) → AreFramePlans trees fs plans → AreFramePlans trees gs others → AreFramePlans trees (fs ++ gs) (plans ++ others)
  frames_joined [] gs plans others none are = subst (λ ps. AreFramePlans trees gs (ps ++ others)) (sym none) are
  frames_joined (f ∷ fs) gs plans others (mine, rest, parts, mine_are, rest_are) are =
      (mine, rest ++ others, ap (λ ps. ps ++ others) parts ∙ joined mine rest others, mine_are, frames_joined fs gs rest others rest_are are)

  frames_more : (fs : List FrameRuns) (plans : List RunPlan) → AreFramePlans trees fs plans → (f : FrameRuns) (mine : List RunPlan) → AreRunPlans trees f.frame f.runs mine → AreFramePlans trees (fs ++ f ∷ []) (plans ++ mine)
  frames_more fs plans are f mine mine_are = frames_joined fs (f ∷ []) plans mine are (mine, [], sym (none_more mine), mine_are, refl)

  pub one_frame : (fs : List FrameRuns) (now new : List Piece) → ArePlannedStrips s trees a flush fs now → (f : FrameRuns) → AreAdded s trees a flush f.frame f.runs now new → ArePlannedStrips s trees a flush (fs ++ f ∷ []) new
  one_frame fs now new so_far f added = record {
    plans = so_far.plans ++ added.plans;
    planned = frames_more fs so_far.plans so_far.planned f added.plans added.planned;
    items = more_strips [] now new so_far.plans added.plans so_far.items added.items;
  }

  -- frames after those before them
  pub more_frames : (fs gs : List FrameRuns) (now mine : List Piece) → ArePlannedStrips s trees a flush fs now → ArePlannedStrips s trees a flush gs mine → ArePlannedStrips s trees a flush (fs ++ gs) (now ++ mine)
  more_frames fs gs now mine so_far more = record {
    plans = so_far.plans ++ more.plans;
    planned = frames_joined fs gs so_far.plans more.plans so_far.planned more.planned;
    items = more_strips [] now (now ++ mine) so_far.plans more.plans so_far.items (ap (λ ks. now ++ ks) more.items);
  }
