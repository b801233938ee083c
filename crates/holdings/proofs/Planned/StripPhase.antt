-- A planned strip, worked as one phase.
use Rattle.std.proofs.Common.{◌≡◌, Bool, List, [], ◌∷◌, ◌++◌, length, map, filter, refl, sym, ap, ◌∙◌, subst, arith}
use Rattle.std.specs.List.{All}
use Rattle.fpage.specs.Rights.{no_rights}
use Rattle.fpage.specs.declared.rights.Rights.{Rights}
use Rattle.space.specs.declared.shards.Shards.{Shards}
use Rattle.space.specs.Slices.{nodes_of}
use Rattle.maptree.specs.Cuts.{kept_of}
use Rattle.maptree.specs.Origins.{Shape}
use Rattle.model.specs.Definitions.Holdings.{PlaceSet}
use Rattle.model.specs.Definitions.Strip.{strip, strip_word}
use Rattle.model.proofs.Chains.{below_empty}
use Rattle.model.proofs.LawfulParts.{lawful_parts}
use Rattle.model.proofs.StripUnions.{strip_nothing, word_nothing}
use Rattle.pieces.specs.Applied.{worked}
use Rattle.pieces.specs.Contents.{StripContent}
use Rattle.pieces.specs.Gathering.{union_of}
use Rattle.pieces.specs.Phases.{CanBeWorked, IsPiece}
use Rattle.pieces.specs.Values.{value}
use Rattle.pieces.specs.declared.gathering.Gathered.{Gathered}
use Rattle.pieces.specs.declared.piece.Piece.{Piece}
use Rattle.pieces.specs.declared.piece.Piece.TheVariants as piece
use Rattle.holdings.specs.Contents.{IsStripped}
use Rattle.holdings.specs.Places.{any_of}
use Rattle.holdings.specs.Inner.Held.{contents_of, holdings_in, layout_in, limits_in, has_entry}
use Rattle.holdings.specs.Inner.Phases.{IsPhaseLeft}
use Rattle.holdings.specs.Inner.Planning.{RunPlan, IsRunPlan, IsStripPlan, strips_of_run, strips_of_runs}
use Rattle.holdings.specs.Inner.Sound.{AreSound}
use Rattle.holdings.specs.Inner.StripPlans.{IsPlanned, AllCanBePruned, AreKeptNodes, ArePruned}
use Rattle.holdings.specs.Inner.Words.{CanBeWorkedIn, IsPhaseWorked, IsWith}
use Rattle.pieces.specs.declared.runs.StripPlan.{StripPlan}
use Rattle.holdings.proofs.Contents.Layouts.{same_layout}
use Rattle.holdings.proofs.Phases.StripPlans.{plan_can_be_worked, stripped_runs}
use Rattle.holdings.proofs.Phases.Whole.{planned_strips_are_strips}
use Rattle.holdings.proofs.Stripping.Outer.{outer_word, outer_strip}
use Rattle.holdings.proofs.Planned.AllKept.{plan_places, strip_places}
use Rattle.holdings.proofs.Planned.Trees.{all_can, trees_left}

module _ (s : Shards) (trees : List Shape) (sound : AreSound s trees) (set : PlaceSet) (a : Rights) (flush : Bool) (plan : StripPlan) (is : IsPlanned s trees set a flush plan) where
  pub plan_can : CanBeWorkedIn s plan.pieces.items
  plan_can w are = subst (CanBeWorked w) (sym is.pieces_are) (plan_can_be_worked s trees sound set is.plans is.strip a flush w are)

  module _ (n : Shards) (g : Gathered) (done : IsPhaseWorked s n plan.pieces.items g) where
    each : All IsPiece (map piece.Strip (strips_of_runs s a flush is.plans))
    each = subst (All IsPiece) is.pieces_are is.pieces

    with : IsWith s (worked done.words (map piece.Strip (strips_of_runs s a flush is.plans))) n
    with = subst (λ ps. IsWith s (worked done.words ps) n) is.pieces_are done.with

    -- the trees can lose the places that are held no more
    pub plan_can_prune : AllCanBePruned n trees plan.frames.items
    plan_can_prune =
        all_can s trees sound is.plans a flush n _ (stripped_runs s trees sound set is.plans is.strip a flush done.words done.are each n with) is.strip.runs is.pages plan.frames.items is.runs is.planned

    -- the nodes that are kept are those whose pages are held still
    pub plan_keeps : AreKeptNodes n trees plan.frames.items (nodes_of g.slices.items)
    plan_keeps = record {
      parts = map (λ k. k.nodes) ss;
      parts_are = strip_places s a flush is.plans ∙ plan_places trees plan.frames.items is.plans is.planned;
      kept_are =
          done.found.slices ∙ kepts plan.pieces.items ∙ ap (map (λ p. (value done.words p).kept)) is.pieces_are
          ∙ ((planned_strips_are_strips s trees sound set is.plans is.strip a flush done.words done.are).1 each n with).1 ∙ sym (filters ss);
    }
      where
        ss : List StripContent
        ss = strips_of_runs s a flush is.plans

        kepts : (ps : List Piece) → map (λ v. v.kept) (map (value done.words) ps) ≡ map (λ p. (value done.words p).kept) ps
        kepts [] = refl
        kepts (p ∷ ps) = ap (λ ks. (value done.words p).kept ∷ ks) (kepts ps)

        filters : (ss : List StripContent) → kept_of (has_entry n) (map (λ k. k.nodes) ss) ≡ map (λ k. filter (λ o. has_entry n o.place) k.nodes) ss
        filters [] = refl
        filters (k ∷ ss) = ap (λ ks. filter (λ o. has_entry n o.place) k.nodes ∷ ks) (filters ss)

    -- the status of all
    pub plan_status : g.status ≡ strip_word (holdings_in s trees) set
    plan_status =
        done.found.status ∙ ap union_of (statuses plan.pieces.items) ∙ ap (λ ps. union_of (map (λ p. (value done.words p).status) ps)) is.pieces_are
        ∙ ((planned_strips_are_strips s trees sound set is.plans is.strip a flush done.words done.are).1 each n with).0.status
      where
        statuses : (ps : List Piece) → map (λ v. v.status) (map (value done.words) ps) ≡ map (λ p. (value done.words p).status) ps
        statuses [] = refl
        statuses (p ∷ ps) = ap (λ rs. (value done.words p).status ∷ rs) (statuses ps)

    -- words and trees afterwards
    pub plan_left : (left : List Shape) → ArePruned n plan.frames.items trees left → IsPhaseLeft (limits_in s trees) (strip (holdings_in s trees) set a flush) n left
    plan_left left are =
        ((planned_strips_are_strips s trees sound set is.plans is.strip a flush done.words done.are).1 each n with).0.pruned_left left are.count
        (trees_left s trees sound is.plans a flush n _ (stripped_runs s trees sound set is.plans is.strip a flush done.words done.are each n with) is.strip.runs is.pages plan.frames.items is.runs is.planned left are)

    pub plan_stripped : (left : List Shape) → ArePruned n plan.frames.items trees left → IsStripped (contents_of s trees) set a flush (contents_of n left, g.status)
    plan_stripped left are = let after = plan_left left are in record {
      left = λ i. record { limits = after.limits_stay i; holdings = after.left i; layout = same_layout s n done.with.layout i };
      status = plan_status;
    }

  -- a plan without pieces takes nothing
  no_plans : (plans : List RunPlan) → All (IsRunPlan trees) plans → length (map piece.Strip (strips_of_runs s a flush plans)) ≡ 0 → plans ≡ []
  no_plans [] each none = refl
  no_plans (p ∷ ps) each none = let first : IsRunPlan trees p = each 0 p (omega arith) in absurd (some p.parts first.parts none)
    where
      some : (parts : _) {first : _} {others : _} → parts ≡ first ∷ others → length (map piece.Strip (strips_of_run s a flush p.origin parts ++ strips_of_runs s a flush ps)) ≡ 0 → ⊥
      some [] is none = cc is
      some (part ∷ parts) is none = omega (arith, none)

  pub nothing_stripped : length plan.pieces.items ≡ 0 → IsStripped (contents_of s trees) set a flush (contents_of s trees, no_rights)
  nothing_stripped none =
      let h = holdings_in s trees in
      let lawful = lawful_parts h sound.kept.lawful in
      let plans : is.plans ≡ [] = no_plans is.plans is.strip.runs (ap length (sym is.pieces_are) ∙ none) in
      let planned : IsStripPlan s trees set [] = subst (IsStripPlan s trees set) plans is.strip in
      let empty = below_empty h lawful (any_of []) (λ q. refl) in
      record {
        left = λ i. record {
          limits = limits_in s trees;
          layout = layout_in s;
          holdings = (sym (strip_nothing h lawful (any_of []) a flush (λ q _. empty q)) ∙ outer_strip h lawful (any_of []) set (λ q among. absurd (cc among)) planned.covers a flush) i;
        };
        status = sym (word_nothing h (any_of []) lawful (λ q _. empty q)) ∙ outer_word h lawful (any_of []) set (λ q among. absurd (cc among)) planned.covers;
      }
