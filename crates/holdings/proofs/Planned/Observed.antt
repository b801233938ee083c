-- The words of a strip's phase say what is held, at its beginning and with all steps done.
use Rattle.std.proofs.Common.{ℕ, ◌<◌, Bool, List, length, map, sym, ap, ◌∙◌, subst, arith}
use Rattle.std.specs.Prelude.{slice_index}
use Rattle.std.specs.List.{All, AllPass, flat_map}
use Rattle.fpage.specs.declared.rights.Rights.{Rights}
use Rattle.space.specs.Word as word
use Rattle.space.specs.Word.{is_pack}
use Rattle.space.specs.declared.shards.Shards.{Shards}
use Rattle.maptree.specs.Origins.{Shape}
use Rattle.model.specs.Definitions.Holdings.{PlaceSet}
use Rattle.model.specs.Definitions.Strip.{strip}
use Rattle.pieces.specs.Applied.{worked}
use Rattle.pieces.specs.Phases.{IsPiece}
use Rattle.pieces.specs.Steps.{effects}
use Rattle.pieces.specs.declared.piece.Piece.TheVariants as piece
use Rattle.pieces.proofs.AllSteps.{length_words, worked_all}
use Rattle.pieces.proofs.Packs.{packs_after_steps, pieces_suit}
use Rattle.holdings.specs.Observing.{SayWhatIsHeld, IsPhaseOf}
use Rattle.holdings.specs.Places.{IsWithin}
use Rattle.holdings.specs.Inner.Held.{holdings_in, layout_in, limits_in}
use Rattle.holdings.specs.Inner.Planning.{strips_of_runs}
use Rattle.holdings.specs.Inner.Sound.{AreSound}
use Rattle.holdings.specs.Inner.StripPlans.{IsPlanned}
use Rattle.holdings.specs.Inner.Words.{AreWordsOf, IsWith}
use Rattle.pieces.specs.declared.runs.StripPlan.{StripPlan}
use Rattle.holdings.proofs.Contents.Holders.{entry_within}
use Rattle.holdings.proofs.Contents.Layouts.{index_has, same_layout}
use Rattle.holdings.proofs.Phases.Whole.{planned_strips_are_strips}
use Rattle.holdings.proofs.Phases.Words.{with_words}
use Rattle.holdings.proofs.Planned.StripPhase.{plan_can}

-- the words of shards say what they and their trees hold
pub say_held : (s : Shards) (trees : List Shape) (w : List ℕ) → AreWordsOf s w → SayWhatIsHeld (layout_in s) (holdings_in s trees) w
say_held s trees w are = record {
  within = λ p i is. let stood = index_has s p i is in let reach = stood.word in let here = stood.index in omega (arith, reach, here, are.count);
  entries = λ p i is.
      let stood = index_has s p i is in
      let within : IsWithin (limits_in s trees) p = record { space = stood.place.space; page = stood.place.page } in
      ap (λ k. word.entry_of (slice_index w k)) (sym stood.index) ∙ are.entries p stood.place ∙ sym (entry_within (limits_in s trees) s trees p within);
}

module _ (s : Shards) (trees : List Shape) (sound : AreSound s trees) (set : PlaceSet) (a : Rights) (flush : Bool) (plan : StripPlan)
    (is : IsPlanned s trees set a flush plan) (some : 0 < length plan.pieces.items) (w : List ℕ) (are : AreWordsOf s w) where
  pub plan_phase : IsPhaseOf (layout_in s) (holdings_in s trees) (strip (holdings_in s trees) set a flush) w plan.pieces.items
  plan_phase =
      let can = plan_can s trees sound set a flush plan is w are in
      let ps = plan.pieces.items in
      let done = worked w ps in
      let packs = subst (AllPass is_pack) (sym (worked_all w ps)) (packs_after_steps w (flat_map (effects w) ps) can.packs (pieces_suit w ps can.entries)) in
      let new = with_words s sound.kept.fits.present done (length_words 0 w _ ∙ are.count) packs in
      let n = new.0 in
      let each : All IsPiece (map piece.Strip (strips_of_runs s a flush is.plans)) = subst (All IsPiece) is.pieces_are is.pieces in
      let with : IsWith s (worked w (map piece.Strip (strips_of_runs s a flush is.plans))) n = subst (λ ps. IsWith s (worked w ps) n) is.pieces_are new.1 in
      let stripped = ((planned_strips_are_strips s trees sound set is.plans is.strip a flush w are).1 each n with).0.left in
      record {
        some = some;
        can = can;
        before = say_held s trees w are;
        after = subst (λ h. SayWhatIsHeld (layout_in s) h done) stripped
            (subst (λ l. SayWhatIsHeld l (holdings_in n trees) done) (same_layout s n new.1.layout) (say_held n trees done new.1.words));
      }
