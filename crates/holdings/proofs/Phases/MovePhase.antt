-- The phase of a GrantItem.
use Rattle.std.proofs.Common.{◌≡◌, true, List, None, sym, ◌∙◌, subst}
use Rattle.space.specs.declared.shards.Shards.{Shards}
use Rattle.space.specs.Shards.{HasWord}
use Rattle.std.specs.List.{All}
use Rattle.maptree.specs.Origins.{Shape}
use Rattle.model.specs.Definitions.Grant.{renamed}
use Rattle.pieces.specs.Contents.{ends_of}
use Rattle.pieces.specs.Distinct.{are_distinct}
use Rattle.pieces.specs.declared.piece.Piece.{Piece}
use Rattle.pieces.specs.declared.piece.Piece.TheVariants as piece
use Rattle.holdings.specs.Contents.{Contents, AreMoved}
use Rattle.holdings.specs.Meaning.{counts_of}
use Rattle.holdings.specs.Sending.{ArePlanned, AllGo, AreFree, moving_of}
use Rattle.holdings.specs.declared.link.Link.{Link}
use Rattle.holdings.specs.declared.transfer.Transfer.{Transfer}
use Rattle.holdings.specs.declared.transfer_counts.TransferCounts.{TransferCounts}
use Rattle.holdings.specs.Inner.Held.{contents_of, holdings_in, layout_in, limits_in}
use Rattle.holdings.specs.Inner.Links.{last_target, links_of}
use Rattle.holdings.specs.Inner.Phases.{ArePieces, IsPhaseLeft}
use Rattle.holdings.specs.Inner.Planning.{counts_in, word_pairs}
use Rattle.holdings.specs.Inner.Renamings.{AreMovable, AreRenamed}
use Rattle.holdings.specs.Inner.Sound.{AreSound}
use Rattle.holdings.specs.Inner.Words.{CanBeWorkedIn, IsWritten}
use Rattle.holdings.proofs.Contents.Layouts.{same_grows, same_layout}
use Rattle.holdings.proofs.Contents.SameEntries.{AreMadeFrom, moved_from}
use Rattle.holdings.proofs.Phases.Beside.{ends_distinct}
use Rattle.holdings.proofs.Phases.Counted.{counted_by_words}
use Rattle.holdings.proofs.Phases.Whole.{both_ends, pairs_are_moved}
use Rattle.holdings.proofs.Phases.Words.{own_words}
use Rattle.holdings.proofs.Renamings.MovingTrees.{movable}

module _ (s : Shards) (trees : List Shape) (sound : AreSound s trees) (old : Contents) (made : AreMadeFrom old s trees) (ts : List Transfer) (planned_old : ArePlanned old.limits ts) (all_go : AllGo ts) (free_old : AreFree old.holdings ts) (targets : All (λ t. HasWord s t.target) ts) where
  planned : ArePlanned (limits_in s trees) ts
  planned = subst (λ (c : Contents). ArePlanned c.limits ts) (sym made.view) planned_old

  free : AreFree (holdings_in s trees) ts
  free = subst (λ (c : Contents). AreFree c.holdings ts) (sym made.view) free_old

  pub trees_movable : (now : List Shape) → now ≡ trees → (ls : List Link) → ls ≡ links_of s ts → AreMovable now ls
  trees_movable now now_is ls ls_are =
      subst (λ us. AreMovable us ls) (sym now_is) (subst (AreMovable trees) (sym ls_are) (movable (limits_in s trees) s trees sound ts planned all_go free (sym sound.kept.fits.count)))

  pub pairs_distinct : are_distinct (ends_of (word_pairs s ts)) ≡ true
  pairs_distinct = let own = own_words s sound.kept.fits.present in ends_distinct s own.0 own.1 sound.kept.fits.some planned.from planned.to planned.differ ts planned.paired (both_ends s trees sound ts planned.within targets)

  module _ (ps : List Piece) (cut : ArePieces piece.Move (word_pairs s ts) ps) where
    pub pairs_can : CanBeWorkedIn s ps
    pairs_can w words = (pairs_are_moved s trees sound ts planned all_go free targets w words ps cut).0

    module _ (ls : List Link) (ls_are : ls ≡ links_of s ts) (now : List Shape) (now_is : now ≡ trees) (after : List Shape) (moved : AreRenamed (λ p. last_target ls p None) ls now after) (n : Shards) (done : IsWritten s n ps) where
      phase_left : IsPhaseLeft (limits_in s trees) (renamed (moving_of (holdings_in s trees) ts) (holdings_in s trees)) n after
      phase_left =
          (pairs_are_moved s trees sound ts planned all_go free targets done.words done.are ps cut).1 after
          (subst (λ ks. AreRenamed (λ p. last_target ks p None) ks trees after) ls_are (subst (λ us. AreRenamed (λ p. last_target ls p None) ls us after) now_is moved)) n done.with

      pub moved_sound : AreSound n after
      moved_sound = phase_left.sound

      pub are_moved : (counts : TransferCounts) → counts_of counts ≡ counts_in s ts → AreMoved old ts (contents_of n after, counts)
      are_moved counts counted =
          moved_from old s trees made ts (contents_of n after, counts) (record {
            left = λ i. record { limits = phase_left.limits_stay i; holdings = phase_left.left i; layout = layout_in n };
            grows = same_grows (layout_in s) (layout_in n) (same_layout s n done.with.layout);
            counted = counted ∙ counted_by_words s trees ts planned.within;
          })
