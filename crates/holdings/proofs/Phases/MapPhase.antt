-- The phase of a MapItem.
use Rattle.std.proofs.Common.{◌≡◌, true, List, [], sym, ◌∙◌, subst}
use Rattle.fpage.specs.declared.rights.Rights.{Rights}
use Rattle.space.specs.declared.shards.Shards.{Shards}
use Rattle.space.specs.Shards.{HasWord}
use Rattle.std.specs.List.{All}
use Rattle.maptree.specs.Origins.{Shape}
use Rattle.pieces.specs.Contents.{puts_of}
use Rattle.pieces.specs.Distinct.{are_distinct}
use Rattle.pieces.specs.declared.piece.Piece.{Piece}
use Rattle.pieces.specs.declared.piece.Piece.TheVariants as piece
use Rattle.fpage.specs.declared.item.ItemKind.TheVariants.{Map}
use Rattle.holdings.specs.Contents.{Contents, AreMapped}
use Rattle.holdings.specs.Meaning.{counts_of}
use Rattle.holdings.specs.Sending.{ArePlanned, AreReady, map_transfers}
use Rattle.holdings.specs.declared.link.Link.{Link}
use Rattle.holdings.specs.declared.transfer.Transfer.{Transfer}
use Rattle.holdings.specs.declared.transfer_counts.TransferCounts.{TransferCounts}
use Rattle.holdings.specs.Inner.Held.{contents_of, holdings_in, layout_in, limits_in}
use Rattle.holdings.specs.Inner.Links.{AreLinkable, AreLinked, links_of}
use Rattle.holdings.specs.Inner.Phases.{ArePieces, IsPhaseLeft}
use Rattle.holdings.specs.Inner.Planning.{counts_in, stores_of}
use Rattle.holdings.specs.Inner.Sound.{AreSound}
use Rattle.holdings.specs.Inner.Words.{CanBeWorkedIn, IsWritten}
use Rattle.holdings.proofs.Contents.Layouts.{same_grows, same_layout}
use Rattle.holdings.proofs.Contents.SameEntries.{AreMadeFrom, mapped_from}
use Rattle.holdings.proofs.Maps.MapWords.{linkable}
use Rattle.holdings.proofs.Phases.Beside.{puts_distinct}
use Rattle.holdings.proofs.Phases.Counted.{counted_by_words}
use Rattle.holdings.proofs.Phases.Whole.{both_ends, stores_are_mapped}
use Rattle.holdings.proofs.Phases.Words.{own_words}

module _ (s : Shards) (trees : List Shape) (sound : AreSound s trees) (old : Contents) (made : AreMadeFrom old s trees) (rights : Rights) (ts : List Transfer) (planned_old : ArePlanned old.limits ts) (ready_old : AreReady old.holdings rights ts) (targets : All (λ t. HasWord s t.target) ts) where
  planned : ArePlanned (limits_in s trees) ts
  planned = subst (λ (c : Contents). ArePlanned c.limits ts) (sym made.view) planned_old

  ready : AreReady (holdings_in s trees) rights ts
  ready = subst (λ (c : Contents). AreReady c.holdings rights ts) (sym made.view) ready_old

  pub new_linkable : (now : List Shape) → now ≡ trees → (ls : List Link) → ls ≡ links_of s ts → AreLinkable now ls
  new_linkable now now_is ls ls_are = subst (λ us. AreLinkable us ls) (sym now_is) (subst (AreLinkable trees) (sym ls_are) (linkable s trees sound rights ts planned ready))

  pub stores_distinct : are_distinct (puts_of (stores_of s rights ts)) ≡ true
  stores_distinct = let own = own_words s sound.kept.fits.present in puts_distinct s own.0 own.1 sound.kept.fits.some rights planned.from planned.to ts planned.paired (both_ends s trees sound ts planned.within targets)

  module _ (ps : List Piece) (cut : ArePieces piece.Link (stores_of s rights ts) ps) where
    pub stores_can : CanBeWorkedIn s ps
    stores_can w words = (stores_are_mapped s trees sound rights ts planned ready targets w words ps cut).0

    module _ (ls : List Link) (ls_are : ls ≡ links_of s ts) (now : List Shape) (now_is : now ≡ trees) (ahead : List Shape) (linked : AreLinked ls now ahead) (n : Shards) (done : IsWritten s n ps) where
      phase_left : IsPhaseLeft (limits_in s trees) (map_transfers (holdings_in s trees) (record { kind = Map; rights = rights; pairs = [] }) ts (holdings_in s trees)) n ahead
      phase_left =
          (stores_are_mapped s trees sound rights ts planned ready targets done.words done.are ps cut).1 ahead
          (subst (λ ks. AreLinked ks trees ahead) ls_are (subst (λ us. AreLinked ls us ahead) now_is linked)) n done.with

      pub mapped_sound : AreSound n ahead
      mapped_sound = phase_left.sound

      pub are_mapped : (counts : TransferCounts) → counts_of counts ≡ counts_in s ts → AreMapped old ts rights (contents_of n ahead, counts)
      are_mapped counts counted =
          mapped_from old s trees made ts rights (contents_of n ahead, counts) (record {
            left = λ i. record { limits = phase_left.limits_stay i; holdings = phase_left.left i; layout = layout_in n };
            grows = same_grows (layout_in s) (layout_in n) (same_layout s n done.with.layout);
            counted = counted ∙ counted_by_words s trees ts planned.within;
          })
