-- Whole phases: the lemmas of accesses, strips, links and moves, as the laws say them.
use Rattle.std.proofs.Common.{◌≡◌, ℕ, List, [], ◌∷◌, length, map, get_or, refl, sym, ap, ◌∙◌, subst}
use Rattle.std.specs.List.{All, flat_map}
use Rattle.space.specs.declared.shards.Shards.{Shards}
use Rattle.space.specs.Shards.{HasWord, IsLaidOutAs}
use Rattle.maptree.specs.Origins.{Shape}
use Rattle.pieces.specs.Applied.{worked}
use Rattle.pieces.specs.Contents.{StripContent}
use Rattle.pieces.specs.Steps.{may_access}
use Rattle.pieces.specs.Values.{value, kept_nodes}
use Rattle.pieces.specs.Gathering.{union_of}
use Rattle.pieces.specs.declared.link.Store.{Store}
use Rattle.pieces.specs.declared.moving.Pair.{Pair}
use Rattle.pieces.specs.declared.piece.Piece.{Piece}
use Rattle.pieces.specs.declared.piece.Piece.TheVariants as piece
use Rattle.pieces.proofs.InOrder.{words_in_order, answers_one_by_one}
use Rattle.pieces.proofs.InPieces.{touches_in_pieces, answers_in_pieces, links_in_pieces, moves_in_pieces}
use Rattle.holdings.specs.Sending.{IsTransferWithin}
use Rattle.holdings.specs.declared.transfer.Transfer.{Transfer}
use Rattle.holdings.specs.Inner.Held.{holdings_of, limits_in}
use Rattle.holdings.specs.Inner.Phases.{ArePieces, TouchesAreAccesses, PlannedStripsAreStrips, StoresAreMapped, PairsAreMoved}
use Rattle.holdings.specs.Inner.Planning.{word_access, stores_of, word_pairs, strips_of_runs}
use Rattle.holdings.specs.Inner.Sound.{IsSound, AreSound}
use Rattle.holdings.specs.Inner.Words.{IsWith}
use Rattle.holdings.proofs.Contents.Holders.{place_within}
use Rattle.holdings.proofs.Phases.Accessed.{all_accessed, all_answered}
use Rattle.holdings.proofs.Phases.Beside.{EndsStand, touches_can, links_can, moves_can, link_can, move_can}
use Rattle.holdings.proofs.Phases.KeptNodes.{strips_keep}
use Rattle.holdings.proofs.Phases.Linked.{all_linked}
use Rattle.holdings.proofs.Phases.Moved.{pairs_moved}
use Rattle.holdings.proofs.Phases.StripPlans.{plan_can_be_worked, set_left, set_status, same_left, sound_left, limits_left, runs_have, nodes_have_words, indexes_once}
use Rattle.holdings.proofs.Phases.StrippedRuns.{each_strip}

-- shards laid out as others have their limits
same_limits : (s n : Shards) (trees : List Shape) → IsLaidOutAs s n → limits_in n trees ≡ limits_in s trees
same_limits s n trees layout = λ i. record { spaces = layout.spaces i; bits = layout.bits i; frames = length trees }

-- both ends of each transfer have words
pub both_ends : (s : Shards) (trees : List Shape) → AreSound s trees → (ts : List Transfer) → All (IsTransferWithin (limits_in s trees)) ts → All (λ t. HasWord s t.target) ts → EndsStand s ts
both_ends s trees sound ts within targets k d less =
    let t = within k d less in
    (record { space = t.source_space; page = t.source_page }, record { place = record { space = t.target_space; page = t.target_page }; word = targets k d less })

-- ---- accesses

pub touches_are_accesses : TouchesAreAccesses
touches_are_accesses s trees sound w are ts within there ps cut =
    let limits = limits_in s trees in
    let xs = map (word_access s) ts in
    let whole = ap (worked w) cut.are ∙ touches_in_pieces w cut.parts ∙ ap (λ ys. worked w (piece.Touch ys ∷ [])) cut.joined ∙ words_in_order w are.packs xs in (
      touches_can s w are sound.kept.fits.some ts (λ k d less. record { place = place_within limits s trees sound.kept.fits (get_or ts k d).0 (within k d less); word = there k d less }) ps cut,
      ap (flat_map (λ p. (value w p).answers)) cut.are ∙ answers_in_pieces w cut.parts ∙ ap (map (may_access w)) cut.joined ∙ answers_one_by_one w are.packs xs ∙ all_answered limits trees ts within s there sound w are,
      λ new with.
          let left = all_accessed limits trees ts within s there sound w are new (subst (λ v. IsWith s v new) whole with) in
          let same = same_limits s new trees with.layout in
          record { left = ap (λ l. holdings_of l new trees) same ∙ left.left; limits_stay = same; sound = subst (λ l. IsSound l new trees) (sym same) left.sound },
    )

-- ---- strips

statuses : (w : List ℕ) (ss : List StripContent) → map (λ p. (value w p).status) (map piece.Strip ss) ≡ map (λ k. (value w (piece.Strip k)).status) ss
statuses w [] = refl
statuses w (k ∷ ss) = ap (λ rs. (value w (piece.Strip k)).status ∷ rs) (statuses w ss)

kept_lists : (w : List ℕ) (ss : List StripContent) → map (λ p. (value w p).kept) (map piece.Strip ss) ≡ map (kept_nodes w) ss
kept_lists w [] = refl
kept_lists w (k ∷ ss) = ap (λ ns. kept_nodes w k ∷ ns) (kept_lists w ss)

pub planned_strips_are_strips : PlannedStripsAreStrips
planned_strips_are_strips s trees sound set plans planned revoked flush w are = (
  plan_can_be_worked s trees sound set plans planned revoked flush w are,
  λ each new with.
      let ss = strips_of_runs s revoked flush plans in
      let left = set_left s trees sound set plans planned revoked flush w are each new with in (
        record {
          left = left;
          status = ap union_of (statuses w ss) ∙ set_status s trees sound set plans planned revoked flush w are each new with;
          pruned_left = λ after count links. record {
            left = same_left s trees sound set plans planned revoked flush w are each new with after count links ∙ left;
            limits_stay = limits_left s trees sound set plans planned revoked flush w are each new with after count links ∙ same_limits s new trees with.layout;
            sound = sound_left s trees sound set plans planned revoked flush w are each new with after count links;
          };
        },
        kept_lists w ss ∙ strips_keep s w are ss (each_strip ss each) (runs_have s revoked flush plans) (nodes_have_words s trees sound set plans planned revoked flush w are) (indexes_once s trees sound set plans planned revoked flush w are) new with,
      ),
)

-- ---- links and moves

-- pieces that have these work as one that has them
links_worked : (w : List ℕ) (xs : List Store) (ps : List Piece) → ArePieces piece.Link xs ps → worked w ps ≡ worked w (piece.Link xs ∷ [])
links_worked w xs ps cut = ap (worked w) cut.are ∙ links_in_pieces w cut.parts ∙ ap (λ ys. worked w (piece.Link ys ∷ [])) cut.joined

moves_worked : (w : List ℕ) (xs : List Pair) (ps : List Piece) → ArePieces piece.Move xs ps → worked w ps ≡ worked w (piece.Move xs ∷ [])
moves_worked w xs ps cut = ap (worked w) cut.are ∙ moves_in_pieces w cut.parts ∙ ap (λ ys. worked w (piece.Move ys ∷ [])) cut.joined

pub stores_are_mapped : StoresAreMapped
stores_are_mapped s trees sound rights ts planned ready targets w are ps cut =
    let ends = both_ends s trees sound ts planned.within targets in (
      links_can s w are sound.kept.fits.some rights planned.from planned.to ts planned.paired ends ps cut,
      λ ahead linked new with.
          let all = all_linked s trees sound rights ts planned ready targets ahead w are linked (link_can s w are sound.kept.fits.some rights planned.from planned.to ts planned.paired ends) new (subst (λ v. IsWith s v new) (links_worked w (stores_of s rights ts) ps cut) with) in
          record { left = all.left; limits_stay = all.same_limits; sound = all.is_sound },
    )

pub pairs_are_moved : PairsAreMoved
pairs_are_moved s trees sound ts planned all_go free targets w are ps cut =
    let ends = both_ends s trees sound ts planned.within targets in (
      moves_can s w are sound.kept.fits.some planned.from planned.to planned.differ ts planned.paired ends ps cut,
      λ after renamed new with.
          let all = pairs_moved s trees sound ts planned all_go free targets w are (move_can s w are sound.kept.fits.some planned.from planned.to planned.differ ts planned.paired ends) new (subst (λ v. IsWith s v new) (moves_worked w (word_pairs s ts) ps cut) with) after renamed in
          record { left = all.left; limits_stay = all.limits_stay; sound = all.is_sound },
    )
