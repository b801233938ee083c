-- Words that are taken, worked and put back.
use Rattle.std.proofs.Common.{◌≡◌, ℕ, List, length, Ok, Err, slice_index, sym, ap, ◌∙◌, subst}
use Rattle.std.specs.Prelude.{Result, IfOk, IsFalse}
use Rattle.std.specs.List.{AllPass}
use Rattle.space.specs.declared.place.Place.{Place}
use Rattle.space.specs.declared.shards.Shards.{Shards}
use Rattle.space.specs.Word.{is_pack, word_of, entry_of}
use Rattle.space.specs.Shards.{IsPlace, IsLaidOutAs, index_of, word_count, entry_at, is_taken}
use Rattle.space.proofs.ShardWords.{entries_fit}
use Rattle.space.proofs.Words.{unpack_gives_back}
use Rattle.pieces.specs.Dones.{DoneContent}
use Rattle.pieces.specs.Gathering.{IsGathered, all_found}
use Rattle.pieces.specs.declared.gathering.Gathered.{Gathered}
use Rattle.pieces.specs.declared.piece.Piece.{Piece}
use Rattle.pieces.proofs.Placed.{gathered}
use Rattle.crew.specs.Worked.{IsWorked}
use Rattle.holdings.specs.Inner.Words.{AreWordsOf, IsWith, IsPhaseWorked}
use Rattle.holdings.proofs.Stripping.Walks.{same_layouts}

-- words that pack what stands at each place
pub words_taken : (s : Shards) (w : List ℕ) → length w ≡ word_count s → AllPass is_pack w → ((p : Place) → IsPlace s p → slice_index w (index_of s p) ≡ word_of (entry_at s p)) → AreWordsOf s w
words_taken s w count packs words = record {
  count = count;
  packs = packs;
  entries = λ p place. ap entry_of (words p place) ∙ (unpack_gives_back (entry_at s p) (entries_fit s p)).1;
}

-- what is gathered when the words are back
pub phase_worked : {E : Type 0} (s middle n : Shards) (w after : List ℕ) (ps : List Piece) (ds : List DoneContent) (r : Result Gathered E) → AreWordsOf s w → IsLaidOutAs s middle → IsWorked w ps after ds
    → ((p : Place) → IsPlace n p → entry_at n p ≡ entry_of (slice_index after (index_of n p))) → IsFalse (is_taken n) → IsLaidOutAs middle n → IfOk r (IsGathered (all_found (length ps) ds)) → IfOk r (IsPhaseWorked s n ps)
phase_worked s middle n w after ps ds (Err e) are taken done entries present layout found = found
phase_worked s middle n w after ps ds (Ok g) are taken done entries present layout found =
    let whole = same_layouts s middle n taken layout in
    record {
      words = w;
      are = are;
      with = subst (λ v. IsWith s v n) done.words (record {
        words = record { count = done.many ∙ are.count ∙ sym whole.count; packs = done.packs; entries = λ p place. sym (entries p place) };
        present = present;
        layout = whole;
      });
      found = subst (λ vs. IsGathered vs g) (gathered w ps ds done.dones) found;
    }
