-- Words that are taken, worked and put back, where pieces find nothing out.
use Rattle.std.proofs.Common.{◌≡◌, ℕ, List, [], ◌∷◌, length, slice_index, refl, sym, ◌∙◌, subst, arith}
use Rattle.std.specs.Prelude.{IsFalse}
use Rattle.space.specs.declared.place.Place.{Place}
use Rattle.space.specs.declared.shards.Shards.{Shards}
use Rattle.space.specs.Word.{entry_of}
use Rattle.space.specs.Shards.{IsPlace, IsLaidOutAs, index_of, entry_at, is_taken}
use Rattle.pieces.specs.Dones.{DoneContent}
use Rattle.pieces.specs.declared.piece.Piece.{Piece}
use Rattle.pieces.proofs.AllSteps.{worked_all, words_none}
use Rattle.crew.specs.Worked.{IsWorked}
use Rattle.holdings.specs.Inner.Words.{AreWordsOf, IsWith, IsWritten}
use Rattle.holdings.proofs.Phases.Words.{own_words}
use Rattle.holdings.proofs.Stripping.Walks.{same_layouts}

pub phase_written : (s middle n : Shards) (w after : List ℕ) (ps : List Piece) (ds : List DoneContent) → AreWordsOf s w → IsLaidOutAs s middle → IsWorked w ps after ds
    → ((p : Place) → IsPlace n p → entry_at n p ≡ entry_of (slice_index after (index_of n p))) → IsFalse (is_taken n) → IsLaidOutAs middle n → IsWritten s n ps
phase_written s middle n w after ps ds are taken done entries present layout =
    let whole = same_layouts s middle n taken layout in
    record {
      words = w;
      are = are;
      with = subst (λ v. IsWith s v n) done.words (record {
        words = record { count = done.many ∙ are.count ∙ sym whole.count; packs = done.packs; entries = λ p place. sym (entries p place) };
        present = present;
        layout = whole;
      });
    }

-- a list of no length is empty
pub nothing : {A : Type 0} (xs : List A) → length xs ≡ 0 → xs ≡ []
nothing [] none = refl
nothing (x ∷ xs) none = absurd (omega (arith, none))

-- no pieces write nothing
pub none_written : (s : Shards) → IsFalse (is_taken s) → IsWritten s s []
none_written s present =
    let own = own_words s present in
    record {
      words = own.0;
      are = own.1;
      with = record {
        words = subst (AreWordsOf s) (sym (worked_all own.0 [] ∙ words_none 0 own.0)) own.1;
        present = present;
        layout = record { spaces = refl; bits = refl; count = refl; index = λ p. refl };
      };
    }
