-- Whole phases worked in pieces, whatever works them: what the words and trees say afterwards.
use Rattle.std.specs.Prelude.{◌≡◌, ℕ, ◌*◌, ◌≤◌, ◌++◌, ◌∷◌, Bool, true, IsFalse, List, [], length, map, filter, take, drop, None, Result, Ok, Err}
use Rattle.std.specs.List.{All, flat_map}
use Rattle.fpage.specs.declared.item.ItemKind.TheVariants.{Map}
use Rattle.fpage.specs.declared.rights.Access.{Access}
use Rattle.fpage.specs.declared.rights.Rights.{Rights}
use Rattle.space.specs.declared.place.Place.{Place}
use Rattle.space.specs.declared.shards.Shards.{Shards}
use Rattle.space.specs.Shards.{HasWord, IsPlace, is_taken}
use Rattle.maptree.specs.Origins.{Shape}
use Rattle.model.specs.Definitions.Calls.{Limits}
use Rattle.model.specs.Definitions.Grant.{renamed}
use Rattle.model.specs.Definitions.Holdings.{PlaceSet, Holdings}
use Rattle.model.specs.Definitions.Strip.{strip, strip_word}
use Rattle.pieces.specs.Applied.{worked}
use Rattle.pieces.specs.Contents.{ends_of, puts_of}
use Rattle.pieces.specs.Distinct.{are_distinct}
use Rattle.pieces.specs.Gathering.{union_of}
use Rattle.pieces.specs.Laws.{joined}
use Rattle.pieces.specs.Phases.{CanBeWorked, IsPiece}
use Rattle.pieces.specs.Values.{value}
use Rattle.pieces.specs.declared.piece.Piece.{Piece}
use Rattle.pieces.specs.declared.runs.StripPlan.{StripPlan}
use Rattle.pieces.specs.declared.piece.Piece.TheVariants as piece
use Rattle.holdings.specs.Contents.{touched_all, access_answers}
use Rattle.holdings.specs.Places.{IsWithin}
use Rattle.holdings.specs.Sending.{AllGo, AreFree, ArePlanned, AreReady, map_transfers, moving_of}
use Rattle.holdings.specs.Inner.Held.{has_entry, holdings_in, limits_in, links_in}
use Rattle.holdings.specs.Inner.Links.{AreLinked, last_target, links_of}
use Rattle.holdings.specs.Inner.Planning.{IsStripPlan, RunPlan, stores_of, strips_of_runs, word_access, word_pairs}
use Rattle.holdings.specs.Inner.Renamings.{AreRenamed}
use Rattle.holdings.specs.Inner.Sound.{AreSound}
use Rattle.holdings.specs.Inner.Stripping.{pruned}
use Rattle.holdings.specs.Inner.Words.{AreWordsOf, IsThere, IsWith}
use Rattle.holdings.specs.declared.item_batches.Passing.{Passing}
use Rattle.holdings.specs.declared.item_batches.Passing.TheVariants.{Mapped, Moved}
use Rattle.holdings.specs.declared.transfer.Transfer.{Transfer}

-- words and trees after a phase: they are sound, with the same limits, and this is what they say is held
pub record IsPhaseLeft (limits : Limits) (holdings : Holdings) (shards : Shards) (trees : List Shape) : Type 0 where
  pub left : holdings_in shards trees ≡ holdings
  pub limits_stay : limits_in shards trees ≡ limits
  pub sound : AreSound shards trees

-- pieces that have these, in this order
pub record ArePieces {A : Type 0} (make : List A → Piece) (xs : List A) (ps : List Piece) : Type 0 where
  pub parts : List (List A)
  pub are : ps ≡ map make parts
  pub joined : joined parts ≡ xs

-- pieces of the pages of an item whose source is held, in this order: stores where the pages are mapped, pairs where they
-- move
abbrev pub AreItemPieces : Passing → Shards → List Transfer → List Piece → Type 0
AreItemPieces (Mapped rights) s ts ps = ArePieces piece.Link (stores_of s rights ts) ps
AreItemPieces Moved s ts ps = ArePieces piece.Move (word_pairs s ts) ps

-- no word is put twice, or taken and put
abbrev pub AreItemsApart : Passing → Shards → List Transfer → Type 0
AreItemsApart (Mapped rights) s ts = are_distinct (puts_of (stores_of s rights ts)) ≡ true
AreItemsApart Moved s ts = are_distinct (ends_of (word_pairs s ts)) ≡ true

-- pages of an item can be planned in batches
pub record CanBeBatched (passing : Passing) (s : Shards) (ts : List Transfer) (most : ℕ) : Type 0 where
  pub present : IsFalse (is_taken s)
  pub places : All (λ t. IsPlace s t.source × IsThere s t.target) ts
  pub apart : AreItemsApart passing s ts
  pub some : 1 ≤ most

-- a batch of so many; the last may have fewer
abbrev pub batch_of : {A : Type 0} → ℕ → List A → ℕ → List A
batch_of size xs batch = take size (drop (size * batch) xs)

-- the pieces of plans that were made, one plan after another
abbrev pub all_pieces : {E : Type 0} → List (Result StripPlan E) → List Piece
all_pieces [] = []
all_pieces (Ok plan ∷ rs) = plan.pieces.items ++ all_pieces rs
all_pieces (Err e ∷ rs) = all_pieces rs

-- accesses in pieces are those accesses in list order
abbrev pub TouchesAreAccesses : Type 0
TouchesAreAccesses =
    (s : Shards) (trees : List Shape) → AreSound s trees → (w : List ℕ) → AreWordsOf s w → (ts : List (Place × Access)) → All (λ t. IsWithin (limits_in s trees) t.0) ts → All (λ t. HasWord s t.0) ts
    → (ps : List Piece) → ArePieces piece.Touch (map (word_access s) ts) ps → CanBeWorked w ps × (flat_map (λ p. (value w p).answers) ps ≡ access_answers (holdings_in s trees) ts)
    × ((new : Shards) → IsWith s (worked w ps) new → IsPhaseLeft (limits_in s trees) (touched_all (holdings_in s trees) ts) new trees)

-- a planned strip, worked: what derives from the pages lost rights, their status was found, and what each piece keeps is held;
-- and so it is with trees that have lost the places that are held no more
pub record IsSetStripped (s : Shards) (trees : List Shape) (set : PlaceSet) (revoked : Rights) (flush : Bool) (w : List ℕ) (ps : List Piece) (new : Shards) : Type 0 where
  pub left : holdings_in new trees ≡ strip (holdings_in s trees) set revoked flush
  pub status : union_of (map (λ p. (value w p).status) ps) ≡ strip_word (holdings_in s trees) set
  pub pruned_left : (left : List Shape) → length left ≡ length trees → ((g : ℕ) → links_in left g ≡ pruned new (links_in trees g))
      → IsPhaseLeft (limits_in s trees) (strip (holdings_in s trees) set revoked flush) new left

-- the pieces of the runs from which all of a set derives are the strip of the set
abbrev pub PlannedStripsAreStrips : Type 0
PlannedStripsAreStrips =
    (s : Shards) (trees : List Shape) → AreSound s trees → (set : PlaceSet) (plans : List RunPlan) → IsStripPlan s trees set plans → (revoked : Rights) (flush : Bool) (w : List ℕ) → AreWordsOf s w
    → let ss = strips_of_runs s revoked flush plans in let ps = map piece.Strip ss in
    CanBeWorked w ps
    × (All IsPiece ps → (new : Shards) → IsWith s (worked w ps) new
    → IsSetStripped s trees set revoked flush w ps new × (map (λ p. (value w p).kept) ps ≡ map (λ k. filter (λ n. has_entry new n.place) k.nodes) ss))

-- the stores of a MapItem, in pieces, are its pages mapped, where the trees have the new mappings
abbrev pub StoresAreMapped : Type 0
StoresAreMapped =
    (s : Shards) (trees : List Shape) → AreSound s trees → (rights : Rights) (ts : List Transfer) → ArePlanned (limits_in s trees) ts → AreReady (holdings_in s trees) rights ts → All (λ t. HasWord s t.target) ts → (w : List ℕ) → AreWordsOf s w
    → (ps : List Piece) → ArePieces piece.Link (stores_of s rights ts) ps → CanBeWorked w ps
    × ((ahead : List Shape) → AreLinked (links_of s ts) trees ahead → (new : Shards) → IsWith s (worked w ps) new
    → IsPhaseLeft (limits_in s trees) (map_transfers (holdings_in s trees) (record { kind = Map; rights = rights; pairs = [] }) ts (holdings_in s trees)) new ahead)

-- the pairs of a GrantItem, in pieces, are its pages moved, where the trees have the new places
abbrev pub PairsAreMoved : Type 0
PairsAreMoved =
    (s : Shards) (trees : List Shape) → AreSound s trees → (ts : List Transfer) → ArePlanned (limits_in s trees) ts → AllGo ts → AreFree (holdings_in s trees) ts → All (λ t. HasWord s t.target) ts → (w : List ℕ) → AreWordsOf s w
    → (ps : List Piece) → ArePieces piece.Move (word_pairs s ts) ps → CanBeWorked w ps
    × ((after : List Shape) → AreRenamed (λ p. last_target (links_of s ts) p None) (links_of s ts) trees after → (new : Shards) → IsWith s (worked w ps) new
    → IsPhaseLeft (limits_in s trees) (renamed (moving_of (holdings_in s trees) ts) (holdings_in s trees)) new after)
