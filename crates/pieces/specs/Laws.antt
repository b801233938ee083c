-- What is so of all pieces that are worked.
use Rattle.std.specs.Prelude.{◌≡◌, ℕ, ◌<◌, ◌≤◌, Bool, true, false, List, [], ◌∷◌, ◌++◌, length, map, Option, None, slice_index, slice_get, Some, bit_or}
use Rattle.std.specs.List.{All, AllPass, flat_map, list_all, list_any}
use Rattle.pieces.specs.Effects.{Effect, writes, gained, word_after, words_after, writes_at, adds_at}
use Rattle.pieces.specs.Contents.{StripContent, IsStrip, puts_of, ends_of}
use Rattle.pieces.specs.Distinct.{is_none_of, are_distinct}
use Rattle.pieces.specs.Phases.{IsPiece, changes, held, is_link, CanBeWorked}
use Rattle.space.specs.Word.{is_pack}
use Rattle.pieces.specs.Steps.{may_access, status_in, effects}
use Rattle.pieces.specs.Applied.{applied, step_counts, worked}
use Rattle.pieces.specs.Values.{value, kept_nodes}
use Rattle.pieces.specs.Dones.{DoneContent, IsDone}
use Rattle.pieces.specs.Gathering.{fault_in, all_found, union_of}
use Rattle.pieces.specs.declared.link.Store.{Store}
use Rattle.pieces.specs.declared.moving.Pair.{Pair}
use Rattle.pieces.specs.declared.touch.WordAccess.{WordAccess}
use Rattle.pieces.specs.declared.piece.Piece.{Piece}
use Rattle.pieces.specs.declared.piece.Piece.TheVariants as piece

-- ---- words

-- there are as many words after steps as before
abbrev pub WordsAreAsMany : Type 0
WordsAreAsMany = (w : List ℕ) (es : List Effect) → length (words_after w es) ≡ length w

-- each is what the steps make of it
abbrev pub EachWordAfter : Type 0
EachWordAfter = (w : List ℕ) (es : List Effect) (i : ℕ) → i < length w → slice_index (words_after w es) i ≡ word_after (slice_index w i) i es

-- with no step counted, the words are those at opening
abbrev pub NothingDone : Type 0
NothingDone = (w : List ℕ) (ps : List Piece) → applied w ps (λ p. 0) ≡ w

-- worked are the words with all steps of all pieces done
abbrev pub WorkedIsAllSteps : Type 0
WorkedIsAllSteps = (w : List ℕ) (ps : List Piece) → worked w ps ≡ words_after w (flat_map (effects w) ps)

-- so are they where each piece has no more steps than are counted for it
abbrev pub FullCountsAreWorked : Type 0
FullCountsAreWorked =
    (w : List ℕ) (ps : List Piece) (counts : ℕ → ℕ) → ((p : ℕ) → p < length ps → slice_index (step_counts w ps) p ≤ counts p) → applied w ps counts ≡ worked w ps

-- ---- steps apart

-- where no two steps write at one index, a word is what the step wrote that did
abbrev pub OneWriterDecides : Type 0
OneWriterDecides =
    (es : List Effect) → are_distinct (writes_at es) ≡ true → (k i word before : ℕ) → slice_get es k ≡ Some (writes i word) → word_after before i es ≡ word

-- where none writes, it gains the bits of those that add
abbrev pub NoWriterAdds : Type 0
NoWriterAdds = (es : List Effect) (i before : ℕ) → is_none_of (writes_at es) i ≡ true → word_after before i es ≡ bit_or before (gained i es)

-- the steps of pieces write exactly at the indexes that these narrow, put or take
abbrev pub StepsWriteWhatChanges : Type 0
StepsWriteWhatChanges = (w : List ℕ) (ps : List Piece) → All IsPiece ps → writes_at (flat_map (effects w) ps) ≡ flat_map changes ps

-- of pieces that can be worked beside one another no two steps write at one index, and none adds bits where one writes
abbrev pub StepsAreApart : Type 0
StepsAreApart =
    (w : List ℕ) (ps : List Piece) → All IsPiece ps → CanBeWorked w ps → let es = flat_map (effects w) ps in
    (are_distinct (writes_at es) ≡ true) × (list_all (is_none_of (writes_at es)) (adds_at es) ≡ true)

-- ---- one after another

-- of steps of which no two write at one index, and none adds bits where one writes, some may be done before the others
abbrev pub StepsOneAfterAnother : Type 0
StepsOneAfterAnother =
    (w : List ℕ) (es fs : List Effect) → are_distinct (writes_at (es ++ fs)) ≡ true → list_all (is_none_of (writes_at (es ++ fs))) (adds_at (es ++ fs)) ≡ true
    → words_after w (es ++ fs) ≡ words_after (words_after w es) fs

-- what pieces that can be worked make of words are words again that stand for entries
abbrev pub WorkedArePacks : Type 0
WorkedArePacks = (w : List ℕ) (ps : List Piece) → All IsPiece ps → CanBeWorked w ps → AllPass is_pack (worked w ps)

-- whether some pieces change no word at which others need a page: the fold words, and those that are read or taken
abbrev pub spare_held : List Piece → List Piece → Bool
spare_held ps qs = list_all (is_none_of (flat_map changes ps)) (flat_map held qs)

-- so it is of pieces that can be worked beside one another, but for links: a store may read what another piece changes
abbrev pub HeldAreSpared : Type 0
HeldAreSpared = (w : List ℕ) (ps qs : List Piece) → CanBeWorked w (ps ++ qs) → list_any is_link qs ≡ false → spare_held ps qs ≡ true

-- then the others do the same after the first as beside them
abbrev pub WorkedOneAfterAnother : Type 0
WorkedOneAfterAnother =
    (w : List ℕ) (ps qs : List Piece) → All IsPiece (ps ++ qs) → CanBeWorked w (ps ++ qs) → spare_held ps qs ≡ true → worked w (ps ++ qs) ≡ worked (worked w ps) qs

-- they can still be worked
abbrev pub OthersCanBeWorked : Type 0
OthersCanBeWorked =
    (w : List ℕ) (ps qs : List Piece) → All IsPiece (ps ++ qs) → CanBeWorked w (ps ++ qs) → spare_held ps qs ≡ true → CanBeWorked (worked w ps) qs

-- and, whatever they read, they find the same out
abbrev pub OthersFindTheSame : Type 0
OthersFindTheSame = (w : List ℕ) (ps qs : List Piece) → All IsPiece (ps ++ qs) → CanBeWorked w (ps ++ qs) → map (value (worked w ps)) qs ≡ map (value w) qs

-- ---- the length of pieces

-- some lists, one behind another
abbrev pub joined : {A : Type 0} → List (List A) → List A
joined parts = flat_map (λ part. part) parts

-- accesses in pieces do to words what they do in one
abbrev pub TouchesInPieces : Type 0
TouchesInPieces =
    (w : List ℕ) (parts : List (List WordAccess)) → let ps = map piece.Touch parts in
    (worked w ps ≡ worked w (piece.Touch (joined parts) ∷ [])) × (flat_map (λ p. (value w p).answers) ps ≡ (value w (piece.Touch (joined parts))).answers)

-- and so do stores
abbrev pub LinksInPieces : Type 0
LinksInPieces = (w : List ℕ) (parts : List (List Store)) → worked w (map piece.Link parts) ≡ worked w (piece.Link (joined parts) ∷ [])

-- and pairs
abbrev pub MovesInPieces : Type 0
MovesInPieces = (w : List ℕ) (parts : List (List Pair)) → worked w (map piece.Move parts) ≡ worked w (piece.Move (joined parts) ∷ [])

-- stores in pieces put where the list does, and read where it does
abbrev pub LinksInPiecesChange : Type 0
LinksInPiecesChange =
    (parts : List (List Store)) → let ps = map piece.Link parts in
    (flat_map changes ps ≡ puts_of (joined parts)) × (flat_map held ps ≡ map (λ s. s.read) (joined parts))

-- pairs in pieces take and put where the list does
abbrev pub MovesInPiecesChange : Type 0
MovesInPiecesChange =
    (parts : List (List Pair)) → let ps = map piece.Move parts in
    (flat_map changes ps ≡ ends_of (joined parts)) × (flat_map held ps ≡ map (λ p. p.taken) (joined parts))

-- ---- accesses

-- the words after one access that is made alone
abbrev pub accessed : List ℕ → WordAccess → List ℕ
accessed w t = worked w (piece.Touch (t ∷ []) ∷ [])

-- the words after accesses one after another, each made of the words that those before it left
abbrev pub accessed_in_order : List ℕ → List WordAccess → List ℕ
accessed_in_order w [] = w
accessed_in_order w (t ∷ ts) = accessed_in_order (accessed w t) ts

-- what they answer
abbrev pub answers_in_order : List ℕ → List WordAccess → List Bool
answers_in_order w [] = []
answers_in_order w (t ∷ ts) = may_access w t ∷ answers_in_order (accessed w t) ts

-- in whatever order the steps of a touch are done, words and answers are those of its accesses one after another
abbrev pub AccessesInListOrder : Type 0
AccessesInListOrder =
    (w : List ℕ) → AllPass is_pack w → (ts : List WordAccess)
    → (worked w (piece.Touch ts ∷ []) ≡ accessed_in_order w ts) × ((value w (piece.Touch ts)).answers ≡ answers_in_order w ts)

-- ---- strips

-- all nodes of some strips, with their masks and the indexes of their words
abbrev pub joined_strips : List StripContent → StripContent
joined_strips ss = record { nodes = flat_map (λ s. s.nodes) ss; masks = flat_map (λ s. s.masks) ss; indexes = flat_map (λ s. s.indexes) ss; fold = None }

-- what strips find out and keep is what one strip of all their nodes does
abbrev pub StripsJoin : Type 0
StripsJoin =
    (w : List ℕ) (ss : List StripContent) → All IsStrip ss
    → (union_of (map (λ s. (value w (piece.Strip s)).status) ss) ≡ status_in w (joined_strips ss).indexes)
    × (flat_map (λ s. (value w (piece.Strip s)).kept) ss ≡ kept_nodes w (joined_strips ss))

-- strips whose status goes to one fold word, or to none, work as one strip of all their nodes
abbrev pub StripsInPieces : Type 0
StripsInPieces =
    (w : List ℕ) (fold : Option ℕ) (ss : List StripContent) → All IsStrip ss → All (λ s. s.fold ≡ fold) ss
    → worked w (map piece.Strip ss) ≡ worked w (piece.Strip (record (joined_strips ss) { fold = fold }) ∷ [])

-- ---- results

-- results of these pieces and of these words at opening, each with the number of its piece
pub record AreDone (w : List ℕ) (ps : List Piece) (ds : List DoneContent) : Type 0 where
  -- each number comes once, and no other
  pub once : fault_in (length ps) ds ≡ None
  pub words : All (λ d. d.words ≡ w) ds
  pub of : All (λ d. slice_get ps d.number ≡ Some d.of) ds
  pub values : All IsDone ds

-- what is gathered of them are the values of the pieces, in their order
abbrev pub GatheredAreValues : Type 0
GatheredAreValues = (w : List ℕ) (ps : List Piece) (ds : List DoneContent) → AreDone w ps ds → all_found (length ps) ds ≡ map (value w) ps
