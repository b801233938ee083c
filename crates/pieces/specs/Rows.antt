-- Worked rows: what steps make of words, worked out by hand. A word is bit 32, the frame from bit 8 on, status R, W, X as 20, 10, 8
-- and rights r, w, x as 4, 2, 1, in hexadecimal.
use Rattle.std.specs.Prelude.{Bool, ◌≡◌, ℕ, true, false, List, [], ◌∷◌, ◌++◌, map, slice_index, Some, None}
use Rattle.fpage.specs.Rights.{no_rights, all_rights}
use Rattle.fpage.specs.declared.rights.Access.TheVariants.{Read, Write, Execute}
use Rattle.fpage.specs.declared.rights.Rights.{Rights}
use Rattle.space.specs.declared.place.Entry.{Entry}
use Rattle.space.specs.declared.node.Node.{Node}
use Rattle.pieces.specs.Effects.{keeps, adds, writes, words_after}
use Rattle.pieces.specs.Steps.{narrow, fold, put, take, see, mark, steps}
use Rattle.pieces.specs.Applied.{applied, step_counts, worked, before, after}
use Rattle.pieces.specs.Distinct.{are_distinct}
use Rattle.pieces.specs.Contents.{is_fold_apart}
use Rattle.pieces.specs.Masks.{masks_of}
use Rattle.pieces.specs.Phases.{changes, folds, held, named, is_link, are_alike}
use Rattle.pieces.specs.Dones.{DoneContent}
use Rattle.pieces.specs.Gathering.{fault_in, all_found, union_of}
use Rattle.pieces.specs.Laws.{spare_held}
use Rattle.pieces.specs.declared.gathering.GatherFault.TheVariants.{Stranger, Twice, Missing}
use Rattle.pieces.specs.Values.{value, no_value}
use Rattle.pieces.specs.declared.piece.Piece.{Piece}
use Rattle.pieces.specs.declared.piece.Piece.TheVariants as piece

-- ---- how rows are written

-- a node of a tree
abbrev pub node : ℕ → ℕ → ℕ → Node
node space page depth = record { place = record { space = space; page = page }; depth = depth }

-- some rights
abbrev pub r : Rights
r = record { read = true; write = false; execute = false }

abbrev pub w : Rights
w = record { read = false; write = true; execute = false }

abbrev pub x : Rights
x = record { read = false; write = false; execute = true }

abbrev pub rw : Rights
rw = record { read = true; write = true; execute = false }

-- what is held of frame 5
abbrev pub of_frame_5 : Rights → Rights → Entry
of_frame_5 rights status = record { frame = 5; rights = rights; status = status }

-- so many steps of piece 0
abbrev pub first : ℕ → ℕ → ℕ
first n = slice_index (n ∷ [])

-- so many of pieces 0 and 1
abbrev pub both : ℕ → ℕ → ℕ → ℕ
both m n = slice_index (m ∷ n ∷ [])

-- ---- strips

-- three words of frame 5
abbrev pub three_words : List ℕ
three_words = 0x100000507 ∷ 0x100000527 ∷ 0x100000537 ∷ []

-- a strip of word 1 of no right, and one of word 2 of w, both with word 0 as their fold word
abbrev pub two_strips : List Piece
two_strips =
    piece.Strip (record { nodes = node 1 0 1 ∷ []; masks = no_rights ∷ []; indexes = 1 ∷ []; fold = Some 0 })
    ∷ piece.Strip (record { nodes = node 2 0 1 ∷ []; masks = w ∷ []; indexes = 2 ∷ []; fold = Some 0 }) ∷ []

-- each narrows a word, then adds the status that was found there to the fold word
abbrev pub StepsOfTwoStrips : Type 0
StepsOfTwoStrips =
    map (steps three_words) two_strips
    ≡ (narrow 1 no_rights ∷ fold 0 r ∷ []) ∷ (narrow 2 w ∷ fold 0 rw ∷ []) ∷ []

-- the words with so many steps of each
abbrev pub strips_applied : ℕ → ℕ → List ℕ
strips_applied m n = applied three_words two_strips (both m n)

-- all pairs of counts
abbrev pub StripsByStep : Type 0
StripsByStep =
    (strips_applied 0 0 ≡ 0x100000507 ∷ 0x100000527 ∷ 0x100000537 ∷ [])
    × (strips_applied 0 1 ≡ 0x100000507 ∷ 0x100000527 ∷ 0x100000505 ∷ [])
    × (strips_applied 0 2 ≡ 0x100000537 ∷ 0x100000527 ∷ 0x100000505 ∷ [])
    × (strips_applied 1 0 ≡ 0x100000507 ∷ 0x100000507 ∷ 0x100000537 ∷ [])
    × (strips_applied 1 1 ≡ 0x100000507 ∷ 0x100000507 ∷ 0x100000505 ∷ [])
    × (strips_applied 1 2 ≡ 0x100000537 ∷ 0x100000507 ∷ 0x100000505 ∷ [])
    × (strips_applied 2 0 ≡ 0x100000527 ∷ 0x100000507 ∷ 0x100000537 ∷ [])
    × (strips_applied 2 1 ≡ 0x100000527 ∷ 0x100000507 ∷ 0x100000505 ∷ [])
    × (strips_applied 2 2 ≡ 0x100000537 ∷ 0x100000507 ∷ 0x100000505 ∷ [])

-- all steps are two of each
abbrev pub StripsWorked : Type 0
StripsWorked =
    (step_counts three_words two_strips ≡ 2 ∷ 2 ∷ [])
    × (worked three_words two_strips ≡ 0x100000537 ∷ 0x100000507 ∷ 0x100000505 ∷ [])

-- each keeps its node and found its status
abbrev pub ValuesOfTwoStrips : Type 0
ValuesOfTwoStrips =
    map (value three_words) two_strips
    ≡ record { kept = node 1 0 1 ∷ []; status = r; answers = [] }
    ∷ record { kept = node 2 0 1 ∷ []; status = rw; answers = [] } ∷ []

-- frame and rights before and after: status is no part of them
abbrev pub BeforeAndAfterTwoStrips : Type 0
BeforeAndAfterTwoStrips =
    (map (before three_words) (0 ∷ 1 ∷ 2 ∷ []) ≡ Some (5, all_rights) ∷ Some (5, all_rights) ∷ Some (5, all_rights) ∷ [])
    × (map (after three_words two_strips) (0 ∷ 1 ∷ 2 ∷ [])
    ≡ Some (5, all_rights) ∷ Some (5, all_rights) ∷ Some (5, record { read = true; write = false; execute = true }) ∷ [])

-- the words of 0:5, 1:0, 2:0 and 1:3, each derived from the one before; all rights, no status
abbrev pub chain_words : List ℕ
chain_words = 0x100000507 ∷ 0x100000507 ∷ 0x100000507 ∷ 0x100000507 ∷ []

-- w is revoked from what derives from 0:5, two nodes a piece: 0:5 itself keeps it, and as a root it has no fold word
abbrev pub UnmapOfARoot : Type 0
UnmapOfARoot =
    let pieces : List Piece =
    piece.Strip (record { nodes = node 0 5 0 ∷ node 1 0 1 ∷ []; masks = no_rights ∷ w ∷ []; indexes = 0 ∷ 1 ∷ []; fold = None })
    ∷ piece.Strip (record { nodes = node 2 0 2 ∷ node 1 3 3 ∷ []; masks = w ∷ w ∷ []; indexes = 2 ∷ 3 ∷ []; fold = None }) ∷ [] in
    (worked chain_words pieces ≡ 0x100000507 ∷ 0x100000505 ∷ 0x100000505 ∷ 0x100000505 ∷ [])
    × (map (value chain_words) pieces
    ≡ record { kept = node 0 5 0 ∷ node 1 0 1 ∷ []; status = no_rights; answers = [] }
    ∷ record { kept = node 2 0 2 ∷ node 1 3 3 ∷ []; status = no_rights; answers = [] } ∷ [])

-- in its place w is revoked from what derives from the pages of space 1, 1:0 and 1:3: their run begins at 1:0, whose origin's
-- word is word 0. The word of 2:0 has status W
abbrev pub UnmapOfANestedPage : Type 0
UnmapOfANestedPage =
    let words : List ℕ = 0x100000507 ∷ 0x100000507 ∷ 0x100000517 ∷ 0x100000507 ∷ [] in
    let pieces : List Piece =
    piece.Strip (record { nodes = node 1 0 1 ∷ node 2 0 2 ∷ []; masks = no_rights ∷ w ∷ []; indexes = 1 ∷ 2 ∷ []; fold = Some 0 })
    ∷ piece.Strip (record { nodes = node 1 3 3 ∷ []; masks = w ∷ []; indexes = 3 ∷ []; fold = Some 0 }) ∷ [] in
    (worked words pieces ≡ 0x100000517 ∷ 0x100000507 ∷ 0x100000505 ∷ 0x100000505 ∷ [])
    × (map (value words) pieces
    ≡ record { kept = node 1 0 1 ∷ node 2 0 2 ∷ []; status = w; answers = [] }
    ∷ record { kept = node 1 3 3 ∷ []; status = no_rights; answers = [] } ∷ [])

-- nodes that lose their last right are not kept, and their words are 0; so with a page that is absent. Their status counts
abbrev pub NodesLeftWithoutRights : Type 0
NodesLeftWithoutRights =
    let words : List ℕ = 0x100fff507 ∷ 0x100fff52c ∷ 0 ∷ 0x100fff516 ∷ [] in
    let strip : Piece =
    piece.Strip (record {
      nodes = node 1 0 1 ∷ node 2 0 2 ∷ node 3 0 2 ∷ [];
      masks = r ∷ all_rights ∷ r ∷ [];
      indexes = 1 ∷ 2 ∷ 3 ∷ [];
      fold = Some 0;
    }) in
    (worked words (strip ∷ []) ≡ 0x100fff53f ∷ 0 ∷ 0 ∷ 0x100fff502 ∷ [])
    × (value words strip ≡ record { kept = node 3 0 2 ∷ []; status = all_rights; answers = [] })

-- a fold is a step also where no status was found
abbrev pub FoldOfNoStatus : Type 0
FoldOfNoStatus =
    let words : List ℕ = 0x10000050f ∷ 0x100000507 ∷ [] in
    let strip : Piece = piece.Strip (record { nodes = node 1 0 1 ∷ []; masks = x ∷ []; indexes = 1 ∷ []; fold = Some 0 }) in
    (steps words strip ≡ narrow 1 x ∷ fold 0 no_rights ∷ [])
    × (applied words (strip ∷ []) (first 1) ≡ 0x10000050f ∷ 0x100000506 ∷ [])
    × (applied words (strip ∷ []) (first 2) ≡ 0x10000050f ∷ 0x100000506 ∷ [])

-- ---- touches

-- a read and an execute of a page with r and w: the second is a fault
abbrev pub TouchByStep : Type 0
TouchByStep =
    let words : List ℕ = 0x100000506 ∷ [] in
    let touch : Piece = piece.Touch (record { index = 0; access = Read } ∷ record { index = 0; access = Execute } ∷ []) in
    (steps words touch ≡ see 0 Read ∷ mark 0 Read ∷ see 0 Execute ∷ [])
    × (applied words (touch ∷ []) (first 1) ≡ 0x100000506 ∷ [])
    × (applied words (touch ∷ []) (first 2) ≡ 0x100000526 ∷ [])
    × (applied words (touch ∷ []) (first 3) ≡ 0x100000526 ∷ [])
    × (value words touch ≡ record { kept = []; status = no_rights; answers = true ∷ false ∷ [] })

-- what three pieces leave at one page adds up, in any order; a write of an absent page is a fault
abbrev pub TouchesAddUp : Type 0
TouchesAddUp =
    let words : List ℕ = 0x100000507 ∷ 0 ∷ [] in
    let pieces : List Piece =
    piece.Touch (record { index = 0; access = Execute } ∷ [])
    ∷ piece.Touch (record { index = 1; access = Write } ∷ [])
    ∷ piece.Touch (record { index = 0; access = Write } ∷ []) ∷ [] in
    (step_counts words pieces ≡ 2 ∷ 1 ∷ 2 ∷ [])
    × (applied words pieces (slice_index (1 ∷ 1 ∷ 2 ∷ [])) ≡ 0x100000537 ∷ 0 ∷ [])
    × (applied words pieces (slice_index (2 ∷ 0 ∷ 1 ∷ [])) ≡ 0x10000052f ∷ 0 ∷ [])
    × (worked words pieces ≡ 0x10000053f ∷ 0 ∷ [])
    × (map (λ p. (value words p).answers) pieces ≡ (true ∷ []) ∷ (false ∷ []) ∷ (true ∷ []) ∷ [])

-- ---- moves

-- one page is moved: first it is nowhere, then it is at its target
abbrev pub MoveByStep : Type 0
MoveByStep =
    let words : List ℕ = 0x100000504 ∷ 0 ∷ [] in
    let move : Piece = piece.Move (record { taken = 0; put = 1 } ∷ []) in
    (steps words move ≡ take 0 ∷ put 1 (Some (of_frame_5 r no_rights)) ∷ [])
    × (applied words (move ∷ []) (first 1) ≡ 0 ∷ 0 ∷ [])
    × (applied words (move ∷ []) (first 2) ≡ 0 ∷ 0x100000504 ∷ [])

-- two are moved, and lose their status
abbrev pub MovesClearStatus : Type 0
MovesClearStatus =
    let words : List ℕ = 0x100000536 ∷ 0 ∷ 0x10000090c ∷ 0 ∷ [] in
    let move : Piece = piece.Move (record { taken = 0; put = 3 } ∷ record { taken = 2; put = 1 } ∷ []) in
    (applied words (move ∷ []) (first 3) ≡ 0 ∷ 0 ∷ 0 ∷ 0x100000506 ∷ [])
    × (worked words (move ∷ []) ≡ 0 ∷ 0x100000904 ∷ 0 ∷ 0x100000506 ∷ [])
    × (value words move ≡ record { kept = []; status = no_rights; answers = [] })

-- ---- links

-- a target that is held gains the right that is let through, and keeps its status
abbrev pub LinkWidens : Type 0
LinkWidens =
    let words : List ℕ = 0x100000507 ∷ 0x100000526 ∷ [] in
    let link : Piece = piece.Link (record { read = 0; put = 1; rights = x } ∷ []) in
    (steps words link ≡ put 1 (Some (of_frame_5 all_rights r)) ∷ [])
    × (worked words (link ∷ []) ≡ 0x100000507 ∷ 0x100000527 ∷ [])
    × (value words link ≡ record { kept = []; status = no_rights; answers = [] })

-- a new mapping has those of the source's rights that are let through, and no status. Two stores read one word, and one reads
-- what another of them puts: as it was at opening
abbrev pub LinksReadWordsAtOpening : Type 0
LinksReadWordsAtOpening =
    let words : List ℕ = 0x100000926 ∷ 0 ∷ 0x100000505 ∷ 0 ∷ [] in
    let pieces : List Piece =
    piece.Link (record { read = 0; put = 1; rights = record { read = false; write = true; execute = true } } ∷ record { read = 0; put = 2; rights = w } ∷ [])
    ∷ piece.Link (record { read = 2; put = 3; rights = all_rights } ∷ []) ∷ [] in
    (applied words pieces (both 1 0) ≡ 0x100000926 ∷ 0x100000902 ∷ 0x100000505 ∷ 0 ∷ [])
    × (applied words pieces (both 0 1) ≡ 0x100000926 ∷ 0 ∷ 0x100000505 ∷ 0x100000505 ∷ [])
    × (worked words pieces ≡ 0x100000926 ∷ 0x100000902 ∷ 0x100000907 ∷ 0x100000505 ∷ [])

-- one after another they do the same only where the second reads nothing that the first puts
abbrev pub LinksOneAfterAnother : Type 0
LinksOneAfterAnother =
    let words : List ℕ = 0x100000926 ∷ 0 ∷ 0x100000505 ∷ 0 ∷ [] in
    let one : List Piece =
    piece.Link (record { read = 0; put = 1; rights = record { read = false; write = true; execute = true } } ∷ record { read = 0; put = 2; rights = w } ∷ []) ∷ [] in
    let other : List Piece = piece.Link (record { read = 2; put = 3; rights = all_rights } ∷ []) ∷ [] in
    (spare_held other one ≡ true)
    × (worked (worked words other) one ≡ 0x100000926 ∷ 0x100000902 ∷ 0x100000907 ∷ 0x100000505 ∷ [])
    × (spare_held one other ≡ false)
    × (worked (worked words one) other ≡ 0x100000926 ∷ 0x100000902 ∷ 0x100000907 ∷ 0x100000907 ∷ [])

-- ---- what is left open to no caller

-- nothing is put where nothing is read or taken; and where a step writes a word, no added bits stand beside it
abbrev pub NothingMadeOfNothing : Type 0
NothingMadeOfNothing =
    let words : List ℕ = 0 ∷ 0x100000507 ∷ [] in
    (worked words (piece.Link (record { read = 0; put = 1; rights = r } ∷ []) ∷ []) ≡ 0 ∷ 0 ∷ [])
    × (worked words (piece.Move (record { taken = 0; put = 1 } ∷ []) ∷ []) ≡ 0 ∷ 0 ∷ [])
    × (words_after (0x100000507 ∷ []) (adds 0 8 ∷ writes 0 0x100000504 ∷ keeps 0 ∷ adds 0 16 ∷ []) ≡ 0x100000504 ∷ [])

-- ---- masks, pieces beside one another, results

-- w is revoked from a run of three nodes: the first keeps it where it is spared
abbrev pub MasksOfARun : Type 0
MasksOfARun =
    (masks_of true w 3 ≡ no_rights ∷ w ∷ w ∷ []) × (masks_of false w 3 ≡ w ∷ w ∷ w ∷ []) × (masks_of true w 1 ≡ no_rights ∷ []) × (masks_of true w 0 ≡ [])

-- the indexes of one piece of each kind: those that it changes, its fold word, those where a page must be held, and all; and
-- whether they are all touches, or none is
abbrev pub IndexesOfPieces : Type 0
IndexesOfPieces =
    let others : List Piece =
    piece.Strip (record { nodes = node 1 0 1 ∷ node 2 0 2 ∷ []; masks = w ∷ w ∷ []; indexes = 4 ∷ 7 ∷ []; fold = Some 5 })
    ∷ piece.Link (record { read = 5; put = 8; rights = w } ∷ [])
    ∷ piece.Move (record { taken = 1; put = 2 } ∷ []) ∷ [] in
    let touch : List Piece = piece.Touch (record { index = 3; access = Read } ∷ []) ∷ [] in
    (map changes (others ++ touch) ≡ (4 ∷ 7 ∷ []) ∷ (8 ∷ []) ∷ (1 ∷ 2 ∷ []) ∷ [] ∷ [])
    × (map folds (others ++ touch) ≡ (5 ∷ []) ∷ [] ∷ [] ∷ [] ∷ [])
    × (map held (others ++ touch) ≡ (5 ∷ []) ∷ (5 ∷ []) ∷ (1 ∷ []) ∷ [] ∷ [])
    × (map named (others ++ touch) ≡ (4 ∷ 7 ∷ 5 ∷ []) ∷ (5 ∷ 8 ∷ []) ∷ (1 ∷ 2 ∷ []) ∷ (3 ∷ []) ∷ [])
    × (map is_link (others ++ touch) ≡ false ∷ true ∷ false ∷ false ∷ [])
    × (are_alike (others ++ touch) ≡ false)
    × (are_alike others ≡ true)
    × (are_alike touch ≡ true)
    × (are_alike [] ≡ true)

-- a result of this number that answers this
abbrev pub answered : ℕ → List Bool → DoneContent
answered number answers = record { number = number; found = record no_value { answers = answers }; of = piece.Touch []; words = [] }

-- why nothing is gathered, the first that fits, and what is gathered of three
abbrev pub ResultsInOrder : Type 0
ResultsInOrder =
    (fault_in 2 (answered 0 [] ∷ answered 2 [] ∷ []) ≡ Some Stranger)
    × (fault_in 3 (answered 0 [] ∷ answered 0 [] ∷ []) ≡ Some Twice)
    × (fault_in 2 (answered 0 [] ∷ []) ≡ Some Missing)
    × (fault_in 2 (answered 2 [] ∷ answered 2 [] ∷ []) ≡ Some Stranger)
    × (fault_in 0 [] ≡ None)
    × (fault_in 3 (answered 2 [] ∷ answered 0 [] ∷ answered 1 [] ∷ []) ≡ None)
    × (map (λ v. v.answers) (all_found 3 (answered 2 (true ∷ []) ∷ answered 0 (false ∷ []) ∷ answered 1 [] ∷ [])) ≡ (false ∷ []) ∷ [] ∷ (true ∷ []) ∷ [])
    × (union_of (r ∷ no_rights ∷ x ∷ []) ≡ record { read = true; write = false; execute = true })

-- which lists have a number twice
abbrev pub DistinctNumbers : Type 0
DistinctNumbers = (are_distinct (7 ∷ 0 ∷ 3 ∷ []) ≡ true) × (are_distinct (7 ∷ 0 ∷ 7 ∷ []) ≡ false) × (are_distinct (3 ∷ 7 ∷ 7 ∷ []) ≡ false) × (is_fold_apart (Some 7) (7 ∷ []) ≡ false) × (is_fold_apart None (7 ∷ []) ≡ true)
