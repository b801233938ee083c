-- The steps of a piece: each is one atomic operation on one word, and what it does is fixed by the words at opening.
use Rattle.std.specs.Prelude.{ℕ, ◌*◌, ◌^◌, Bool, true, false, List, [], ◌∷◌, ◌++◌, map, slice_index, Option, Some, None, option_map, if◌then◌else◌}
use Rattle.std.specs.List.{flat_map, zip}
use Rattle.std.specs.Option.{option_and_then, option_map_or}
use Rattle.fpage.specs.Rights.{no_rights, number, meet, join, has, marks}
use Rattle.fpage.specs.declared.rights.Access.{Access}
use Rattle.fpage.specs.declared.rights.Rights.{Rights}
use Rattle.space.specs.declared.place.Entry.{Entry}
use Rattle.space.specs.Word.{word_of, entry_of}
use Rattle.space.specs.Entries.{status_of, narrowed}
use Rattle.pieces.specs.Effects.{Effect, keeps, adds, writes}
use Rattle.pieces.specs.Contents.{StripContent}
use Rattle.pieces.specs.declared.link.Store.{Store}
use Rattle.pieces.specs.declared.moving.Pair.{Pair}
use Rattle.pieces.specs.declared.touch.WordAccess.{WordAccess}
use Rattle.pieces.specs.declared.piece.Piece.{Piece}
use Rattle.pieces.specs.declared.piece.Piece.TheVariants as piece

-- narrow: the word at an index loses rights, and its status is cleared; fold: the word gains status; put: an entry, or
-- nothing, is put there; take: the word is taken; see: it is asked whether the access may be made; mark: the word gains the
-- status of an access
pub data Step : Type 0 where
  narrow : ℕ → Rights → Step
  fold : ℕ → Rights → Step
  put : ℕ → Option Entry → Step
  take : ℕ → Step
  see : ℕ → Access → Step
  mark : ℕ → Access → Step

-- what stood at an index at opening
abbrev pub entry_in : List ℕ → ℕ → Option Entry
entry_in w i = entry_of (slice_index w i)

-- what is left of an entry that loses rights and status; nothing where it is left without rights
abbrev pub narrowed_by : Rights → Option Entry → Option Entry
narrowed_by mask e = option_and_then (narrowed true mask) e

-- the status bits of a word
abbrev pub status_bits : Rights → ℕ
status_bits s = 2 ^ 3 * number s

-- what a step does to its word, by the words at opening
abbrev pub effect : List ℕ → Step → Effect
effect w (narrow i mask) = writes i (word_of (narrowed_by mask (entry_in w i)))
effect w (fold i status) = adds i (status_bits status)
effect w (put i e) = writes i (word_of e)
effect w (take i) = writes i 0
effect w (see i a) = keeps i
effect w (mark i a) = adds i (status_bits (marks a))

-- ---- strips

-- the union of the status at some indexes
abbrev pub status_in : List ℕ → List ℕ → Rights
status_in w [] = no_rights
status_in w (i ∷ is) = join (status_of (entry_in w i)) (status_in w is)

-- the fold of a strip, if it names a fold word: that word gains the status of its nodes, also where it is empty
abbrev pub fold_of : Option ℕ → Rights → List Step
fold_of None status = []
fold_of (Some i) status = fold i status ∷ []

-- one narrow for each node, then the fold
abbrev pub strip_steps : List ℕ → StripContent → List Step
strip_steps w s = map (λ e. narrow e.0 e.1) (zip s.indexes s.masks) ++ fold_of s.fold (status_in w s.indexes)

-- ---- links

-- what is linked: a new mapping of the source's frame, with those of its rights that are let through; or those rights more
-- for the mapping that is there, whose status stays
abbrev pub linked : Rights → Option Entry → Entry → Entry
linked through None source = record { frame = source.frame; rights = meet source.rights through; status = no_rights }
linked through (Some target) source = record {
  frame = source.frame;
  rights = join target.rights (meet source.rights through);
  status = target.status;
}

-- the put of a store; nothing is put where nothing is read
abbrev pub store_step : List ℕ → Store → Step
store_step w s = put s.put (option_map (linked s.rights (entry_in w s.put)) (entry_in w s.read))

-- ---- moves

-- an entry without status
abbrev pub without_status : Entry → Entry
without_status e = record e { status = no_rights }

-- the source is taken, and put at the target without its status
abbrev pub pair_steps : List ℕ → Pair → List Step
pair_steps w p = take p.taken ∷ put p.put (option_map without_status (entry_in w p.taken)) ∷ []

-- ---- touches

-- whether an access may be made: the page is held with the right
abbrev pub may_access : List ℕ → WordAccess → Bool
may_access w t = option_map_or (λ e. has e.rights t.access) (entry_in w t.index) false

-- the see of an access, and its mark if it may be made
abbrev pub access_steps : List ℕ → WordAccess → List Step
access_steps w t = if may_access w t then see t.index t.access ∷ mark t.index t.access ∷ [] else see t.index t.access ∷ []

-- ---- all pieces

-- the steps of a piece in their order, by the words at opening
abbrev pub steps : List ℕ → Piece → List Step
steps w (piece.Strip s) = strip_steps w s
steps w (piece.Link stores) = map (store_step w) stores
steps w (piece.Move pairs) = flat_map (pair_steps w) pairs
steps w (piece.Touch list) = flat_map (access_steps w) list

-- what they do
abbrev pub effects : List ℕ → Piece → List Effect
effects w p = map (effect w) (steps w p)
