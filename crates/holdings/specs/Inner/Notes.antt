-- What the phases of a call note.
use Rattle.std.specs.Prelude.{◌≡◌, ℕ, ◌+◌, ◌<◌, ◌≤◌, ◌&&◌, ◌||◌, Bool, true, false, not, List, length, Option, Some, None, if◌then◌else◌}
use Rattle.std.specs.List.{All, list_any, slice_range}
use Rattle.std.specs.Option.{option_map_or, option_or}
use Rattle.std.specs.declared.ops.Range.{Range}
use Rattle.fpage.specs.Rights.{is_empty, meet}
use Rattle.fpage.specs.declared.item.ItemKind.{ItemKind}
use Rattle.fpage.specs.declared.item.ItemKind.TheVariants.{Map, Grant}
use Rattle.fpage.specs.declared.rights.Rights.{Rights}
use Rattle.space.specs.Place.{same_place}
use Rattle.space.specs.Shards.{entry_at}
use Rattle.space.specs.declared.place.Place.{Place}
use Rattle.space.specs.declared.shards.Shards.{Shards}
use Rattle.maptree.specs.Origins.{Origins, IsRun, place_at}
use Rattle.model.specs.Definitions.Strip.{is_narrowed}
use Rattle.model.specs.Definitions.Holdings.{Holdings, PlaceSet, at, is_held}
use Rattle.holdings.specs.NoteContents.{NoteContent}
use Rattle.holdings.specs.declared.notes.Notes.{Notes}
use Rattle.holdings.specs.declared.transfer.Transfer.{Transfer}
use Rattle.holdings.specs.Noting.{first_note}

-- where notes are asked for, such notes were added
pub record NotesAdd (IsAdded : List NoteContent → List NoteContent → Type 0) (before after : Notes) : Type 0 where
  pub asked : after.asked ≡ before.asked
  pub added : before.asked ≡ true → IsAdded before.list.items after.list.items

-- what a set says now: whether each of its pages is held
abbrev pub noted_now : Holdings → PlaceSet → Place → Option Bool
noted_now h set p = if set p then Some (is_held h p) else None

-- the pages of a set were noted behind others, as they are held
abbrev pub AreAdded : Holdings → PlaceSet → List NoteContent → List NoteContent → Type 0
AreAdded h set old new = (p : Place) → first_note new p ≡ option_or (first_note old p) (noted_now h set p)

-- ---- transfers

-- whether the pages of a transfer are noted: where its source is held, and a free target of a map always
abbrev pub has_ends : Holdings → ItemKind → Transfer → Bool
has_ends h Map t = not t.extends || is_held h t.source
has_ends h Grant t = is_held h t.source

-- whether a page is noted of a transfer: it is the target, or by a grant the source
abbrev pub is_end : Holdings → ItemKind → Place → Transfer → Bool
is_end h Map p t = has_ends h Map t && same_place p t.target
is_end h Grant p t = has_ends h Grant t && (same_place p t.target || same_place p t.source)

abbrev pub ends_of : Holdings → ItemKind → List Transfer → PlaceSet
ends_of h kind ts p = list_any (is_end h kind p) ts

-- a target is free where its transfer does not extend; where it does, it is held if the source is
abbrev pub IsEndReady : Holdings → Transfer → Type 0
IsEndReady h t = (kind : ItemKind) → has_ends h kind t ≡ true → is_held h t.target ≡ t.extends

abbrev pub AreEndsReady : Holdings → List Transfer → Type 0
AreEndsReady h ts = All (IsEndReady h) ts

-- ---- strips

-- whether a page holds one of these rights
abbrev pub loses_at : Holdings → Rights → PlaceSet
loses_at h a p = option_map_or (λ m. not (is_empty (meet m.rights a))) (at h p) false

-- of the pages that a strip narrows, those that hold one of the revoked rights were noted behind others
pub record IsStripNoted (h : Holdings) (set : PlaceSet) (revoked : Rights) (flush : Bool) (old new : List NoteContent) : Type 0 where
  pub noted : PlaceSet
  pub added : AreAdded h noted old new
  pub covers : (p : Place) → loses_at h revoked p ≡ true → is_narrowed h set flush p ≡ true → noted p ≡ true

-- the places at the positions of a range
abbrev pub in_range : Origins → ℕ → ℕ → PlaceSet
in_range os a b p = list_any (λ o. same_place p o.0) (slice_range os a b)

-- those of a set, each as held
abbrev pub all_held : PlaceSet → Place → Option Bool
all_held set p = if set p then Some true else None

-- whether what the word of a place holds has one of these rights
abbrev pub loses_in : Shards → Rights → PlaceSet
loses_in s a p = option_map_or (λ e. not (is_empty (meet e.rights a))) (entry_at s p) false

-- a place was noted behind others, if this is so
abbrev pub IsNotedIf : Bool → Place → List NoteContent → List NoteContent → Type 0
IsNotedIf lost p old new = (q : Place) → first_note new q ≡ option_or (first_note old q) (if same_place q p && lost then Some true else None)

-- the same, if it holds one of the rights
abbrev pub IsLoserNoted : Shards → Place → Rights → List NoteContent → List NoteContent → Type 0
IsLoserNoted s p a old new = IsNotedIf (loses_in s a p) p old new

-- of the places at some positions those that hold one of the rights were noted behind others
abbrev pub AreLosersNoted : Shards → Origins → ℕ → ℕ → Rights → List NoteContent → List NoteContent → Type 0
AreLosersNoted s os a b revoked old new = (q : Place) → first_note new q ≡ option_or (first_note old q) (all_held (λ r. in_range os a b r && loses_in s revoked r) q)

-- from which position of a run on its places lose rights
abbrev pub losing_from : Bool → ℕ → ℕ
losing_from true start = start
losing_from false start = start + 1

-- of the run of a place those that hold one of the rights were noted behind others, the first one with a flush alone
pub record IsRunNoted (s : Shards) (os : Origins) (p : Place) (a : Rights) (flush : Bool) (old new : List NoteContent) : Type 0 where
  pub run : Range ℕ
  pub whole : IsRun os run
  pub some : run.start < run.end
  pub within : run.end ≤ length os
  pub first : (d : Place) → place_at os run.start d ≡ p
  pub adds : AreLosersNoted s os (losing_from flush run.start) run.end a old new
