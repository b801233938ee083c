-- Holdings as their callers see them, and what each phase makes of them.
use Rattle.std.specs.Prelude.{◌≡◌, true, List, Bool, [], ◌∷◌}
use Rattle.fpage.specs.declared.item.ItemKind.TheVariants.{Map}
use Rattle.std.specs.declared.vec.Vec.{Vec}
use Rattle.std.specs.declared.alloc.Global.{Global}
use Rattle.fpage.specs.declared.rights.Access.{Access}
use Rattle.fpage.specs.declared.rights.Rights.{Rights}
use Rattle.space.specs.declared.place.Place.{Place}
use Rattle.space.specs.declared.place.Entry.{Entry}
use Rattle.model.specs.Definitions.Calls.{Limits}
use Rattle.model.specs.Definitions.Grant.{renamed}
use Rattle.model.specs.Definitions.Holdings.{Held, Holdings, PlaceSet, at}
use Rattle.model.specs.Definitions.Lawful.{is_lawful}
use Rattle.model.specs.Definitions.Records.{are_limits}
use Rattle.model.specs.Definitions.Replay.{start}
use Rattle.model.specs.Definitions.Strip.{strip, strip_word}
use Rattle.model.specs.Definitions.Touch.{can_touch, touch}
use Rattle.holdings.specs.Layout.{Layout, OnlyGrows, IsLayoutOf}
use Rattle.holdings.specs.Places.{listing}
use Rattle.holdings.specs.Sending.{counts_after_flush, map_transfers, moving_of}
use Rattle.holdings.specs.declared.transfer.Transfer.{Transfer}
use Rattle.holdings.specs.declared.transfer_counts.TransferCounts.{TransferCounts}
use Rattle.holdings.specs.Meaning.{counts_of}

-- what a caller sees of all that is held
pub record Contents : Type 0 where
  -- how many spaces, bits and frames there are
  pub limits : Limits
  -- which page holds what, and from which page it came
  pub holdings : Holdings
  -- which places have a word, and at which index
  pub layout : Layout

-- what is true of all that a caller holds
pub record IsConsistent (c : Contents) : Type 0 where
  -- its limits are served
  pub served : are_limits c.limits ≡ true
  -- it is listed by rising place
  pub listed : c.holdings ≡ listing c.limits (at c.holdings)
  -- it is lawful
  pub lawful : is_lawful c.holdings ≡ true
  -- what is held has a word, which stands for no other place
  pub words : IsLayoutOf c.holdings c.layout

-- the start, before any place has a word
abbrev pub at_start : Limits → Contents
at_start limits = record { limits = limits; holdings = start limits; layout = [] }

-- the same limits and the same layout, with what a phase left
abbrev pub left_with : Contents → Holdings → Contents
left_with c h = record c { holdings = h }

-- the same, with the layout that a phase left
abbrev pub laid_out : Contents → Layout → Contents
laid_out c layout = record c { layout = layout }

-- frame, rights and status of what is held
abbrev pub entry_of : Held → Entry
entry_of m = record { frame = m.frame; rights = m.rights; status = m.status }

-- what derives from a set of pages lost rights, with a flush the pages too; the status of all was told
pub record IsStripped (old : Contents) (pages : PlaceSet) (revoked : Rights) (flush : Bool) (r : Contents × Rights) : Type 0 where
  pub left : r.0 ≡ left_with old (strip old.holdings pages revoked flush)
  pub status : r.1 ≡ strip_word old.holdings pages

-- transfers were mapped one after another, and counted
pub record AreMapped (old : Contents) (ts : List Transfer) (rights : Rights) (r : Contents × TransferCounts) : Type 0 where
  -- the limits stay; what is held and which places have a word may change
  pub left : r.0 ≡ laid_out (left_with old (map_transfers old.holdings (record { kind = Map; rights = rights; pairs = [] }) ts old.holdings)) r.0.layout
  -- words are made, and none moves
  pub grows : OnlyGrows old.layout r.0.layout
  -- how many transfers were linked, extended and lost
  pub counted : counts_of r.1 ≡ counts_after_flush old.holdings ts

-- transfers were moved all at once, and counted
pub record AreMoved (old : Contents) (ts : List Transfer) (r : Contents × TransferCounts) : Type 0 where
  -- the limits stay; what is held and which places have a word may change
  pub left : r.0 ≡ laid_out (left_with old (renamed (moving_of old.holdings ts) old.holdings)) r.0.layout
  -- words are made, and none moves
  pub grows : OnlyGrows old.layout r.0.layout
  -- how many transfers were linked and lost
  pub counted : counts_of r.1 ≡ counts_after_flush old.holdings ts

-- what accesses leave, one after another
abbrev pub touched_all : Holdings → List (Place × Access) → Holdings
touched_all h [] = h
touched_all h (a ∷ rest) = touched_all (touch h a.0 a.1) rest

-- which accesses are made, each of what those before it left
abbrev pub access_answers : Holdings → List (Place × Access) → List Bool
access_answers h [] = []
access_answers h (a ∷ rest) = can_touch h a.0 a.1 ∷ access_answers (touch h a.0 a.1) rest

-- accesses were made one after another, and answered
pub record AreAccessed (old : Contents) (accesses : List (Place × Access)) (r : Contents × Vec Bool Global) : Type 0 where
  pub left : r.0 ≡ left_with old (touched_all old.holdings accesses)
  pub answers : r.1.items ≡ access_answers old.holdings accesses
