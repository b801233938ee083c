-- What is held, as the database tells it: the terms of `holdings` that its contracts cite.
pub use Rattle.holdings.specs.Below.{held_below, IsNoneBelow, IsNextBelow}
pub use Rattle.holdings.specs.Contents.{access_answers, touched_all, entry_of}
pub use Rattle.holdings.specs.Layout.{Layout, OnlyGrows, index_in}
pub use Rattle.holdings.specs.Mappings.{mapped_of, held_from, AreAbsentFrom, IsNextHeldOf}
pub use Rattle.holdings.specs.Meaning.{limits_of}
pub use Rattle.holdings.specs.Observing.{IsPhaseOf, SayWhatIsHeld}
pub use Rattle.holdings.specs.Places.{IsWithin, from_page, pages_from, spaces_from, listed}
unfoldable pub use Rattle.holdings.specs.Places.{listing}
pub use Rattle.holdings.specs.declared.mapping.Mapping.{Mapping}
pub use Rattle.holdings.specs.NoteContents.{NoteContent}
pub use Rattle.holdings.specs.declared.notes.Notes.{Notes}
pub use Rattle.mapdb.specs.Noted.{noted_places, NotesTell}
