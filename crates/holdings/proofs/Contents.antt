-- Words and trees as holdings: what they hold at each page, at the start, in a list, and after a change of one word.
pub mod Listing
pub mod Holders
pub mod Layouts
pub mod HeldAmong
pub mod Consistent
pub mod WordChanges
pub mod SameEntries
pub mod Accesses
pub mod Roots
pub mod FromPages
pub mod WordOrigins
