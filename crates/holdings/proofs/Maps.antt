-- The pages of a MapItem.
pub mod MapPages
pub mod MapAll
pub mod MapWords
