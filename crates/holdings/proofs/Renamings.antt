-- Pages that move.
pub mod MovedPages
pub mod MovingWords
pub mod MovingTrees
pub mod Parts
pub mod OneLink
