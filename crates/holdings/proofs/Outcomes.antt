-- What becomes of the pages of an item.
pub mod PairOutcomes
pub mod PageOutcomes
