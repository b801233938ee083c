-- New mappings: their places in the trees, and one page mapped to a place that is not held.
pub mod NewMappings
pub mod LinkedTrees
pub mod Parts
pub mod OneMore
