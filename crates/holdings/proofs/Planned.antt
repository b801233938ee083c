-- The strip of a set of pages, planned: the runs of its pages frame by frame, their parts, and the trees afterwards.
pub mod Parts
pub mod Runs
pub mod Groups
pub mod Cuts
pub mod AllKept
pub mod Apart
pub mod Plan
pub mod Outermost
pub mod Trees
pub mod StripPhase
pub mod Observed
pub mod PrunedTrees
pub mod NoneKept
