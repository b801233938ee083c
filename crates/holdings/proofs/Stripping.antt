-- A strip: runs, frames, and all named pages.
pub mod Walks
pub mod Sequences
pub mod Outer
pub mod Frames
pub mod HeldPages
pub mod HeldSets
pub mod LeftOfRuns
pub mod GoneRuns
