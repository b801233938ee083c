-- Words and trees: what the contracts of inner functions cite, and proofs. No clause of a public call cites any of it; there
-- words and trees stand only in the view of `Holdings` and in its invariant, which no caller sees.
pub mod Derivation
pub mod Held
pub mod Sound
pub mod Start
pub mod Stripping
pub mod Planning
pub mod Words
pub mod Phases
pub mod StripPlans
pub mod Outcomes
pub mod Links
pub mod Renamings
pub mod OriginWords
pub mod WordOrigins
pub mod Faults
pub mod FirstFrom
pub mod NextHeld
pub mod Notes
