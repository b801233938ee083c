-- What has to be believed: what is held, what each call does to it, and what the bytes of a trace mean.
pub mod Holdings
pub mod Derived
pub mod Lawful
pub mod Touch
pub mod Strip
pub mod Recursion
pub mod Items
pub mod Map
pub mod Grant
pub mod Calls
pub mod Answers
pub mod Replay
pub mod Changes
pub mod Records
pub mod Text
