pub mod Meaning
pub mod State
pub mod Noted
pub mod Held
pub mod Calls
pub mod Answered
pub mod Sending
pub mod Error
