pub mod Worked
pub mod Hands
pub mod Crews
pub mod Changes
