pub mod Errors
pub mod Parts
pub mod Room
pub mod Sections
