pub mod Definitions
pub mod Laws
pub mod Rows
