pub mod Stream
pub mod Std
pub mod Rows
pub mod Parts
pub mod Meaning
pub mod Trace
pub mod Unread
pub mod Blocks
