pub mod Tree
pub mod Show
