pub mod Rights
pub mod Fpage
pub mod Item
pub mod Control
