pub mod Error
pub mod Run
pub mod Steps
pub mod Options
