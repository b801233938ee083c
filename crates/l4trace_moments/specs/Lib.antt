pub mod Moment
pub mod History
