pub mod Balances
pub mod Numbered
pub mod WorkerSums
pub mod Yields
pub mod Wholes
pub mod Crosses
pub mod Dealings
pub mod Changed
