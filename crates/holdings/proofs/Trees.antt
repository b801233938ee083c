-- One tree: positions, origins, chains and runs of its places, what is noted of them, and what is left without some.
pub mod Positions
pub mod Chains
pub mod Pruning
pub mod Under
