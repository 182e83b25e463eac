pub mod Counts
pub mod Checking
pub mod Cycles
