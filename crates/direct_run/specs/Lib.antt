pub mod Scope
pub mod Runs
pub mod Steps
pub mod Sums
