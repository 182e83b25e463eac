pub mod Called
pub mod Coded_runs
pub mod Following
pub mod Numbered
pub mod Slotted
pub mod Walked
pub mod Worths
