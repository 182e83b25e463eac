pub mod Names
pub mod Sound
pub mod Lines
pub mod Orders
pub mod Commands
pub mod Ranges
pub mod Seals
