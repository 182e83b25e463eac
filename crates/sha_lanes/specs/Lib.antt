pub mod Absorbed
pub mod Lanes
