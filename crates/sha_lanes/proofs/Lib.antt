mod Bits
pub mod Lanes
mod Rounding
mod Taken
mod Turning
