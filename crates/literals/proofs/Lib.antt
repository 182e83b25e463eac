pub mod Parts
pub mod Plain
pub mod Numbers
pub mod Shrinks
pub mod Numerals
pub mod Again
pub mod Takes
