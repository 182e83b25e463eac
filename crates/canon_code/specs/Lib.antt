pub mod Codes
pub mod Parts
pub mod Reads
pub mod Values
pub mod Rows
pub mod Writes
pub mod Laws
