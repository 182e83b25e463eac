pub mod Reads
pub mod Text
pub mod Part
pub mod Bytes
pub mod Number
pub mod Laws
