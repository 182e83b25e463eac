pub mod Halves
pub mod Hashing
pub mod Late
pub mod Marking
