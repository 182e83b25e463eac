pub mod Hits
pub mod Log
pub mod Rows
pub mod Kept
