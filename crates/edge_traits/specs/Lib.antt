pub mod Causes
pub mod Fetched
pub mod Shelf
pub mod Sink
pub mod Memory
