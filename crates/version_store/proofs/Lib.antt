pub mod Found
pub mod Leasts
pub mod Spans
