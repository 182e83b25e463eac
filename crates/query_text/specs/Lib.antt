pub mod Keywords
pub mod Lists
pub mod Grammar
pub mod Shorter
pub mod Faults
pub mod Walk
pub mod Answered
