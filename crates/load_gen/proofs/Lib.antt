pub mod Spelled
pub mod Checking
pub mod Accounts
pub mod Sounding
pub mod Stepping
pub mod Listing
