pub mod Views
pub mod Rule
pub mod Steps
pub mod Standing
pub mod Ledger
pub mod Passes
