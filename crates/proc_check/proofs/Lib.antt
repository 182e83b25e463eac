pub mod Limits
pub mod Bounds
pub mod Operators
pub mod Columns
pub mod Names
pub mod Typed_values
pub mod Bindings
pub mod Fitting
pub mod Typed_lists
pub mod Running
pub mod Typed_runs
mod Places
