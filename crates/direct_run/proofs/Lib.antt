pub mod Adding
pub mod Calls
pub mod Choices
pub mod Fitting
