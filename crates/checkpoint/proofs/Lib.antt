mod Filed
pub mod Folding
mod Majorities
