pub mod Driven
pub mod Growing
pub mod Paths
pub mod Planning
pub mod Sounds
pub mod Visited
