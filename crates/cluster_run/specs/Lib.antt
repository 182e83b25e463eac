pub mod Arrivals
pub mod Nodes
pub mod Standing
