pub mod Sets
pub mod Held
pub mod Sides
pub mod Graph
pub mod Levels
pub mod Table
pub mod Fitting
pub mod Laws
