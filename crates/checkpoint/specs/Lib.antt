pub mod Files
pub mod Majority
pub mod Printed
pub mod Folded
pub mod Laws
