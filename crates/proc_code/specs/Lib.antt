pub mod Numbers
pub mod Resolved
pub mod Coded
pub mod Laws
pub mod Weighed
