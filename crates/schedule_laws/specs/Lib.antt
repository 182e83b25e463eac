pub mod Records
pub mod Facts
pub mod Allowed
pub mod Due
pub mod Scheduled
pub mod Stable
pub mod Laws
