pub mod Steps
pub mod Schedules
pub mod Reading
pub mod Running
pub mod Bare
pub mod InHands
pub mod Laws
