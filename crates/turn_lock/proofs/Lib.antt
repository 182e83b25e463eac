pub mod Bases
pub mod Seats
pub mod Entries
pub mod Moves
pub mod Forks
pub mod Gives
