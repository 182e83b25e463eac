pub mod Counted
pub mod Dealt
pub mod Filled
pub mod Lined
pub mod Merged
pub mod Moves
pub mod Submitted
pub mod Drafted
