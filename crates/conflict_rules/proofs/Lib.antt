pub mod FirstLate
pub mod Idle
pub mod Looked
pub mod Marks
pub mod Passed
