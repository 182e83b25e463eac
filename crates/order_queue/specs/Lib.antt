pub mod Blocks
pub mod Drafts
pub mod Filled
pub mod Merge
pub mod Orders
pub mod Rule
pub mod Standing
pub mod Works
