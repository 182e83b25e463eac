pub mod Ids
pub mod Marks
pub mod Causes
pub mod Block
pub mod Chain
pub mod Results
pub mod Laws
