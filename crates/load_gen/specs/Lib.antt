pub mod Application
pub mod Drawing
pub mod Calling
pub mod Transactions
pub mod Blocks
pub mod Laws
