pub mod Exact
pub mod Things
pub mod Loop
