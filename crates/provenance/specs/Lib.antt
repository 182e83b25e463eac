pub mod Grammar
pub mod Versions
pub mod Answer
pub mod Asked
pub mod Chosen
pub mod Laws
