pub mod Table
pub mod Language
pub mod Laws
