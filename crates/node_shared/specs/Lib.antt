pub mod Turn
pub mod Laws
