pub mod Codable
pub mod Grammar
pub mod Joined
pub mod Readings
pub mod Decoding
pub mod Laws
pub mod Lent
