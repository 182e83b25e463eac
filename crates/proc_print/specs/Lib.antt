pub mod Printed
pub mod Unlined
pub mod Laws
