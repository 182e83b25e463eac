pub mod Steady
pub mod Steadily
pub mod Wholes
pub mod Texts
pub mod Trees
pub mod Walked
pub mod Uptos
pub mod Unrefused
