pub mod Heights
pub mod Choosing
pub mod Gathered
pub mod Spans
pub mod KeySets
pub mod Writers
pub mod Placed
pub mod Folded
