pub mod Got
pub mod Changed
pub mod Path
pub mod Planned
pub mod Remains
pub mod MachineView
