pub mod Modes
pub mod ModeOrder
pub mod Calls
