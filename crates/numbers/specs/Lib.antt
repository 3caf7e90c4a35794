pub mod Nearest
pub mod Whole
pub mod Seconds
pub mod Root
pub mod Figures
