pub mod Sound
pub mod Model
pub mod Figures
pub mod Keeps
