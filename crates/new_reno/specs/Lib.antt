pub mod Limits
pub mod ByteCounting
pub mod Steps
pub mod Figures
