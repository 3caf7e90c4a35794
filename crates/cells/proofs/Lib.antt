pub mod Kept
pub mod Says
pub mod Steps
