pub mod Curves
pub mod Steps
