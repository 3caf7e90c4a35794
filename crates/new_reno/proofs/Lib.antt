pub mod Limits
pub mod Worked
