pub mod Limits
pub mod Makers
pub mod Meaning
pub mod Rules
pub mod CongestionWindow
pub mod Growth
