pub mod Limits
pub mod Makers
pub mod Saturating
