pub mod Sums
pub mod Sound
pub mod Tables
