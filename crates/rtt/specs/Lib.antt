pub mod Estimates
pub mod Histories
