pub mod Buckets
pub mod Pacing
pub mod Laws
