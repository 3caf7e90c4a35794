pub mod Aggregation
pub mod Rounds
pub mod Recovery
