pub mod Events
pub mod Replays
pub mod Sessions
pub mod Reports
