pub mod Sessions
pub mod Reports
