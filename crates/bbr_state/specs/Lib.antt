pub mod Tests
pub mod Gains
pub mod Makers
pub mod Targets
pub mod Cycle
pub mod Rates
