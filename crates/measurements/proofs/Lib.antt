pub mod Cuts
pub mod Decimal
