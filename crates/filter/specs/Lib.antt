pub mod RttOrder
pub mod Filter
