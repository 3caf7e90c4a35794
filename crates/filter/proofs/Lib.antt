pub mod Falls
pub mod SameSample
