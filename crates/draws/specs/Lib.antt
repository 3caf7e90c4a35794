pub mod Sources
pub mod Recordings
