pub mod Pacers
