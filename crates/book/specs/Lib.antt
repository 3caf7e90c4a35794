pub mod Book
pub mod Requests
pub mod Agreement
pub mod Settings
pub mod Theorem
pub mod Text
