pub mod Plain
pub mod Declaring
