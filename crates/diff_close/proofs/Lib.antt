pub mod Terms
pub mod Translate
pub mod Ways
pub mod Closes
pub mod Chosen
