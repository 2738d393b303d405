pub mod Ways
pub mod Chosen
pub mod Allowed
pub mod Sides
pub mod Through
