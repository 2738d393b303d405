pub mod Theory
pub mod Made
pub mod Loaded
