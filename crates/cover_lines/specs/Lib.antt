pub mod Obligations
pub mod Lines
pub mod Added
