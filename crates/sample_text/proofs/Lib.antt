pub mod Literals
pub mod Normal
