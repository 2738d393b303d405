pub mod Literals
pub mod Names
pub mod Scratch
pub mod AreNames
pub mod IsScratch
