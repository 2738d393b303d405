pub mod Spot
pub mod TermTree
pub mod Tree
pub mod Sentences
