pub mod Loop
pub mod Exact
pub mod Repeats
pub mod Productions
pub mod Levels
pub mod Sentences
