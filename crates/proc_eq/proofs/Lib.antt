pub mod Conjunction
pub mod Merging
pub mod Closing
pub mod Choosing
