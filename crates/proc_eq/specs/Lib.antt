pub mod Solution
pub mod Classes
pub mod Merged
pub mod Choice
pub mod Chosen
