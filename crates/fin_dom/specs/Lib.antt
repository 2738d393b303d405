pub mod Solution
pub mod Table
pub mod Links
pub mod Gathered
pub mod Tried
