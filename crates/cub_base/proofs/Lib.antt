pub mod Bools
pub mod Conjunctions
pub mod Elements
pub mod Members
pub mod Mixed
pub mod Numbered
pub mod Searches
