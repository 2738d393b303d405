pub mod Deciding
pub mod Gathering
pub mod Masks
pub mod Narrowing
pub mod Searching
pub mod Solving
