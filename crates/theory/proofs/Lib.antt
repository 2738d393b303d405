pub mod Starts
pub mod Parting
pub mod Following
pub mod Filling
