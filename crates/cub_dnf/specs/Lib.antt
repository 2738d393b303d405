pub mod Lists
pub mod Normal
pub mod Measured
pub mod Fits
pub mod Meaning
