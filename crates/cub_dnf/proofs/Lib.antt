pub mod Joining
pub mod Sizing
pub mod Parting
pub mod Bounded
pub mod Induct
pub mod Folding
pub mod Truths
pub mod Fitting
