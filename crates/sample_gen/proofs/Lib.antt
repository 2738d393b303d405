pub mod NewNames
pub mod Declarable
pub mod Fitting
