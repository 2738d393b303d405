pub mod Masks
pub mod Literals
pub mod Asked
pub mod FormulasMeet
pub mod GuardsMeet
pub mod BodiesMeet
pub mod NamesMeet
pub mod ReadRest
