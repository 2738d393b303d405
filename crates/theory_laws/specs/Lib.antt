pub mod Fitting
pub mod Built
pub mod Solved
pub mod Kinds
pub mod Entailed
pub mod Chosen
pub mod Start
pub mod Small
