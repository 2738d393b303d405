pub mod Trace
pub mod Plain
pub mod Judge
pub mod Laws
