pub mod Asked
pub mod Distinct
pub mod Past
pub mod Sure
pub mod Written
