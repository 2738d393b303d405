pub mod Bridging
pub mod Stages
pub mod WayStages
pub mod Assembly
pub mod Pruning
