pub mod Facts
pub mod Predecessors
pub mod Walks
