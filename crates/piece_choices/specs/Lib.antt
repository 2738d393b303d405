pub mod Placings
pub mod Picks
pub mod Selections
pub mod Conjunction
pub mod Pieces
