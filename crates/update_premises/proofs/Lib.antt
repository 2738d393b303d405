pub mod UpdatesMeet
pub mod TransitionsMeet
pub mod WholeMeets
