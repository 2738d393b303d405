pub mod TransitionNames
pub mod TreeReads
pub mod StagesRead
