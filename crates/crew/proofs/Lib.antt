pub mod OneList
pub mod OneStep
pub mod Ending
pub mod Going
pub mod Stepping
pub mod OneLog
