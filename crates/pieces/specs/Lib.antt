pub mod Options
pub mod Marks
pub mod Jobs
pub mod Handed
pub mod Idle
pub mod Alone
