pub mod Verdicts
pub mod OneTold
pub mod Telling
