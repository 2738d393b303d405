pub mod FitsEvent
pub mod Fault
pub mod Start
pub mod Bound
pub mod FitsStart
pub mod Machine
pub mod Reads
pub mod Writes
