pub mod Standing
pub mod Blocked
pub mod Chain
pub mod Along
pub mod Leads
