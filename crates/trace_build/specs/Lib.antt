pub mod Sought
pub mod Picks
pub mod First
pub mod Trace
pub mod Origins
