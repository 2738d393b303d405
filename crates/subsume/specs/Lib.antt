pub mod Injections
pub mod Standing
pub mod Ready
pub mod Scanned
pub mod Marks
pub mod Gathering
pub mod Summary
