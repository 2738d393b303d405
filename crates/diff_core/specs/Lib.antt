pub mod Constraints
pub mod Closed
pub mod Closure
pub mod Table
pub mod Relaxes
pub mod Search
pub mod Sizes
pub mod Closing
