pub mod Mentioned
pub mod Order
pub mod Putting
pub mod Walking
pub mod Owing
pub mod Looping
pub mod Passing
pub mod Refusing
