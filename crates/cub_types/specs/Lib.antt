pub mod Formulas
pub mod Guards
pub mod Bodies
pub mod Writes
pub mod Joined
pub mod Typing
pub mod Typed
pub mod Laws
