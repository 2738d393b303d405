pub mod Wrote
pub mod Together
pub mod InOrder
pub mod EffectsRead
