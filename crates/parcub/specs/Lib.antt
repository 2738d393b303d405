pub mod Files
pub mod Replays
pub mod Verifies
pub mod Checks
pub mod Answer
pub mod Laws
