pub mod Verifies
pub mod Replays
