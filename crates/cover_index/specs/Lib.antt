pub mod Counted
pub mod Asked
pub mod Columns
pub mod Indexed
pub mod Sealed
pub mod Stored
pub mod Noted
